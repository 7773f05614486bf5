-- The lines of some packages.
use Rattle.std.specs.Prelude.{ℕ, ◌≤◌, ◌^◌, List, [], map, filter, Vec}
use Rattle.std.specs.Borrow.{Bor}
use Rattle.std.specs.BTreeMap.{BTreeMap}
use Rattle.std.specs.List.{list_any}
use Rattle.std.specs.Option.{option_map_or}
use Rattle.std.specs.Str.{bytes_eq}
use Rattle.reqtable_answer.specs.Groups.{group_of}
use Rattle.reqtable_requirements.specs.LineReading.{LineRecord}
use Rattle.reqtable_requirements.specs.declared.requirements.Line.{Line}
use Rattle.reqtable_table.specs.Given.{is_under}

-- the lines of a package
abbrev pub lines_under : List ℕ → List Line → List Line
lines_under name lines = filter (is_under name) lines

-- the number of all subsets of `count` lines is within the limit
abbrev pub HasRoom : ℕ → ℕ → Type 0
HasRoom limit count = 2 ^ count ≤ limit

-- the records of the lines of these packages
abbrev pub said_among : List (List ℕ) → List LineRecord → List LineRecord
said_among names said = filter (λ line. list_any (bytes_eq line.front.name) names) said

-- ---- in the types of the code

abbrev pub lent : List (Bor Line) → List Line
lent lines = map (λ line. line.now) lines

-- the lines under a name of lines grouped by package
abbrev pub lines_at : {Y : Type 0} → BTreeMap (Bor (List ℕ)) (Vec (Bor Line) Y) → List ℕ → List Line
lines_at groups name = option_map_or (λ lines. lent lines.items) (group_of groups name) []
