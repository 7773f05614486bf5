-- What a table keeps of a package, and of which lines.
use Rattle.std.specs.Prelude.{◌≡◌, ℕ, Bool, true, false, List, [], map, flat_map, if◌then◌else◌}
use Rattle.std.specs.List.{list_any, AllZip}
use Rattle.std.specs.List.Sorted.{IsStrictlySortedBy}
use Rattle.std.specs.Ordering.{nat_cmp}
use Rattle.std.specs.Cmp.Lexicographic.{slice_cmp}
use Rattle.std.specs.Str.{bytes_eq}
use Rattle.pep440_specifier.specs.Matching.{SpecifierRecord}
use Rattle.pep440_specifier_list.specs.Lists.{CountedRecord, IsInOrder}
use Rattle.pep508_tree.specs.Tree.{Tree}
use Rattle.pep508_tree.specs.Meaning.{NodeRecord}
use Rattle.pep508_cases.specs.Cases.{Marks}
use Rattle.pep508_marker_parser.specs.MarkerOutcome.{IsTreeOf}
use Rattle.pep508_requirement_text.specs.FrontReading.{Source, Front}
use Rattle.pep508_requirement_text.specs.FrontReading.Source.{Specifiers, Url}
use Rattle.reqtable_answer.specs.Asks.{specifiers_of, is_url}
use Rattle.reqtable_requirements.specs.LineReading.{LineRecord}
use Rattle.reqtable_requirements.specs.Asks.{lines_of}
use Rattle.reqtable_search.specs.Told.{is_bound}
use Rattle.reqtable_cases.specs.Lines.{is_named}

-- a line of a package: its number, extras and marker, whether it has a URL, whether one of its specifiers has
-- `<` or `>`, and the specifiers with their counter
pub record KeptLine : Type 0 where
  pub number : ℕ
  pub extras : List (List ℕ)
  pub marker : Tree
  pub url : Bool
  pub bounded : Bool
  pub specifiers : CountedRecord

-- a case of a package: which of the lines it has, the numbers of these, a tree, and whether some specifier of
-- these names a pre-release
pub record KeptCase : Type 0 where
  pub set : Marks
  pub numbers : List ℕ
  pub tree : Tree
  pub prerelease : Bool

pub record KeptPackage : Type 0 where
  pub name : List ℕ
  pub cases : List KeptCase
  pub lines : List KeptLine

-- the names of a table's packages
abbrev pub names_in : List KeptPackage → List (List ℕ)
names_in table = map (λ p. p.name) table

-- the lines that a table keeps under a name
abbrev pub kept_under : List ℕ → List KeptPackage → List KeptLine
kept_under name table = flat_map (λ p. if bytes_eq name p.name then p.lines else []) table

-- a kept line is that of the record, its specifiers in the order of versions; its marker is a tree of these
-- nodes
pub record Keeps (nodes : List NodeRecord) (kept : KeptLine) (said : LineRecord) : Type 0 where
  pub number : kept.number ≡ said.number
  pub extras : kept.extras ≡ said.front.extras
  pub marker : IsTreeOf nodes kept.marker said.formula
  pub url : kept.url ≡ is_url said.front.source
  pub bounded : kept.bounded ≡ list_any (λ s. is_bound s.operator) kept.specifiers.members
  pub specifiers : IsInOrder (specifiers_of said.front.source) kept.specifiers.members

-- a table keeps exactly these lines, each under its package's name, in their order
pub record KeepsAll (nodes : List NodeRecord) (table : List KeptPackage) (said : List LineRecord)
    : Type 0 where
  pub rising : IsStrictlySortedBy (slice_cmp nat_cmp) (names_in table)
  pub named : (name : List ℕ) → list_any (bytes_eq name) (names_in table) ≡ is_named name said
  pub each : (name : List ℕ) → AllZip (Keeps nodes) (kept_under name table) (lines_of name said)

-- what a kept line requires, without its name
abbrev pub kept_source : Bool → List SpecifierRecord → Source
kept_source true members = Url []
kept_source false members = Specifiers members

abbrev pub kept_front : KeptLine → Front
kept_front line =
    record { name = []; extras = line.extras; source = kept_source line.url line.specifiers.members }
