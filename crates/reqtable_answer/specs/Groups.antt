-- Requirements, and candidates with their places, grouped by package.
use Rattle.std.specs.Prelude.{ℕ, ◌&&◌, Bool, true, List, [], map, Option, Some, None, is_some}
use Rattle.std.specs.Prelude.{if◌then◌else◌}
use Rattle.std.specs.List.{list_all}
use Rattle.std.specs.Option.{option_map_or}
use Rattle.std.specs.Ordering.{nat_cmp, is_gt}
use Rattle.std.specs.Cmp.Lexicographic.{slice_cmp}
use Rattle.std.specs.Borrow.{Bor}
use Rattle.std.specs.BTreeMap.{BTreeMap, get_by}
use Rattle.std.specs.declared.cmp.Ordering.{Ordering}
use Rattle.pep508_requirement_text.specs.FrontReading.{Front}
use Rattle.reqtable_candidates.specs.declared.candidates.Candidate.{Candidate}
use Rattle.reqtable_answer.specs.declared.choosing.Numbered.{Numbered}
use Rattle.reqtable_answer.specs.declared.grouping.Group.{Group}
use Rattle.reqtable_answer.specs.declared.ask.Ask.{Ask}
use Rattle.reqtable_answer.specs.Admission.{Admits}
use Rattle.reqtable_answer.specs.Asks.{ask_takes}
use Rattle.reqtable_answer.specs.Says.{ask_seen, asks_seen}

-- the group of a name, if it has one
abbrev pub group_of : {X : Type 0} → BTreeMap (Bor (List ℕ)) X → List ℕ → Option X
group_of groups name = get_by (λ k. slice_cmp nat_cmp name k.now) groups

abbrev pub has_group : {X : Type 0} → BTreeMap (Bor (List ℕ)) X → List ℕ → Bool
has_group groups name = is_some (group_of groups name)

abbrev pub asks_for : BTreeMap (Bor (List ℕ)) Group → List ℕ → List Front
asks_for groups name = option_map_or (λ g. asks_seen g.asks.items) (group_of groups name) []

abbrev pub numbered_seen : Numbered → ℕ × Candidate
numbered_seen numbered = (numbered.place, numbered.candidate.now)

abbrev pub candidates_for : BTreeMap (Bor (List ℕ)) Group → List ℕ → List (ℕ × Candidate)
candidates_for groups name =
    option_map_or (λ g. map numbered_seen g.candidates.items) (group_of groups name) []

-- a value is greater than another, or there is no other
abbrev pub exceeds : {K : Type 0} → (K → K → Ordering) → K → Option K → Bool
exceeds cmp x None = true
exceeds cmp x (Some y) = is_gt (cmp x y)

-- the value if it is greater than the best one before it and passes the test, otherwise the one before it
abbrev pub better_of : {K : Type 0} → (K → K → Ordering) → (K → Bool) → K → Option K → Option K
better_of cmp test x best = if exceeds cmp x best && test x then Some x else best

-- candidates pass if the requirements accept them and they are admitted, with this flag for pre-releases
abbrev pub passes_by : Admits → List Ask → Bool → ℕ × Candidate → Bool
passes_by admits asks prerelease c =
    list_all (λ ask. ask_takes c.1.version (ask_seen ask)) asks && admits c.1.version prerelease
