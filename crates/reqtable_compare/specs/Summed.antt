-- The cases of a package's lines, by what they require.
use Rattle.std.specs.Prelude.{◌≡◌, ◌⊎◌, ℕ, Bool, true, false, List, [], ◌∷◌, Option, Some, None}
use Rattle.std.specs.List.{list_any, AllZip}
use Rattle.std.specs.List.Sorted.{IsStrictlySortedBy}
use Rattle.std.specs.Ordering.{nat_cmp}
use Rattle.std.specs.Cmp.Lexicographic.{slice_cmp}
use Rattle.std.specs.Str.{bytes_eq}
use Rattle.version_ranges.specs.Point.{Point}
use Rattle.version_ranges.specs.Held.{HoldSamePoints, holds_at}
use Rattle.pep440_version.specs.Record.{VersionRecord}
use Rattle.pep440_version.specs.Order.{version_cmp}
use Rattle.pep508_tree.specs.Tree.{Tree}
use Rattle.pep508_tree.specs.Meaning.{NodeRecord}
use Rattle.pep508_requirement_text.specs.FrontReading.{Front}
use Rattle.pep508_cases.specs.Cases.{Marks, AreCases}
use Rattle.reqtable_answer.specs.Asks.{has_extra, names_prerelease}
use Rattle.reqtable_requirements.specs.LineReading.{LineRecord}
use Rattle.reqtable_cases.specs.Lines.{line_marks, asked_by}
use Rattle.reqtable_cases.specs.Usable.{is_usable, IsRangeOf}
use Rattle.reqtable_compare.specs.declared.sides.Relation.{Relation}
use Rattle.reqtable_compare.specs.declared.sides.Relation.TheVariants as relations

-- a case: whether it has lines, their extras, the range that they share, whether some specifier of them names
-- a pre-release, and the tree that holds where the case applies
pub record SummaryRecord : Type 0 where
  pub some : Bool
  pub extras : List (List ℕ)
  pub range : Option (List (Point VersionRecord))
  pub prerelease : Bool
  pub tree : Tree

abbrev pub SameRange : Option (List (Point VersionRecord)) → Option (List (Point VersionRecord)) → Type 0
SameRange (Some a) (Some b) = HoldSamePoints version_cmp a b
SameRange (Some a) None = ⊥
SameRange None other = ⊥

-- both cases have lines, which require the same
pub record BothAlike (a b : SummaryRecord) : Type 0 where
  pub some : a.some ≡ true
  pub other : b.some ≡ true
  pub extras : a.extras ≡ b.extras
  pub range : SameRange a.range b.range
  pub prerelease : a.prerelease ≡ b.prerelease

abbrev pub Alike : SummaryRecord → SummaryRecord → Type 0
Alike a b = ((a.some ≡ false) × (b.some ≡ false)) ⊎ BothAlike a b

-- each extra of the second list is one of the first
abbrev pub HasAll : List (List ℕ) → List (List ℕ) → Type 0
HasAll extras wanted =
    (extra : List ℕ) → list_any (bytes_eq extra) wanted ≡ true → list_any (bytes_eq extra) extras ≡ true

-- each point of the first set is one of the second
abbrev pub HoldsWithin : List (Point VersionRecord) → List (Point VersionRecord) → Type 0
HoldsWithin a b =
    (p : Point VersionRecord) → holds_at version_cmp a p ≡ true → holds_at version_cmp b p ≡ true

abbrev pub WithinRange : Option (List (Point VersionRecord)) → Option (List (Point VersionRecord)) → Type 0
WithinRange (Some a) (Some b) = HoldsWithin a b
WithinRange (Some a) None = ⊥
WithinRange None other = ⊥

-- the first case has lines, which require at least what the second requires
pub record RequiresAtLeast (a b : SummaryRecord) : Type 0 where
  pub some : a.some ≡ true
  pub extras : HasAll a.extras b.extras
  pub range : WithinRange a.range b.range

abbrev pub Covering : SummaryRecord → SummaryRecord → Type 0
Covering a b = (b.some ≡ false) ⊎ RequiresAtLeast a b

-- what both cases require is as the relation has it
abbrev pub Fit : Relation → SummaryRecord → SummaryRecord → Type 0
Fit relations.Alike a b = Alike a b
Fit relations.Covering a b = Covering a b

abbrev pub some_asks : List Front → Bool
some_asks [] = false
some_asks (ask ∷ asks) = true

-- the summary of a case with these requirements, which are usable; one without lines needs no range
pub record IsSummaryOf (asks : List Front) (summary : SummaryRecord) : Type 0 where
  pub some : summary.some ≡ some_asks asks
  pub rising : IsStrictlySortedBy (slice_cmp nat_cmp) summary.extras
  pub extras : (extra : List ℕ) → list_any (bytes_eq extra) summary.extras ≡ list_any (has_extra extra) asks
  pub usable : is_usable asks ≡ true
  pub range : some_asks asks ≡ true → IsRangeOf asks summary.range
  pub prerelease : summary.prerelease ≡ names_prerelease asks

-- the summary of a set of the lines with its tree
pub record IsOfSet (lines : List LineRecord) (summary : SummaryRecord) (set : Marks × Tree) : Type 0 where
  pub asks : IsSummaryOf (asked_by set.0 lines) summary
  pub tree : summary.tree ≡ set.1

-- the summaries of the cases of some lines, in their order
pub record AreSummaries (nodes : List NodeRecord) (lines : List LineRecord) (summaries : List SummaryRecord)
    : Type 0 where
  pub sets : List (Marks × Tree)
  pub are : AreCases (line_marks lines) nodes sets
  pub each : AllZip (IsOfSet lines) summaries sets
