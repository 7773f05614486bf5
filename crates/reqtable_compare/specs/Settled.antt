-- Packages of which two lists have equal lines.
use Rattle.std.specs.Prelude.{◌≡◌, ◌⊎◌, ◌||◌, ℕ, true, false, List, [], ◌∷◌, length}
use Rattle.std.specs.List.{list_any, AllByRecursion}
use Rattle.std.specs.List.Sorted.{IsStrictlySortedBy}
use Rattle.std.specs.Ordering.{nat_cmp}
use Rattle.std.specs.Cmp.Lexicographic.{slice_cmp}
use Rattle.std.specs.Str.{bytes_eq}
use Rattle.reqtable_requirements.specs.declared.requirements.Line.{Line}
use Rattle.reqtable_table.specs.Given.{is_under}
use Rattle.reqtable_packages.specs.Packages.{HasRoom, lines_under}

-- two lines of a package are equal but for their numbers
pub record SayTheSame (a b : Line) : Type 0 where
  pub extras : a.requirement.extras.items ≡ b.requirement.extras.items
  pub asked : a.requirement.version_or_url ≡ b.requirement.version_or_url
  pub marker : a.requirement.marker ≡ b.requirement.marker

-- some line equals this one but for its number
abbrev pub IsSaidIn : List Line → Line → Type 0
IsSaidIn [] line = ⊥
IsSaidIn (other ∷ others) line = SayTheSame line other ⊎ IsSaidIn others line

abbrev pub AreSaidIn : List Line → List Line → Type 0
AreSaidIn others lines = AllByRecursion (IsSaidIn others) lines

-- lines of two lists are equal in any order, and so few that the number of their subsets is within the limit
pub record AreSettled (limit : ℕ) (lines others : List Line) : Type 0 where
  pub ours : AreSaidIn others lines
  pub theirs : AreSaidIn lines others
  pub few : HasRoom limit (length lines)
  pub few_others : HasRoom limit (length others)

-- names, each once and rising: every other package in either list is settled
pub record AreOpen (limit : ℕ) (left right : List Line) (names : List (List ℕ)) : Type 0 where
  pub rising : IsStrictlySortedBy (slice_cmp nat_cmp) names
  pub settled : (name : List ℕ) → list_any (bytes_eq name) names ≡ false →
      (list_any (is_under name) left || (list_any (is_under name) right || false)) ≡ true →
      AreSettled limit (lines_under name left) (lines_under name right)
