-- The replies on lists of specifiers as ranges (PEP 440, "Version specifiers"): on the points in them.
use Rattle.std.specs.Prelude.{◌≡◌, ◌⊎◌, ℕ, true, false, List, codes, map, IsTrue}
use Rattle.std.specs.Option.{is_some}
use Rattle.std.specs.List.{list_all}
use Rattle.version_ranges.specs.Point.{Point}
use Rattle.pep440_version.specs.Record.{VersionRecord}
use Rattle.pep440_specifier.specs.Matching.{SpecifierRecord}
use Rattle.pep440_range.specs.Ranges.{PointTest, range_of, all_hold}
use Rattle.reqs_c_reply.specs.declared.place.Place.{Place}
use Rattle.reqs_c_reply.specs.Endings.{Ending, EndsIn, span}
use Rattle.reqs_c_versions.specs.Specifiers.{IsListIn, RefusesList}

-- ---- the range of a list

-- bytes are the text of a list whose specifiers all have ranges, whose intersection has these points
pub record IsRangeIn (bytes : List ℕ) (range : PointTest) : Type 0 where
  pub members : List SpecifierRecord
  pub is_list : IsListIn bytes members
  pub have_ranges : list_all is_some (map range_of members) ≡ true
  pub holds : (p : Point VersionRecord) → range p ≡ all_hold (map range_of members) p

-- the argument of this number is a list with a specifier that has no range: a number that has to be raised is
-- the greatest of 64 bits
pub record IsNoRange (input : ℕ) (bytes : List ℕ) (place : Place) (message : List ℕ) : Type 0 where
  pub members : List SpecifierRecord
  pub is_list : IsListIn bytes members
  pub no_range : list_all is_some (map range_of members) ≡ false
  pub stands : place ≡ span input 0 0
  pub says : message ≡ codes "a version number can't be raised"

-- why the argument of this number is refused
abbrev pub RefusesRange : ℕ → List ℕ → Place → List ℕ → Type 0
RefusesRange input bytes place message =
    RefusesList input bytes place message ⊎ IsNoRange input bytes place message

-- the second argument is refused, and the first has a range
pub record RefusesSecond (left right : List ℕ) (place : Place) (message : List ℕ) : Type 0 where
  pub range : PointTest
  pub is_range : IsRangeIn left range
  pub refuses : RefusesRange 2 right place message

-- why one of two lists is refused: the first for a fault of its own, before the second
abbrev pub RefusesRanges : List ℕ → List ℕ → Place → List ℕ → Type 0
RefusesRanges left right place message =
    RefusesRange 1 left place message ⊎ RefusesSecond left right place message

-- ---- what holds of ranges

-- no point is in both; some point is in both
abbrev pub AreDisjoint : PointTest → PointTest → Type 0
AreDisjoint left right = (p : Point VersionRecord) → IsTrue (left p) → ¬ (IsTrue (right p))

abbrev pub Meet : PointTest → PointTest → Type 0
Meet left right = (p : Point VersionRecord) × IsTrue (left p) × IsTrue (right p)

-- each point of the left one is in the right one; some point isn't
abbrev pub IsSubset : PointTest → PointTest → Type 0
IsSubset left right = (p : Point VersionRecord) → IsTrue (left p) → IsTrue (right p)

abbrev pub GoesBeyond : PointTest → PointTest → Type 0
GoesBeyond left right = (p : Point VersionRecord) × IsTrue (left p) × ¬ (IsTrue (right p))

-- no point is in it; some point is
abbrev pub IsEmpty : PointTest → Type 0
IsEmpty range = (p : Point VersionRecord) → ¬ (IsTrue (range p))

abbrev pub HoldsSome : PointTest → Type 0
HoldsSome range = (p : Point VersionRecord) × IsTrue (range p)

-- ---- the answers

-- `1` if the first holds, `0` if the second does
abbrev pub Says : Type 0 → Type 0 → List ℕ → Type 0
Says Yes No text = ((text ≡ codes "1") × Yes) ⊎ ((text ≡ codes "0") × No)

-- two lists have ranges, and the text is which of these relations holds of them
pub record SaysOfRanges (Yes No : PointTest → PointTest → Type 0) (left right text : List ℕ) : Type 0 where
  pub first : PointTest
  pub second : PointTest
  pub is_first : IsRangeIn left first
  pub is_second : IsRangeIn right second
  pub says : Says (Yes first second) (No first second) text

-- a list has a range, and the text is whether it is empty
pub record SaysIsEmpty (bytes text : List ℕ) : Type 0 where
  pub range : PointTest
  pub is_range : IsRangeIn bytes range
  pub says : Says (IsEmpty range) (HoldsSome range) text

-- how a call for whether the ranges of two lists are disjoint ends
abbrev pub RangesDisjointEnds : List ℕ → List ℕ → Ending → Type 0
RangesDisjointEnds left right = EndsIn (SaysOfRanges AreDisjoint Meet left right) (RefusesRanges left right)

-- how a call for whether the left list's range is a subset of the right one's ends
abbrev pub SubsetEnds : List ℕ → List ℕ → Ending → Type 0
SubsetEnds left right = EndsIn (SaysOfRanges IsSubset GoesBeyond left right) (RefusesRanges left right)

-- how a call for whether a list's range is empty ends
abbrev pub EmptyEnds : List ℕ → Ending → Type 0
EmptyEnds bytes = EndsIn (SaysIsEmpty bytes) (RefusesRange 1 bytes)
