-- Specifiers with a local part agree with their ranges at each candidate as it is.
use Rattle.std.proofs.Common.{◌≡◌, ◌∙◌, true, false, not, ◌&&◌, List, [], ◌∷◌, map, All, refl, ap}
use Rattle.std.proofs.lemmas.List.Elements.{recursion_from_All}
use Rattle.std.specs.List.{AllByRecursion, list_all}
use Rattle.std.specs.Option.{is_some}
use Rattle.std.specs.Ordering.{is_eq}
use Rattle.version_ranges.specs.Point.{Point, At}
use Rattle.version_ranges.specs.Held.{holds_at}
use Rattle.pep440_version.specs.Record.{Segment, VersionRecord}
use Rattle.pep440_version.specs.Order.{version_cmp}
use Rattle.pep440_operator.specs.declared.operator.Operator.{Operator}
use Rattle.pep440_operator.specs.declared.operator.Operator.TheVariants.{Equal, EqualStar, ExactEqual}
use Rattle.pep440_operator.specs.declared.operator.Operator.TheVariants.{NotEqual, NotEqualStar, TildeEqual}
use Rattle.pep440_operator.specs.declared.operator.Operator.TheVariants.{LessThan, LessThanEqual}
use Rattle.pep440_operator.specs.declared.operator.Operator.TheVariants.{GreaterThan, GreaterThanEqual}
use Rattle.pep440_operator.specs.Operators.{takes_local}
use Rattle.pep440_specifier.specs.Matching.{SpecifierRecord, seen_beside, candidate_cmp, matches}
use Rattle.pep440_specifier_list.specs.Lists.{matches_all}
use Rattle.pep440_range.specs.Agreement.{AgreesEverywhere}
use Rattle.pep440_range.specs.Ranges.{range_of, range_by, range_holds}
use Rattle.reqtable_range.specs.Sorting.{IsLocal}
use Rattle.reqtable_range.specs.Together.{HasRange, IsShared}

-- beside a local part a candidate is seen as it is
seen_whole : (segments : List Segment) (candidate : VersionRecord) → ¬ (segments ≡ [])
    → candidate ≡ seen_beside segments candidate
seen_whole [] candidate local = absurd (local refl)
seen_whole (segment ∷ segments) candidate local = refl

cmp_whole : (version candidate : VersionRecord) → ¬ (version.local ≡ [])
    → version_cmp candidate version ≡ candidate_cmp version candidate
cmp_whole version candidate local =
    ap (λ (seen : VersionRecord). version_cmp seen version) (seen_whole version.local candidate local)

local_agrees : (operator : Operator) (version candidate : VersionRecord)
    → (takes_local operator ≡ false → version.local ≡ []) → ¬ (version.local ≡ [])
    → AgreesEverywhere operator version
    → range_holds (range_by operator version) (At candidate) ≡ matches operator version candidate
local_agrees Equal version candidate built local h = ap is_eq (cmp_whole version candidate local)
local_agrees EqualStar version candidate built local h = absurd (local (built refl))
local_agrees ExactEqual version candidate built local h = absurd h
local_agrees NotEqual version candidate built local h = ap (λ o. not (is_eq o)) (cmp_whole version candidate local)
local_agrees NotEqualStar version candidate built local h = absurd (local (built refl))
local_agrees TildeEqual version candidate built local h = absurd (local (built refl))
local_agrees LessThan version candidate built local h = absurd (local (built refl))
local_agrees LessThanEqual version candidate built local h = absurd (local (built refl))
local_agrees GreaterThan version candidate built local h = absurd (local (built refl))
local_agrees GreaterThanEqual version candidate built local h = absurd (local (built refl))

local_has : (operator : Operator) (version : VersionRecord)
    → (takes_local operator ≡ false → version.local ≡ []) → ¬ (version.local ≡ [])
    → AgreesEverywhere operator version → is_some (range_by operator version) ≡ true
local_has Equal version built local h = refl
local_has EqualStar version built local h = absurd (local (built refl))
local_has ExactEqual version built local h = absurd h
local_has NotEqual version built local h = refl
local_has NotEqualStar version built local h = absurd (local (built refl))
local_has TildeEqual version built local h = absurd (local (built refl))
local_has LessThan version built local h = absurd (local (built refl))
local_has LessThanEqual version built local h = absurd (local (built refl))
local_has GreaterThan version built local h = absurd (local (built refl))
local_has GreaterThanEqual version built local h = absurd (local (built refl))

pub local_range : (member : SpecifierRecord) → IsLocal member → HasRange member
local_range member h = local_has member.operator member.version h.built.local h.has_local h.agrees

all_local : (members : List SpecifierRecord) (candidate : VersionRecord) → AllByRecursion IsLocal members
    → list_all (λ range. range_holds range (At candidate)) (map range_of members) ≡ matches_all members candidate
all_local [] candidate all = refl
all_local (member ∷ members) candidate all =
    let m = all.0 in
    let first = local_agrees member.operator member.version candidate m.built.local m.has_local m.agrees in
    let rest = all_local members candidate all.1 in
    λ i. first i && rest i

-- the shared range of such specifiers tells what they accept
pub local_tells : (members : List SpecifierRecord) (candidate : VersionRecord) (set : List (Point VersionRecord))
    → All IsLocal members → IsShared members set
    → holds_at version_cmp set (At candidate) ≡ matches_all members candidate
local_tells members candidate set all shared =
    shared.1 (At candidate) ∙ all_local members candidate (recursion_from_All IsLocal members all)
