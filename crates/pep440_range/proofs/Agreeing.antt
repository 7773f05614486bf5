-- The range of each operator holds what the operator takes.
use Rattle.std.proofs.Common.{◌≡◌, ◌&&◌, not, false, List, [], ◌∷◌, Some, is_some, refl, ap, sym, ◌∙◌}
use Rattle.std.specs.Ordering.{is_eq, is_lt, is_le, is_gt, is_ge}
use Rattle.std.specs.declared.ops.Bound.TheVariants.{Included, Excluded}
use Rattle.version_ranges.specs.Point.{At}
use Rattle.pep440_version.specs.Record.{Segment, VersionRecord}
use Rattle.pep440_version.specs.Changes.{is_prerelease}
use Rattle.pep440_version.specs.Order.{version_cmp}
use Rattle.pep440_version.specs.OrderLaws.{version_cmp_total}
use Rattle.pep440_operator.specs.declared.operator.Operator.{Operator}
use Rattle.pep440_operator.specs.declared.operator.Operator.TheVariants.{Equal, EqualStar, ExactEqual}
use Rattle.pep440_operator.specs.declared.operator.Operator.TheVariants.{NotEqual, NotEqualStar}
use Rattle.pep440_operator.specs.declared.operator.Operator.TheVariants.{TildeEqual, LessThan}
use Rattle.pep440_operator.specs.declared.operator.Operator.TheVariants.{LessThanEqual, GreaterThan}
use Rattle.pep440_operator.specs.declared.operator.Operator.TheVariants.{GreaterThanEqual}
use Rattle.pep440_specifier.specs.Matching.{seen_beside, candidate_cmp, same_release, has_front}
use Rattle.pep440_specifier.specs.Matching.{without_last, matches}
use Rattle.pep440_operator.specs.Operators.{takes_local}
use Rattle.pep440_range.specs.Ranges.{PointTest, at_version, from_bound, to_bound, all_but, star_range}
use Rattle.pep440_range.specs.Ranges.{end_of_less, range_by}
use Rattle.pep440_range.specs.Agreement.{IsSaid, Agrees}
use Rattle.pep440_range.proofs.Orderings.{turned_not_greater, not_greater, mapped_from}
use Rattle.pep440_range.proofs.Stars.{star_agrees, compatible_agrees}
use Rattle.pep440_range.proofs.Sides.{less_agrees, greater_agrees}

-- a candidate without a local part is seen as it is
seen : (segments : List Segment) (candidate : VersionRecord) → candidate.local ≡ [] → candidate
    ≡ seen_beside segments candidate
seen [] candidate plain = λ i. record candidate { local = plain i }
seen (segment ∷ segments) candidate plain = refl

seen_cmp : (version candidate : VersionRecord) → candidate.local ≡ [] → version_cmp candidate version
    ≡ candidate_cmp version candidate
seen_cmp version candidate plain =
    ap (λ (other : VersionRecord). version_cmp other version) (seen version.local candidate plain)

pub holds_as : (test range : PointTest) (candidate : VersionRecord) → Some test ≡ Some range
    → range (At candidate) ≡ test (At candidate)
holds_as test range candidate e = let same : test ≡ range = cc in
    ap (λ (r : PointTest). r (At candidate)) (sym same)

pub agrees : (operator : Operator) (version candidate : VersionRecord) (range : PointTest)
    → (takes_local operator ≡ false → version.local ≡ []) → IsSaid version → IsSaid candidate
    → candidate.local ≡ [] → Agrees operator version candidate → range_by operator version ≡ Some range
    → range (At candidate) ≡ matches operator version candidate
agrees Equal version candidate range local said other_said plain apart e =
    holds_as (at_version version) range candidate e ∙ ap is_eq (seen_cmp version candidate plain)
agrees EqualStar version candidate range local said other_said plain apart e =
    star_agrees version candidate range other_said plain e
agrees ExactEqual version candidate range local said other_said plain apart e = absurd apart
agrees NotEqual version candidate range local said other_said plain apart e =
    holds_as (all_but (at_version version)) range candidate e
    ∙ ap (λ o. not (is_eq o)) (seen_cmp version candidate plain)
agrees NotEqualStar version candidate range local said other_said plain apart e =
    let found = mapped_from all_but (star_range version) range e in
    ap (λ (r : PointTest). r (At candidate)) (sym found.2)
    ∙ ap not (star_agrees version candidate found.0 other_said plain found.1)
agrees TildeEqual version candidate range local said other_said plain apart e =
    compatible_agrees version candidate range other_said plain e
    ∙ ap (λ o. has_front version.epoch (without_last version.release) candidate && is_ge o)
    (seen_cmp version candidate plain)
agrees LessThan version candidate range local said other_said plain apart e =
    holds_as (to_bound (Excluded (end_of_less version))) range candidate e
    ∙ less_agrees version candidate said (local refl) other_said plain apart
    ∙ ap (λ o. is_lt o && not (same_release version candidate
    && (is_prerelease candidate && not (is_prerelease version)))) (seen_cmp version candidate plain)
agrees LessThanEqual version candidate range local said other_said plain apart e =
    holds_as (to_bound (Included version)) range candidate e ∙ not_greater (version_cmp candidate version)
    ∙ ap is_le (seen_cmp version candidate plain)
agrees GreaterThan version candidate range local said other_said plain apart e =
    greater_agrees version candidate range said (local refl) other_said plain apart e
    ∙ ap (λ o. is_gt o && not (same_release version candidate
    && (is_some candidate.post && not (is_some version.post)))) (seen_cmp version candidate plain)
agrees GreaterThanEqual version candidate range local said other_said plain apart e =
    holds_as (from_bound (Included version)) range candidate e
    ∙ ap (λ o. not (is_gt o)) (version_cmp_total.antisymm version candidate)
    ∙ turned_not_greater (version_cmp candidate version)
    ∙ ap is_ge (seen_cmp version candidate plain)
