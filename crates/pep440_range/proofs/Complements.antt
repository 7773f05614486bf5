-- Ranges of operators and of their negations.
use Rattle.std.proofs.Common.{◌≡◌, ℕ, Bool, true, false, not, List, Option, Some, None, if◌then◌else◌}
use Rattle.std.proofs.Common.{refl, ap, sym, ◌∙◌}
use Rattle.std.specs.Option.{option_map}
use Rattle.std.specs.declared.cmp.Ordering.{Ordering}
use Rattle.std.specs.declared.cmp.Ordering.TheVariants.{Less, Equal, Greater}
use Rattle.std.specs.declared.ops.Bound.TheVariants.{Included, Excluded}
use Rattle.std.specs.Ordering.{ordering_then, ordering_reverse, is_lt, is_gt}
use Rattle.version_ranges.specs.Point.{Point, BelowAll, At, JustAbove, point_cmp}
use Rattle.version_ranges.specs.OrderLaws.{points_total}
use Rattle.pep440_version.specs.Record.{VersionRecord, release_record}
use Rattle.pep440_version.specs.Changes.{is_prerelease}
use Rattle.pep440_version.specs.Order.{version_cmp}
use Rattle.pep440_version.specs.OrderLaws.{version_cmp_total}
use Rattle.pep440_operator.specs.declared.operator.Operator.{Operator}
use Rattle.pep440_operator.specs.declared.operator.Operator.TheVariants as operators
use Rattle.pep440_operator.specs.Operators.{negated}
use Rattle.pep440_range.specs.Complements.{IsComplemented}
use Rattle.pep440_range.specs.Ranges.{PointTest, all_but, at_version, from_bound, to_bound, star_range}
use Rattle.pep440_range.specs.Ranges.{star_releases, end_of_less, range_by, release_range_by}
use Rattle.pep440_range.proofs.Orderings.{turned_less}

-- ---- complements of complements

not_twice : (b : Bool) → not (not b) ≡ b
not_twice true = refl
not_twice false = refl

pub rest_of_rest : (test : PointTest) → all_but (all_but test) ≡ test
rest_of_rest test = λ i p. not_twice (test p) i

mapped_rest : (range : Option PointTest) → range ≡ option_map all_but (option_map all_but range)
mapped_rest None = refl
mapped_rest (Some test) = ap Some (sym (rest_of_rest test))

-- ---- complements of bounds

pub turned : (p q : Point VersionRecord) → point_cmp version_cmp p q
    ≡ ordering_reverse (point_cmp version_cmp q p)
turned p q = (points_total version_cmp version_cmp_total).antisymm p q

-- what is not from a version on lies below it
pub below_is_rest : (version : VersionRecord) → to_bound (Excluded version)
    ≡ all_but (from_bound (Included version))
below_is_rest version = λ i p. pointwise p i
  where
    pointwise : (p : Point VersionRecord) → is_lt (point_cmp version_cmp p (At version))
        ≡ not (not (is_gt (point_cmp version_cmp (At version) p)))
    pointwise p = ap is_lt (turned p (At version)) ∙ turned_less (point_cmp version_cmp (At version) p)
        ∙ sym (not_twice (is_gt (point_cmp version_cmp (At version) p)))

pub from_is_rest : (version : VersionRecord) → from_bound (Included version)
    ≡ all_but (to_bound (Excluded version))
from_is_rest version = sym (rest_of_rest (from_bound (Included version)))
    ∙ ap all_but (sym (below_is_rest version))

by_turn : (o : Ordering) → not (is_gt (ordering_then (ordering_reverse o) Greater)) ≡ not (not (is_gt o))
by_turn Less = refl
by_turn Equal = refl
by_turn Greater = refl

by_turn_above : (o : Ordering) → not (is_gt (ordering_reverse o))
    ≡ not (not (is_gt (ordering_then o Greater)))
by_turn_above Less = refl
by_turn_above Equal = refl
by_turn_above Greater = refl

-- what is not up to a version lies behind it
pub behind_is_rest : (version : VersionRecord) → from_bound (Excluded version)
    ≡ all_but (to_bound (Included version))
behind_is_rest version = λ i p. pointwise p i
  where
    pointwise : (p : Point VersionRecord) → not (is_gt (point_cmp version_cmp (JustAbove version) p))
        ≡ not (not (is_gt (point_cmp version_cmp p (At version))))
    pointwise BelowAll = refl
    pointwise (At w) = ap (λ o. not (is_gt (ordering_then o Greater)))
        (version_cmp_total.antisymm version w) ∙ by_turn (version_cmp w version)
    pointwise (JustAbove w) = ap (λ o. not (is_gt o)) (version_cmp_total.antisymm version w)
        ∙ by_turn_above (version_cmp w version)

pub to_is_rest : (version : VersionRecord) → to_bound (Included version)
    ≡ all_but (from_bound (Excluded version))
to_is_rest version = sym (rest_of_rest (to_bound (Included version)))
    ∙ ap all_but (sym (behind_is_rest version))

-- ---- of operators and their negations

-- what holds of the negation's range, by its name
by_name : (range : Operator → Option PointTest) (named other : Operator) (wanted : Option PointTest)
    → Some named ≡ Some other → range named ≡ wanted → range other ≡ wanted
by_name range named other wanted e h = let same : named ≡ other = cc in ap range (sym same) ∙ h

pub release_rest : (operator other : Operator) (release : List ℕ) → negated operator ≡ Some other
    → release_range_by other release ≡ option_map all_but (release_range_by operator release)
release_rest operator other release =
    let range : Operator → Option PointTest = λ o. release_range_by o release in
    let version : VersionRecord = release_record release in
    elim operator as (λ o. negated o ≡ Some other → range other ≡ option_map all_but (range o)) [
      | operators.Equal ↦ λ e. by_name range operators.NotEqual other
          (option_map all_but (range operators.Equal)) e refl
      | operators.EqualStar ↦ λ e. by_name range operators.NotEqualStar other
          (option_map all_but (range operators.EqualStar)) e refl
      | operators.ExactEqual ↦ λ e. by_name range operators.NotEqual other
          (option_map all_but (range operators.ExactEqual)) e refl
      | operators.NotEqual ↦ λ e. by_name range operators.Equal other
          (option_map all_but (range operators.NotEqual)) e (mapped_rest (Some (at_version version)))
      | operators.NotEqualStar ↦ λ e. by_name range operators.EqualStar other
          (option_map all_but (range operators.NotEqualStar)) e (mapped_rest (star_releases release))
      | operators.TildeEqual ↦ λ e. absurd (cc)
      | operators.LessThan ↦ λ e. by_name range operators.GreaterThanEqual other
          (option_map all_but (range operators.LessThan)) e (ap Some (from_is_rest version))
      | operators.LessThanEqual ↦ λ e. by_name range operators.GreaterThan other
          (option_map all_but (range operators.LessThanEqual)) e (ap Some (behind_is_rest version))
      | operators.GreaterThan ↦ λ e. by_name range operators.LessThanEqual other
          (option_map all_but (range operators.GreaterThan)) e (ap Some (to_is_rest version))
      | operators.GreaterThanEqual ↦ λ e. by_name range operators.LessThan other
          (option_map all_but (range operators.GreaterThanEqual)) e (ap Some (below_is_rest version))
    ]

-- the end of what is less than a pre- or developmental release is that release
own_end : (version : VersionRecord) → is_prerelease version ≡ true → end_of_less version ≡ version
own_end version h = ap (λ b. if b then version else record version { least = Some 0 }) h

pub range_rest : (operator other : Operator) (version : VersionRecord) → negated operator ≡ Some other
    → IsComplemented operator version → range_by other version
    ≡ option_map all_but (range_by operator version)
range_rest operator other version =
    let range : Operator → Option PointTest = λ o. range_by o version in
    elim operator as (λ o. negated o ≡ Some other → IsComplemented o version → range other
    ≡ option_map all_but (range o)) [
      | operators.Equal ↦ λ e h. by_name range operators.NotEqual other
          (option_map all_but (range operators.Equal)) e refl
      | operators.EqualStar ↦ λ e h. by_name range operators.NotEqualStar other
          (option_map all_but (range operators.EqualStar)) e refl
      | operators.ExactEqual ↦ λ e h. by_name range operators.NotEqual other
          (option_map all_but (range operators.ExactEqual)) e refl
      | operators.NotEqual ↦ λ e h. by_name range operators.Equal other
          (option_map all_but (range operators.NotEqual)) e (mapped_rest (Some (at_version version)))
      | operators.NotEqualStar ↦ λ e h. by_name range operators.EqualStar other
          (option_map all_but (range operators.NotEqualStar)) e (mapped_rest (star_range version))
      | operators.TildeEqual ↦ λ e h. absurd h
      | operators.LessThan ↦ λ e h. by_name range operators.GreaterThanEqual other
          (option_map all_but (range operators.LessThan)) e
          (ap Some (from_is_rest version)
          ∙ ap (λ (end : VersionRecord). Some (all_but (to_bound (Excluded end))))
          (sym (own_end version h)))
      | operators.LessThanEqual ↦ λ e h. absurd h
      | operators.GreaterThan ↦ λ e h. absurd h
      | operators.GreaterThanEqual ↦ λ e h. by_name range operators.LessThan other
          (option_map all_but (range operators.GreaterThanEqual)) e
          (ap (λ (end : VersionRecord). Some (to_bound (Excluded end))) (own_end version h)
          ∙ ap Some (below_is_rest version))
    ]
