-- Among versions of release numbers alone: ranges among releases and matching.
use Rattle.std.proofs.Common.{◌≡◌, ℕ, ◌-◌, ◌&&◌, not, Bool, true, false, List, length, Some, refl, ap}
use Rattle.std.proofs.Common.{sym, ◌∙◌}
use Rattle.std.specs.declared.cmp.Ordering.TheVariants.{Equal}
use Rattle.std.specs.declared.ops.Bound.TheVariants.{Included, Excluded}
use Rattle.std.specs.Ordering.{ordering_then, is_lt, is_gt, is_ge}
use Rattle.version_ranges.specs.Point.{At}
use Rattle.pep440_version.specs.Record.{VersionRecord, release_record}
use Rattle.pep440_version.specs.Order.{padded_cmp, version_cmp}
use Rattle.pep440_version.specs.OrderLaws.{version_cmp_total}
use Rattle.pep440_text.specs.Releases.{last_raised}
use Rattle.pep440_operator.specs.declared.operator.Operator.{Operator}
use Rattle.pep440_operator.specs.declared.operator.Operator.TheVariants as operators
use Rattle.pep440_specifier.specs.Matching.{begins_padded, without_last, same_release, matches}
use Rattle.pep440_range.specs.Ranges.{PointTest, all_but, at_version, from_bound, to_bound, up_to}
use Rattle.pep440_range.specs.Ranges.{star_releases, release_range_by}
use Rattle.pep440_range.proofs.Orderings.{turned_not_greater, not_greater, turned_greater, then_level}
use Rattle.pep440_range.proofs.Orderings.{not_from, not_false, mapped_from}
use Rattle.pep440_range.proofs.Prefixes.{begins_between, front_above}
use Rattle.pep440_range.proofs.Fronts.{by_front, padded_front, before}
use Rattle.pep440_range.proofs.Stars.{joined}
use Rattle.pep440_range.proofs.Agreeing.{holds_as}

-- versions of release numbers alone compare as these do
pub releases_cmp : (a b : List ℕ) → version_cmp (release_record a) (release_record b) ≡ padded_cmp a b
releases_cmp a b =
    by_front (release_record a) (release_record b)
    ∙ ap (λ o. ordering_then o Equal) (padded_front (release_record a) (release_record b))
    ∙ then_level (padded_cmp a b)

reached_as : (a b : List ℕ) → not (is_gt (version_cmp (release_record a) (release_record b)))
    ≡ not (is_gt (padded_cmp a b))
reached_as a b = ap (λ o. not (is_gt o)) (releases_cmp a b)

ended_as : (a b : List ℕ) → is_lt (version_cmp (release_record a) (release_record b))
    ≡ is_gt (padded_cmp b a)
ended_as a b = before (release_record a) (release_record b) ∙ ap is_gt (releases_cmp b a)

star_holds : (release numbers end : List ℕ) → last_raised release ≡ Some end
    → up_to (release_record release) (release_record end) (At (release_record numbers))
    ≡ begins_padded release numbers
star_holds release numbers end e = (λ i. reached_as release numbers i && ended_as numbers end i)
    ∙ sym (begins_between release end numbers e)

star_agrees : (release numbers : List ℕ) (range : PointTest) → star_releases release ≡ Some range
    → range (At (release_record numbers)) ≡ begins_padded release numbers
star_agrees release numbers range e =
    let found = mapped_from (λ (end : List ℕ). up_to (release_record release) (release_record end))
    (last_raised release) range e in
    ap (λ (r : PointTest). r (At (release_record numbers))) (sym found.2)
    ∙ star_holds release numbers found.0 found.1

-- numbers not below a release are not below its front
cut_off : (release numbers : List ℕ) → not (is_gt (padded_cmp (without_last release) numbers)) ≡ false
    → not (is_gt (version_cmp (release_record release) (release_record numbers))) ≡ false
cut_off release numbers h =
    let cut = not_false (is_gt (padded_cmp (without_last release) numbers)) h in
    reached_as release numbers ∙ ap not (front_above (length release - 1) release numbers cut)

compatible_agrees : (release numbers : List ℕ) (range : PointTest)
    → release_range_by operators.TildeEqual release ≡ Some range
    → range (At (release_record numbers))
    ≡ matches operators.TildeEqual (release_record release) (release_record numbers)
compatible_agrees release numbers range e =
    let version : VersionRecord = release_record release in
    let candidate : VersionRecord = release_record numbers in
    let found = mapped_from (λ (end : List ℕ). up_to version (release_record end))
    (last_raised (without_last release)) range e in
    let reached : Bool = not (is_gt (version_cmp version candidate)) in
    let begun : Bool = not (is_gt (padded_cmp (without_last release) numbers)) in
    let ended : Bool = is_gt (padded_cmp found.0 numbers) in
    let front = begins_between (without_last release) found.0 numbers found.1 in
    let same : reached ≡ is_ge (version_cmp candidate version) =
    ap (λ o. not (is_gt o)) (version_cmp_total.antisymm version candidate)
    ∙ turned_not_greater (version_cmp candidate version) in
    ap (λ (r : PointTest). r (At candidate)) (sym found.2)
    ∙ ap (λ b. reached && b) (ended_as numbers found.0)
    ∙ joined reached begun ended (cut_off release numbers)
    ∙ (λ i. sym front i && same i)

-- a release hides nothing of itself
none_hidden : (x s : Bool) → x ≡ (x && not (s && false))
none_hidden false s = refl
none_hidden true false = refl
none_hidden true true = refl

pub releases_agree : (operator : Operator) (release numbers : List ℕ) (range : PointTest)
    → (operator ≡ operators.ExactEqual → ⊥)
    → release_range_by operator release ≡ Some range
    → range (At (release_record numbers))
    ≡ matches operator (release_record release) (release_record numbers)
releases_agree operators.Equal release numbers range h e =
    holds_as (at_version (release_record release)) range (release_record numbers) e
releases_agree operators.EqualStar release numbers range h e = star_agrees release numbers range e
releases_agree operators.ExactEqual release numbers range h e = absurd (h refl)
releases_agree operators.NotEqual release numbers range h e =
    holds_as (all_but (at_version (release_record release))) range (release_record numbers) e
releases_agree operators.NotEqualStar release numbers range h e =
    let found = mapped_from all_but (star_releases release) range e in
    ap (λ (r : PointTest). r (At (release_record numbers))) (sym found.2)
    ∙ ap not (star_agrees release numbers found.0 found.1)
releases_agree operators.TildeEqual release numbers range h e = compatible_agrees release numbers range e
releases_agree operators.LessThan release numbers range h e =
    holds_as (to_bound (Excluded (release_record release))) range (release_record numbers) e
    ∙ none_hidden (is_lt (version_cmp (release_record numbers) (release_record release)))
    (same_release (release_record release) (release_record numbers))
releases_agree operators.LessThanEqual release numbers range h e =
    holds_as (to_bound (Included (release_record release))) range (release_record numbers) e
    ∙ not_greater (version_cmp (release_record numbers) (release_record release))
releases_agree operators.GreaterThan release numbers range h e =
    let version : VersionRecord = release_record release in
    let candidate : VersionRecord = release_record numbers in
    holds_as (from_bound (Excluded version)) range candidate e
    ∙ not_from (version_cmp version candidate)
    ∙ sym (ap is_gt (version_cmp_total.antisymm candidate version)
    ∙ turned_greater (version_cmp version candidate))
    ∙ none_hidden (is_gt (version_cmp candidate version)) (same_release version candidate)
releases_agree operators.GreaterThanEqual release numbers range h e =
    let version : VersionRecord = release_record release in
    let candidate : VersionRecord = release_record numbers in
    holds_as (from_bound (Included version)) range candidate e
    ∙ ap (λ o. not (is_gt o)) (version_cmp_total.antisymm version candidate)
    ∙ turned_not_greater (version_cmp candidate version)
