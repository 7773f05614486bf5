-- The ranges among releases of the specifiers of intervals that lie one behind another share just their
-- union.
use Rattle.std.proofs.Common.{◌≡◌, Bool, true, false, not, ◌&&◌, ◌||◌, if◌then◌else◌, List, [], ◌∷◌}
use Rattle.std.proofs.Common.{option_to_list, Some, None, refl, ap, sym, ◌∙◌, true≢false}
use Rattle.std.specs.Option.{is_some, option_map}
use Rattle.std.specs.declared.cmp.Ordering.{Ordering}
use Rattle.std.specs.declared.cmp.Ordering.TheVariants.{Less, Equal, Greater}
use Rattle.std.specs.declared.ops.Bound.{Bound}
use Rattle.std.specs.declared.ops.Bound.TheVariants.{Included, Excluded, Unbounded}
use Rattle.std.specs.Ordering.{is_eq, is_lt, is_gt}
use Rattle.version_ranges.specs.Point.{Point, At, point_cmp}
use Rattle.version_ranges.specs.Bounds.{starts_by, goes_on_to, is_within, last_upper}
use Rattle.pep440_version.specs.Record.{VersionRecord, release_record}
use Rattle.pep440_version.specs.Order.{version_cmp, version_eq}
use Rattle.pep440_operator.specs.declared.operator.Operator.TheVariants as operators
use Rattle.pep440_specifier.specs.Matching.{SpecifierRecord}
use Rattle.pep440_specifier.specs.Bounds.{IsReleaseVersion, IsReleaseBound, next_minor, equals_release}
use Rattle.pep440_specifier.specs.Bounds.{interval_specifiers}
use Rattle.pep440_specifier_list.specs.ListBounds.{Interval, AreReleaseIntervals, gap_specifier}
use Rattle.pep440_specifier_list.specs.ListBounds.{gap_specifiers, list_specifiers}
use Rattle.pep440_range.specs.Ranges.{PointTest, all_but, at_version}
use Rattle.pep440_range.specs.Intervals.{HasNumbers, HaveNumbers, is_in_one, AreBehind, GapsAreSaid}
use Rattle.pep440_range.proofs.Orderings.{turned_less}
use Rattle.pep440_range.proofs.Complements.{turned, behind_is_rest}
use Rattle.pep440_range.proofs.NextNumbers.{equal_points}
use Rattle.pep440_range.proofs.Intervals.{Say, say_nothing, say_one, say_both, say_as, say_interval}
use Rattle.pep440_range.proofs.Intervals.{minor_range}

-- ---- one gap

-- what lies before a gap or behind it
abbrev around : Bound VersionRecord → Bound VersionRecord → PointTest
around upper lower p = goes_on_to version_cmp upper p || starts_by version_cmp lower p

level_around : (o : Ordering) → not (is_eq o) ≡ (is_lt o || not (not (is_gt o)))
level_around Less = refl
level_around Equal = refl
level_around Greater = refl

point_around : (upper lower : VersionRecord) (p : Point VersionRecord) → version_eq upper lower ≡ true
    → all_but (at_version upper) p ≡ around (Excluded upper) (Excluded lower) p
point_around upper lower p h =
    let behind : starts_by version_cmp (Excluded lower) p
    ≡ not (not (is_gt (point_cmp version_cmp p (At lower)))) =
    ap (λ (test : PointTest). test p) (behind_is_rest lower) in
    let same = equal_points upper lower p h in
    level_around (point_cmp version_cmp p (At upper))
    ∙ ap (λ o. is_lt (point_cmp version_cmp p (At upper)) || not (not (is_gt o))) same
    ∙ ap (λ b. is_lt (point_cmp version_cmp p (At upper)) || b) (sym behind)

outside : (a b : Bool) → not (not a && b) ≡ (a || not b)
outside true b = refl
outside false b = refl

minor_around : (upper lower : VersionRecord) (p : Point VersionRecord)
    → not (is_within version_cmp (Included upper, Excluded lower) p)
    ≡ around (Excluded upper) (Included lower) p
minor_around upper lower p =
    let before : is_gt (point_cmp version_cmp (At upper) p) ≡ is_lt (point_cmp version_cmp p (At upper)) =
    sym (ap is_lt (turned p (At upper)) ∙ turned_less (point_cmp version_cmp (At upper) p)) in
    let ended : is_lt (point_cmp version_cmp p (At lower)) ≡ is_gt (point_cmp version_cmp (At lower) p) =
    ap is_lt (turned p (At lower)) ∙ turned_less (point_cmp version_cmp (At lower) p) in
    outside (is_gt (point_cmp version_cmp (At upper) p)) (is_lt (point_cmp version_cmp p (At lower)))
    ∙ (λ i. before i || not (ended i))

say_point_gap : (upper lower : VersionRecord) (t : Bool) → version_eq upper lower ≡ t
    → IsReleaseVersion upper
    → is_some {T = SpecifierRecord}
    (if t then Some (record { operator = operators.NotEqual; version = upper }) else None) ≡ true
    → Say (option_to_list (if t then Some (record { operator = operators.NotEqual; version = upper }) else
    None)) (around (Excluded upper) (Excluded lower))
say_point_gap upper lower false h own said = absurd (true≢false (sym said))
say_point_gap upper lower true h own said =
    say_one (record { operator = operators.NotEqual; version = upper })
    (all_but (at_version (release_record upper.release))) (around (Excluded upper) (Excluded lower)) refl
    (λ p. ap (λ (v : VersionRecord). all_but (at_version v) p) (sym own) ∙ point_around upper lower p h)

say_minor_gap : (upper lower : VersionRecord) (t : Bool) → equals_release (next_minor upper.release) lower
    ≡ t → IsReleaseVersion upper
    → HasNumbers (Excluded lower)
    → is_some {T = SpecifierRecord}
    (if t then Some (record { operator = operators.NotEqualStar; version = upper }) else None) ≡ true
    → Say (option_to_list (if t then Some (record { operator = operators.NotEqualStar; version = upper })
    else None)) (around (Excluded upper) (Included lower))
say_minor_gap upper lower false h own numbers said = absurd (true≢false (sym said))
say_minor_gap upper lower true h own numbers said =
    let found = minor_range upper lower h own numbers in
    say_one (record { operator = operators.NotEqualStar; version = upper }) (all_but found.0)
    (around (Excluded upper) (Included lower))
    (ap (option_map all_but) found.1) (λ p. ap not (found.2 p) ∙ minor_around upper lower p)

say_gap : (upper lower : Bound VersionRecord) → IsReleaseBound upper → HasNumbers lower
    → is_some (gap_specifier upper lower) ≡ true
    → Say (option_to_list (gap_specifier upper lower)) (around upper lower)
say_gap (Excluded upper) (Excluded lower) own numbers said =
    say_point_gap upper lower (version_eq upper lower) refl own said
say_gap (Excluded upper) (Included lower) own numbers said =
    say_minor_gap upper lower (equals_release (next_minor upper.release) lower) refl own numbers said
say_gap (Excluded upper) Unbounded own numbers said = absurd (true≢false (sym said))
say_gap (Included upper) lower own numbers said = absurd (true≢false (sym said))
say_gap Unbounded lower own numbers said = absurd (true≢false (sym said))

-- ---- all gaps

abbrev around_all : Bound VersionRecord → List Interval → PointTest
around_all upper [] p = true
around_all upper (next ∷ later) p = around upper next.0 p && around_all next.1 later p

say_gaps : (upper : Bound VersionRecord) (later : List Interval) → IsReleaseBound upper
    → AreReleaseIntervals later → HaveNumbers later
    → GapsAreSaid upper later → Say (gap_specifiers upper later) (around_all upper later)
say_gaps upper [] own release numbers said = say_nothing
say_gaps upper (next ∷ later) own release numbers said =
    say_both (option_to_list (gap_specifier upper next.0)) (gap_specifiers next.1 later)
    (around upper next.0) (around_all next.1 later)
    (say_gap upper next.0 own numbers.0.0 said.0)
    (say_gaps next.1 later release.1 release.2 numbers.1 said.1)

-- ---- the union

last_release : (upper : Bound VersionRecord) (later : List Interval) → IsReleaseBound upper
    → AreReleaseIntervals later → IsReleaseBound (last_upper upper later)
last_release upper [] own release = own
last_release upper (next ∷ later) own release = last_release next.1 later release.1 release.2

last_numbers : (upper : Bound VersionRecord) (later : List Interval) → HasNumbers upper
    → HaveNumbers later → HasNumbers (last_upper upper later)
last_numbers upper [] own numbers = own
last_numbers upper (next ∷ later) own numbers = last_numbers next.1 later numbers.0.1 numbers.1

-- what goes on to the end of an interval lies before all later gaps and goes on to the end of all
goes_on : (g s a n : Bool) → g ≡ true → (a && n) ≡ true → (((g || s) && a) && n) ≡ true
goes_on true s a n h k = k
goes_on false s a n h k = absurd (true≢false (sym h))

goes_on_all : (first : Interval) (later : List Interval) (p : Point VersionRecord) → AreBehind first later
    → goes_on_to version_cmp first.1 p ≡ true
    → (around_all first.1 later p && goes_on_to version_cmp (last_upper first.1 later) p) ≡ true
goes_on_all first [] p behind h = h
goes_on_all first (next ∷ later) p behind h =
    goes_on (goes_on_to version_cmp first.1 p) (starts_by version_cmp next.0 p) (around_all next.1 later p)
    (goes_on_to version_cmp (last_upper next.1 later) p) h
    (goes_on_all next later p behind.1 (behind.0.ends p h))

-- one interval more in front: it begins before the next one, and ends before the gap
one_more : (s next g a n : Bool) → (next ≡ true → s ≡ true) → (g ≡ true → (a && n) ≡ true)
    → (((g || next) && a) && (s && n)) ≡ ((s && g) || (a && (next && n)))
one_more true next true true true f h = refl
one_more false true true a n f h = absurd (true≢false (sym (f refl)))
one_more false false true true true f h = refl
one_more s next true true false f h = absurd (true≢false (sym (h refl)))
one_more s next true false n f h = absurd (true≢false (sym (h refl)))
one_more true true false a n f h = refl
one_more true false false true n f h = refl
one_more true false false false n f h = refl
one_more false true false a n f h = absurd (true≢false (sym (f refl)))
one_more false false false true n f h = refl
one_more false false false false n f h = refl

or_nothing : (b : Bool) → b ≡ (b || false)
or_nothing true = refl
or_nothing false = refl

united : (first : Interval) (later : List Interval) (p : Point VersionRecord) → AreBehind first later
    → (around_all first.1 later p && is_within version_cmp (first.0, last_upper first.1 later) p)
    ≡ is_in_one (first ∷ later) p
united first [] p behind = or_nothing (is_within version_cmp first p)
united first (next ∷ later) p behind =
    one_more (starts_by version_cmp first.0 p) (starts_by version_cmp next.0 p)
    (goes_on_to version_cmp first.1 p) (around_all next.1 later p)
    (goes_on_to version_cmp (last_upper next.1 later) p) (behind.0.begins p)
    (λ h. goes_on_all next later p behind.1 (behind.0.ends p h))
    ∙ ap (λ b. is_within version_cmp first p || b) (united next later p behind.1)

pub say_union : (first : Interval) (later : List Interval) → AreReleaseIntervals (first ∷ later)
    → HaveNumbers (first ∷ later)
    → AreBehind first later → GapsAreSaid first.1 later
    → Say (list_specifiers (first ∷ later)) (is_in_one (first ∷ later))
say_union first later release numbers behind said =
    let outer : Interval = (first.0, last_upper first.1 later) in
    let gaps = say_gaps first.1 later release.1 release.2 numbers.1 said in
    let hull = say_interval first.0 (last_upper first.1 later) release.0
    (last_release first.1 later release.1 release.2)
    (last_numbers first.1 later numbers.0.1 numbers.1) in
    say_as (list_specifiers (first ∷ later))
    (λ p. around_all first.1 later p && is_within version_cmp outer p) (is_in_one (first ∷ later))
    (say_both (gap_specifiers first.1 later) (interval_specifiers first.0 (last_upper first.1 later))
    (around_all first.1 later) (is_within version_cmp outer) gaps hull)
    (λ p. united first later p behind)
