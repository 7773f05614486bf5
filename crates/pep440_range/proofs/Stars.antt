-- `==V.*`, `!=V.*` and `~=`: what begins with some release numbers.
use Rattle.std.proofs.Common.{◌≡◌, ℕ, ◌-◌, ◌==◌, ◌&&◌, not, Bool, true, false, List, [], length, Some}
use Rattle.std.proofs.Common.{refl, ap, sym, ◌∙◌, true≢false}
use Rattle.std.specs.declared.cmp.Ordering.{Ordering}
use Rattle.std.specs.Ordering.{ordering_then, nat_cmp, is_eq, is_lt, is_gt, is_ge}
use Rattle.std.specs.Cmp.{unsigned_ties, nat_cmp_total}
use Rattle.version_ranges.specs.Point.{At}
use Rattle.pep440_version.specs.Record.{VersionRecord}
use Rattle.pep440_version.specs.Order.{padded_cmp, version_cmp, key_cmp}
use Rattle.pep440_version.specs.OrderLaws.{version_cmp_total}
use Rattle.pep440_text.specs.Releases.{last_raised}
use Rattle.pep440_specifier.specs.Matching.{begins_padded, has_front, without_last}
use Rattle.pep440_range.specs.Ranges.{PointTest, up_to, first_of, star_range, compatible_range}
use Rattle.pep440_range.specs.Agreement.{IsSaid}
use Rattle.pep440_range.proofs.Orderings.{turned_equal, turned_not_greater, last_not_greater}
use Rattle.pep440_range.proofs.Orderings.{first_greater, later_greater, not_false, mapped_from}
use Rattle.pep440_range.proofs.Prefixes.{same_in_front, begins_between, front_above}
use Rattle.pep440_range.proofs.Fronts.{tail_key, tail_cmp, front_cmp, by_front, padded_front, before}
use Rattle.pep440_range.proofs.Fronts.{said_tail}
use Rattle.pep440_range.proofs.Tails.{first_not_above}

-- an epoch and release numbers beside those of a version
abbrev front_beside : ℕ → List ℕ → VersionRecord → Ordering
front_beside epoch numbers candidate =
    ordering_then (nat_cmp epoch candidate.epoch) (padded_cmp numbers candidate.release)

same_epoch : (x y : ℕ) → (x == y) ≡ is_eq (nat_cmp y x)
same_epoch x y = unsigned_ties x y ∙ ap is_eq (nat_cmp_total.antisymm x y) ∙ turned_equal (nat_cmp y x)

front_between : (epoch : ℕ) (numbers later : List ℕ) (candidate : VersionRecord) → last_raised numbers
    ≡ Some later → has_front epoch numbers candidate
    ≡ (not (is_gt (front_beside epoch numbers candidate)) && is_gt (front_beside epoch later candidate))
front_between epoch numbers later candidate e =
    same_in_front (candidate.epoch == epoch) (begins_padded numbers candidate.release)
    (nat_cmp epoch candidate.epoch) (padded_cmp numbers candidate.release)
    (padded_cmp later candidate.release) (same_epoch candidate.epoch epoch)
    (begins_between numbers later candidate.release e)

-- the first of some numbers lies above a version exactly where the numbers do
first_by_front : (epoch : ℕ) (numbers : List ℕ) (candidate : VersionRecord) → IsSaid candidate
    → candidate.local ≡ [] → is_gt (version_cmp (first_of epoch numbers) candidate)
    ≡ is_gt (front_beside epoch numbers candidate)
first_by_front epoch numbers candidate said plain =
    let first : VersionRecord = first_of epoch numbers in
    let low : is_gt (tail_cmp first candidate) ≡ false =
    ap (λ k. is_gt (key_cmp (tail_key first) k)) (said_tail candidate said plain)
    ∙ first_not_above candidate.pre candidate.post candidate.dev in
    ap is_gt (by_front first candidate)
    ∙ last_not_greater (front_cmp first candidate) (tail_cmp first candidate) low
    ∙ ap is_gt (padded_front first candidate)

before_first : (epoch : ℕ) (numbers : List ℕ) (candidate : VersionRecord) → IsSaid candidate
    → candidate.local ≡ [] → is_lt (version_cmp candidate (first_of epoch numbers))
    ≡ is_gt (front_beside epoch numbers candidate)
before_first epoch numbers candidate said plain = before candidate (first_of epoch numbers)
    ∙ first_by_front epoch numbers candidate said plain

-- ---- stars

pub star_agrees : (version candidate : VersionRecord) (range : PointTest) → IsSaid candidate
    → candidate.local ≡ [] → star_range version ≡ Some range → range (At candidate)
    ≡ has_front version.epoch version.release candidate
star_agrees version candidate range said plain e =
    let found = mapped_from (λ (end : List ℕ). up_to (first_of version.epoch version.release)
    (first_of version.epoch end)) (last_raised version.release) range e in
    let low = first_by_front version.epoch version.release candidate said plain in
    let high = before_first version.epoch found.0 candidate said plain in
    ap (λ (r : PointTest). r (At candidate)) (sym found.2)
    ∙ (λ i. not (low i) && high i)
    ∙ sym (front_between version.epoch version.release found.0 candidate found.1)

-- ---- compatible releases

pub joined : (a b c : Bool) → (b ≡ false → a ≡ false) → (a && c) ≡ ((b && c) && a)
joined true true true f = refl
joined true true false f = refl
joined true false c f = absurd (true≢false (f refl))
joined false true true f = refl
joined false true false f = refl
joined false false c f = refl

-- numbers above a version stay so with more behind them
shortened_above : (version candidate : VersionRecord)
    → is_gt (front_beside version.epoch (without_last version.release) candidate) ≡ true
    → is_gt (version_cmp version candidate) ≡ true
shortened_above version candidate h =
    let cut : is_gt (padded_cmp (without_last version.release) candidate.release) ≡ true
    → is_gt (padded_cmp version.release candidate.release) ≡ true =
    front_above (length version.release - 1) version.release candidate.release in
    let whole : is_gt (front_beside version.epoch version.release candidate) ≡ true =
    later_greater (nat_cmp version.epoch candidate.epoch)
    (padded_cmp (without_last version.release) candidate.release)
    (padded_cmp version.release candidate.release) cut h in
    ap is_gt (by_front version candidate)
    ∙ first_greater (front_cmp version candidate) (tail_cmp version candidate)
    (ap is_gt (padded_front version candidate) ∙ whole)

pub compatible_agrees : (version candidate : VersionRecord) (range : PointTest) → IsSaid candidate
    → candidate.local ≡ [] → compatible_range version ≡ Some range → range (At candidate)
    ≡ (has_front version.epoch (without_last version.release) candidate
    && is_ge (version_cmp candidate version))
compatible_agrees version candidate range said plain e =
    let found = mapped_from (λ (end : List ℕ). up_to version (first_of version.epoch end))
    (last_raised (without_last version.release)) range e in
    let high = before_first version.epoch found.0 candidate said plain in
    let reached : Bool = not (is_gt (version_cmp version candidate)) in
    let begun : Bool = not (is_gt (front_beside version.epoch (without_last version.release) candidate)) in
    let ended : Bool = is_gt (front_beside version.epoch found.0 candidate) in
    let front = front_between version.epoch (without_last version.release) found.0 candidate found.1 in
    let same : reached ≡ is_ge (version_cmp candidate version) =
    ap (λ o. not (is_gt o)) (version_cmp_total.antisymm version candidate)
    ∙ turned_not_greater (version_cmp candidate version) in
    ap (λ (r : PointTest). r (At candidate)) (sym found.2)
    ∙ ap (λ b. reached && b) high
    ∙ joined reached begun ended (λ h. ap not (shortened_above version candidate
    (not_false (is_gt (front_beside version.epoch (without_last version.release) candidate)) h)))
    ∙ (λ i. sym front i && same i)
