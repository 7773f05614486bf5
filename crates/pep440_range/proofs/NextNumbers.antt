-- Points of equal versions, and the next minor release as numbers with the last one raised.
use Rattle.std.proofs.Common.{◌≡◌, ℕ, ◌+◌, ◌<◌, ◌^◌, ◌==◌, nat_lt, Bool, true, false, cond, if◌then◌else◌}
use Rattle.std.proofs.Common.{List, [], ◌∷◌, Some, None, refl, ap, sym, subst, ◌∙◌, true≢false, arith}
use Rattle.std.proofs.lemmas.Bool.Decides.{nat_tests}
use Rattle.std.specs.List.{AllByRecursion}
use Rattle.std.specs.Option.{option_map}
use Rattle.std.specs.Ordering.{ordering_then}
use Rattle.std.specs.declared.cmp.Ordering.TheVariants.{Greater}
use Rattle.version_ranges.specs.Point.{Point, BelowAll, At, JustAbove, point_cmp}
use Rattle.pep440_version.specs.Record.{VersionRecord, release_record}
use Rattle.pep440_version.specs.Order.{key_of, key_cmp, before_stripped, stripped, version_cmp}
use Rattle.pep440_version.specs.OrderLaws.{same_key}
use Rattle.pep440_version.specs.Order.{version_eq}
use Rattle.pep440_text.specs.Releases.{last_raised}
use Rattle.pep440_specifier.specs.Bounds.{next_minor, equals_release}

-- ---- equal versions

pub equal_cmp : (v w other : VersionRecord) → version_eq v w ≡ true → version_cmp other v
    ≡ version_cmp other w
equal_cmp v w other h = ap (λ k. key_cmp (key_of other) k) (same_key v w h)

-- a point lies beside equal versions alike
pub equal_points : (v w : VersionRecord) (p : Point VersionRecord) → version_eq v w ≡ true
    → point_cmp version_cmp p (At v) ≡ point_cmp version_cmp p (At w)
equal_points v w BelowAll h = refl
equal_points v w (At u) h = equal_cmp v w u h
equal_points v w (JustAbove u) h = ap (λ o. ordering_then o Greater) (equal_cmp v w u h)

equal_numbers : (v w : VersionRecord) → version_eq v w ≡ true → stripped v.release ≡ stripped w.release
unfolding key_of
equal_numbers v w h = let e = same_key v w h in cc

-- ---- numbers of 64 bits

abbrev Are64 : List ℕ → Type 0
Are64 = AllByRecursion (λ number. number < 2 ^ 64)

front_kept : (t : Bool) (number : ℕ) → number < 2 ^ 64 → Are64 (cond t [] (number ∷ []))
front_kept true number h = tt
front_kept false number h = (h, tt)

before_kept : (number : ℕ) (numbers : List ℕ) → number < 2 ^ 64 → Are64 numbers
    → Are64 (before_stripped number numbers)
before_kept number [] h k = front_kept (number == 0) number h
before_kept number (next ∷ numbers) h k = (h, k)

stripped_kept : (numbers : List ℕ) → Are64 numbers → Are64 (stripped numbers)
stripped_kept [] h = tt
stripped_kept (number ∷ numbers) h = before_kept number (stripped numbers) h.0 (stripped_kept numbers h.1)

no_zero : (b : ℕ) → (b + 1 == 0) ≡ false
no_zero b = grind (arith, nat_tests)

two_stripped : (a b : ℕ) → stripped (a ∷ (b + 1) ∷ []) ≡ a ∷ (b + 1) ∷ []
two_stripped a b = ap (λ t. before_stripped a (cond t [] ((b + 1) ∷ []))) (no_zero b)

-- ---- the next minor release

below_64 : (n : ℕ) → n < 2 ^ 64 → nat_lt n (2 ^ 64) ≡ true
below_64 n h = grind (arith, nat_tests)

fits_raised : (a b : ℕ) (next : VersionRecord) → version_eq (release_record (a ∷ (b + 1) ∷ [])) next
    ≡ true → Are64 next.release
    → last_raised (a ∷ b ∷ []) ≡ Some (a ∷ (b + 1) ∷ [])
fits_raised a b next h k =
    let numbers : stripped next.release ≡ a ∷ (b + 1) ∷ [] =
    sym (equal_numbers (release_record (a ∷ (b + 1) ∷ [])) next h) ∙ two_stripped a b in
    let all : Are64 (a ∷ (b + 1) ∷ []) = subst Are64 numbers (stripped_kept next.release k) in
    ap (λ t. option_map (λ later. a ∷ later)
    (option_map (λ n. n ∷ []) (if t then Some (b + 1) else None))) (below_64 (b + 1) all.1.0)

-- where the next minor release is of 64 bits, the last number can be raised to it
pub minor_raised : (release : List ℕ) (next : VersionRecord) → equals_release (next_minor release) next
    ≡ true → Are64 next.release
    → (end : List ℕ) × (last_raised release ≡ Some end) × (version_eq (release_record end) next ≡ true)
minor_raised [] next h k = absurd (true≢false (sym h))
minor_raised (a ∷ []) next h k = absurd (true≢false (sym h))
minor_raised (a ∷ b ∷ []) next h k = (a ∷ (b + 1) ∷ [], fits_raised a b next h k, h)
minor_raised (a ∷ b ∷ c ∷ rest) next h k = absurd (true≢false (sym h))
