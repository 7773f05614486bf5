-- Which releases begin with some numbers: those from these numbers on to below them with the last one
-- raised.
use Rattle.std.proofs.Common.{◌≡◌, ℕ, zero, suc, ◌+◌, ◌<◌, ◌^◌, ◌==◌, nat_lt, Bool, true, false, not}
use Rattle.std.proofs.Common.{◌&&◌, if◌then◌else◌, List, [], ◌∷◌, take, Some, None, refl, ap, sym, ◌∙◌}
use Rattle.std.proofs.Common.{true≢false, arith}
use Rattle.std.specs.declared.cmp.Ordering.{Ordering}
use Rattle.std.specs.declared.cmp.Ordering.TheVariants.{Less, Equal, Greater}
use Rattle.std.specs.Ordering.{ordering_then, nat_cmp, is_eq, is_gt, MatchOrdering}
use Rattle.std.specs.Cmp.{ranks, unsigned_ties}
use Rattle.pep440_version.specs.Order.{beside_zeros, zeros_beside, padded_cmp}
use Rattle.pep440_text.specs.Releases.{raised, last_raised}
use Rattle.pep440_specifier.specs.Matching.{begins_padded}
use Rattle.pep440_range.proofs.Orderings.{neither_greater, last_not_greater, later_greater, and_true}
use Rattle.pep440_range.proofs.Orderings.{mapped_from}

-- ---- zeros

zero_not_above : (y : ℕ) (o : Ordering) → MatchOrdering o (0 < y) (0 ≡ y) (y < 0) → is_gt o ≡ false
zero_not_above y Less h = refl
zero_not_above y Equal h = refl
zero_not_above y Greater h = absurd (omega arith)

pub zero_first : (y : ℕ) → is_gt (nat_cmp 0 y) ≡ false
zero_first y = zero_not_above y (nat_cmp 0 y) (ranks 0 y)

zeros_not_above : (ys : List ℕ) → is_gt (zeros_beside ys) ≡ false
zeros_not_above [] = refl
zeros_not_above (y ∷ ys) = neither_greater (nat_cmp 0 y) (zeros_beside ys) (zero_first y)
    (zeros_not_above ys)

beside_nothing : (xs : List ℕ) → beside_zeros xs ≡ padded_cmp xs []
beside_nothing [] = refl
beside_nothing (x ∷ xs) = refl

first_beside_nothing : (x : ℕ) (xs : List ℕ) → padded_cmp (x ∷ xs) []
    ≡ ordering_then (nat_cmp x 0) (padded_cmp xs [])
first_beside_nothing x xs = ap (ordering_then (nat_cmp x 0)) (beside_nothing xs)

-- ---- one number

between : (x y : ℕ) (o p : Ordering) → MatchOrdering o (x < y) (x ≡ y) (y < x)
    → MatchOrdering p (x + 1 < y) (x + 1 ≡ y) (y < x + 1) → is_eq o ≡ (not (is_gt o) && is_gt p)
between x y Less Less h k = refl
between x y Less Equal h k = refl
between x y Less Greater h k = absurd (omega arith)
between x y Equal Less h k = absurd (omega arith)
between x y Equal Equal h k = absurd (omega arith)
between x y Equal Greater h k = refl
between x y Greater p h k = refl

one_number : (x y : ℕ) (p : Ordering) → is_gt p ≡ false → (x == y)
    ≡ (not (is_gt (ordering_then (nat_cmp x y) p)) && is_gt (ordering_then (nat_cmp (x + 1) y) p))
one_number x y p h =
    let low = last_not_greater (nat_cmp x y) p h in
    let high = last_not_greater (nat_cmp (x + 1) y) p h in
    unsigned_ties x y ∙ between x y (nat_cmp x y) (nat_cmp (x + 1) y) (ranks x y) (ranks (x + 1) y)
    ∙ (λ i. not (sym low i) && sym high i)

last_number : (x : ℕ) (others : List ℕ) → begins_padded (x ∷ []) others
    ≡ (not (is_gt (padded_cmp (x ∷ []) others)) && is_gt (padded_cmp ((x + 1) ∷ []) others))
last_number x [] = and_true (x == 0) ∙ one_number x 0 Equal refl
last_number x (y ∷ others) = and_true (x == y)
    ∙ one_number x y (zeros_beside others) (zeros_not_above others)

-- ---- one number more in front

pub same_in_front : (same begins : Bool) (o p q : Ordering) → same ≡ is_eq o → begins
    ≡ (not (is_gt p) && is_gt q) → (same && begins)
    ≡ (not (is_gt (ordering_then o p)) && is_gt (ordering_then o q))
same_in_front same begins Less p q e f = ap (λ s. s && begins) e
same_in_front same begins Equal p q e f = ap (λ s. s && begins) e ∙ f
same_in_front same begins Greater p q e f = ap (λ s. s && begins) e

-- the numbers begin others exactly where these lie from them on to below the later ones
abbrev pub IsBetween : List ℕ → List ℕ → List ℕ → Type 0
IsBetween numbers later others = begins_padded numbers others
    ≡ (not (is_gt (padded_cmp numbers others)) && is_gt (padded_cmp later others))

number_before : (x : ℕ) (numbers later others : List ℕ) → ((rest : List ℕ) → IsBetween numbers later rest)
    → IsBetween (x ∷ numbers) (x ∷ later) others
number_before x numbers later [] f =
    let low = first_beside_nothing x numbers in
    let high = first_beside_nothing x later in
    same_in_front (x == 0) (begins_padded numbers []) (nat_cmp x 0) (padded_cmp numbers [])
    (padded_cmp later []) (unsigned_ties x 0) (f [])
    ∙ (λ i. not (is_gt (sym low i)) && is_gt (sym high i))
number_before x numbers later (y ∷ others) f =
    same_in_front (x == y) (begins_padded numbers others) (nat_cmp x y) (padded_cmp numbers others)
    (padded_cmp later others) (unsigned_ties x y) (f others)

-- ---- numbers raised

raised_by : (x next : ℕ) (t : Bool) → (if t then Some (x + 1) else None) ≡ Some next → x + 1 ≡ next
raised_by x next true e = cc
raised_by x next false e = absurd (cc)

pub raised_is : (x next : ℕ) → raised x ≡ Some next → x + 1 ≡ next
raised_is x next e = raised_by x next (nat_lt (x + 1) (2 ^ 64)) e

to_later : (numbers later other others : List ℕ) → later ≡ other → IsBetween numbers later others
    → IsBetween numbers other others
to_later numbers later other others e h = h
    ∙ ap (λ l. not (is_gt (padded_cmp numbers others)) && is_gt (padded_cmp l others)) e

pub begins_between : (numbers later others : List ℕ) → last_raised numbers ≡ Some later
    → IsBetween numbers later others
begins_between [] later others e = absurd (cc)
begins_between (x ∷ []) later others e =
    let found = mapped_from (λ (next : ℕ). next ∷ []) (raised x) later e in
    to_later (x ∷ []) ((x + 1) ∷ []) later others
    (ap (λ (n : ℕ). n ∷ []) (raised_is x found.0 found.1) ∙ found.2) (last_number x others)
begins_between (x ∷ y ∷ numbers) later others e =
    let found = mapped_from (λ (rest : List ℕ). x ∷ rest) (last_raised (y ∷ numbers)) later e in
    to_later (x ∷ y ∷ numbers) (x ∷ found.0) later others found.2
    (number_before x (y ∷ numbers) found.0 others
    (λ rest. begins_between (y ∷ numbers) found.0 rest found.1))

-- ---- numbers cut off

pub front_above : (count : ℕ) (numbers others : List ℕ) → is_gt (padded_cmp (take count numbers) others)
    ≡ true → is_gt (padded_cmp numbers others) ≡ true
front_above zero numbers others h = absurd (true≢false (sym h ∙ zeros_not_above others))
front_above (suc count) [] others h = h
front_above (suc count) (x ∷ numbers) [] h =
    ap is_gt (first_beside_nothing x numbers)
    ∙ later_greater (nat_cmp x 0) (padded_cmp (take count numbers) []) (padded_cmp numbers [])
    (λ k. front_above count numbers [] k)
    (sym (ap is_gt (first_beside_nothing x (take count numbers))) ∙ h)
front_above (suc count) (x ∷ numbers) (y ∷ others) h =
    later_greater (nat_cmp x y) (padded_cmp (take count numbers) others) (padded_cmp numbers others)
    (λ k. front_above count numbers others k) h
