-- Candidates that were sorted with their places are in order.
use Rattle.std.proofs.Common.{◌≡◌, ℕ, suc, ◌<◌, ◌≤◌, ◌==◌, Bool, true, false, List, [], ◌∷◌, map, length}
use Rattle.std.proofs.Common.{get_or, IsPermutation, IsSortedBy, nat_cmp, is_lt, Ordering, Less, Equal}
use Rattle.std.proofs.Common.{Greater, refl, sym, subst, ◌∙◌, arith}
use Rattle.std.proofs.lemmas.Bool.Decides.{nat_tests}
use Rattle.std.proofs.lemmas.Cmp.{ranked, on_total, then_total, back_total, nat_cmp_total, nat_list_cmp_total}
use Rattle.std.proofs.lemmas.List.Sorted.{ranks_by, sorted_far, IsPermutation-map, IsPermutation-sym}
use Rattle.std.specs.Cmp.{IsTotalOrder, IsStrictWeakOrder}
use Rattle.std.specs.List.{AllByRecursion, enumerate_from}
use Rattle.std.specs.List.Sorted.{IsStrictlySortedBy}
use Rattle.std.specs.Ordering.{ordering_then, ordering_reverse}
use Rattle.pep440_version.specs.Order.{version_cmp}
use Rattle.version_ranges.specs.HashingLaws.{then_equal}
use Rattle.pep440_version.specs.OrderLaws.{version_cmp_total}
use Rattle.pep508_name.specs.Name.{name_cmp}
use Rattle.reqtable_candidates.specs.declared.candidates.Candidate.{Candidate}
use Rattle.reqtable_candidates.specs.declared.fronted.Fronted.{Fronted}
use Rattle.reqtable_candidates.specs.Ordered.{placed_seen, order_cmp, AreInOrder}
use Rattle.reqtable_candidates.proofs.Places.{HasEachOnce, LackPlace, each_once, once_behind, others_behind}

pub order_total : IsTotalOrder order_cmp
order_total =
    then_total (on_total (λ c. c.1.name) nat_list_cmp_total)
    (then_total (on_total (λ c. c.1.version) (back_total version_cmp_total)) (on_total (λ c. c.0) nat_cmp_total))

abbrev pub fronted_seen : Fronted → ℕ × Candidate
fronted_seen fronted = placed_seen fronted.placed

abbrev pub stands_before : Fronted → Fronted → Bool
stands_before a b = is_lt (order_cmp (fronted_seen a) (fronted_seen b))

pub stands_weakly : IsStrictWeakOrder stands_before
stands_weakly = ranks_by order_total fronted_seen

-- ---- two of different places

tied_places : (a b : ℕ × Candidate) → order_cmp b a ≡ Equal → b.0 ≡ a.0
tied_places a b h =
    let behind = then_equal (name_cmp b.1.name a.1.name)
    (ordering_then (version_cmp a.1.version b.1.version) (nat_cmp b.0 a.0)) h in
    let last = then_equal (version_cmp a.1.version b.1.version) (nat_cmp b.0 a.0) behind.1 in
    ranked b.0 a.0 Equal (sym last.1)

less_by : (a b : ℕ × Candidate) (o : Ordering) → order_cmp b a ≡ o → is_lt o ≡ false → (b.0 == a.0) ≡ false
    → ordering_reverse o ≡ Less
less_by a b Less e h apart = absurd (cc)
less_by a b Equal e h apart =
    let same : b.0 ≡ a.0 = tied_places a b e in
    let equal : (b.0 == a.0) ≡ true = grind (arith, nat_tests) in absurd (cc)
less_by a b Greater e h apart = refl

-- the one that does not stand behind stands before
less_of : (a b : ℕ × Candidate) → is_lt (order_cmp b a) ≡ false → (b.0 == a.0) ≡ false → order_cmp a b ≡ Less
less_of a b h apart = order_total.antisymm a b ∙ less_by a b (order_cmp b a) refl h apart

before_all : (x : Fronted) (xs : List Fronted) → ((k : ℕ) → k < length xs → stands_before (get_or xs k x) x ≡ false)
    → LackPlace x.placed.place (map fronted_seen xs)
    → AllByRecursion (λ c. order_cmp (fronted_seen x) c ≡ Less) (map fronted_seen xs)
before_all x [] h apart = tt
before_all x (y ∷ ys) h apart = (
  less_of (fronted_seen x) (fronted_seen y) (h 0 (omega arith)) apart.0,
  before_all x ys (λ k l. h (suc k) (omega arith)) apart.1,
)

-- ---- all of a list

abbrev NoneBehind : List Fronted → Type 0
NoneBehind xs = (i j : ℕ) (d : Fronted) → i ≤ j → j < length xs → stands_before (get_or xs j d) (get_or xs i d) ≡ false

rise : (xs : List Fronted) → NoneBehind xs → HasEachOnce (map fronted_seen xs) → IsStrictlySortedBy order_cmp (map fronted_seen xs)
unfolding IsStrictlySortedBy
rise [] h once = tt
rise (x ∷ xs) h once = (
  before_all x xs (λ k l. h 0 (suc k) x (omega arith) (omega arith)) (others_behind (fronted_seen x) (map fronted_seen xs) once),
  rise xs (λ i j d p q. h (suc i) (suc j) d (omega arith) (omega arith)) (once_behind (fronted_seen x) (map fronted_seen xs) once),
)

pub sorted_in_order : (candidates : List Candidate) (xs ys : List Fronted) → map fronted_seen xs ≡ enumerate_from 0 candidates
    → IsPermutation xs ys → IsSortedBy stands_before ys → AreInOrder candidates (map fronted_seen ys)
sorted_in_order candidates xs ys e h up =
    let seen : IsPermutation (map fronted_seen ys) (enumerate_from 0 candidates) =
    subst (IsPermutation (map fronted_seen ys)) e
    (IsPermutation-sym (map fronted_seen xs) (map fronted_seen ys) (IsPermutation-map fronted_seen xs ys h)) in
    record {
      each = seen;
      rising = rise ys (sorted_far stands_before stands_weakly ys up) (each_once candidates (map fronted_seen ys) seen);
    }
