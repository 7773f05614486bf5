-- Candidates in order: the first that passes, of a package's, is the first among the greatest that pass.
use Rattle.std.proofs.Common.{◌≡◌, ℕ, zero, suc, ◌+◌, ◌<◌, Bool, true, false, cond, List, [], ◌∷◌, ◌++◌}
use Rattle.std.proofs.Common.{Option, Some, None, filter, find, length, get_or, set, swap, take, drop}
use Rattle.std.proofs.Common.{Contains, refl, sym, ap, subst, arith, ◌∙◌, true≢false}
use Rattle.std.specs.List.{enumerate_from, AllByRecursion}
use Rattle.std.specs.List.Sorted.{IsPermutation, IsStrictlySortedBy}
use Rattle.std.specs.Ordering.{nat_cmp, ordering_then, ordering_reverse, is_gt}
use Rattle.std.specs.Cmp.{IsTotalOrder, on_total, tied_itself, nat_cmp_total, nat_cmp_is}
use Rattle.std.specs.Cmp.Lexicographic.{slice_cmp}
use Rattle.std.specs.declared.cmp.Ordering.{Ordering}
use Rattle.std.specs.declared.cmp.Ordering.TheVariants.{Less, Equal, Greater}
use Rattle.std.proofs.lemmas.Cmp.{nat_list_cmp_total}
use Rattle.std.proofs.lemmas.List.{set_split, set-get_or}
use Rattle.std.proofs.lemmas.List.Elements.{All-filter, filter_passes, All-from_recursion, recursion_from_All}
use Rattle.std.proofs.lemmas.List.Kept.{IsStrictlySortedBy-filter}
use Rattle.std.proofs.lemmas.List.Sorted.{All-permutation, Contains-permutation, length_permutation}
use Rattle.std.proofs.lemmas.List.Sorted.{IsPermutation-refl, IsPermutation-trans, IsPermutation-cons}
use Rattle.std.proofs.lemmas.List.Sorted.{IsPermutation-middle, IsPermutation-keeps}
use Rattle.reqtable_candidates.specs.declared.candidates.Candidate.{Candidate}
use Rattle.reqtable_candidates.specs.Ordered.{order_cmp, AreInOrder}
use Rattle.reqtable_answer.specs.Asks.{is_candidate}
use Rattle.reqtable_answer.specs.Answer.{first_greatest, by_version}
use Rattle.reqtable_answer.proofs.Tests.{same_bytes}
use Rattle.reqtable_answer.proofs.Greatest.{IsFirstGreatest, first_greatest-is}
use Rattle.reqtable_answer.proofs.Passing.{by_version_total}

-- ---- what a filter keeps of a list in another order

module _ {X : Type 0} (p : X → Bool) where
  abbrev KeepsAlike : List X → List X → Type 0
  KeepsAlike xs ys = IsPermutation (filter p xs) (filter p ys)

  under_by : (b : Bool) (x : X) (xs ys : List X) → IsPermutation xs ys
      → IsPermutation (cond b (x ∷ xs) xs) (cond b (x ∷ ys) ys)
  under_by true x xs ys h = IsPermutation-cons x xs ys h
  under_by false x xs ys h = h

  under : (x : X) (xs ys : List X) → KeepsAlike xs ys → KeepsAlike (x ∷ xs) (x ∷ ys)
  under x xs ys h = under_by (p x) x (filter p xs) (filter p ys) h

  turn_by : (a b : Bool) (x y : X) (l : List X)
      → IsPermutation (cond a (x ∷ cond b (y ∷ l) l) (cond b (y ∷ l) l))
      (cond b (y ∷ cond a (x ∷ l) l) (cond a (x ∷ l) l))
  turn_by true true x y l = IsPermutation-middle (x ∷ []) y l
  turn_by true false x y l = IsPermutation-refl (x ∷ l)
  turn_by false true x y l = IsPermutation-refl (y ∷ l)
  turn_by false false x y l = IsPermutation-refl l

  turn : (x y : X) (l : List X) → KeepsAlike (x ∷ y ∷ l) (y ∷ x ∷ l)
  turn x y l = turn_by (p x) (p y) x y (filter p l)

  chain : (xs ys zs : List X) → KeepsAlike xs ys → KeepsAlike ys zs → KeepsAlike xs zs
  chain xs ys zs = IsPermutation-trans (filter p xs) (filter p ys) (filter p zs)

  -- the head in place of another element
  to_head : (l : List X) (j : ℕ) (x d : X) → j < length l → KeepsAlike (x ∷ l) (get_or l j d ∷ set l j x)
  to_head [] j x d h = absurd (omega arith)
  to_head (y ∷ l) zero x d h = turn x y l
  to_head (y ∷ l) (suc j) x d h =
      let z = get_or l j d in
      let rest = set l j x in
      chain (x ∷ y ∷ l) (y ∷ x ∷ l) (z ∷ y ∷ rest) (turn x y l)
      (chain (y ∷ x ∷ l) (y ∷ z ∷ rest) (z ∷ y ∷ rest)
      (under y (x ∷ l) (z ∷ rest) (to_head l j x d (omega arith))) (turn y z rest))

  exchanged : (l : List X) (i j : ℕ) (d : X) → i < length l → j < length l
      → KeepsAlike l (set (set l i (get_or l j d)) j (get_or l i d))
  exchanged [] i j d a b = absurd (omega arith)
  exchanged (x ∷ l) zero zero d a b = IsPermutation-refl (filter p (x ∷ l))
  exchanged (x ∷ l) zero (suc j) d a b = to_head l j x d (omega arith)
  exchanged (x ∷ l) (suc i) zero d a b = to_head l i x d (omega arith)
  exchanged (x ∷ l) (suc i) (suc j) d a b =
      let other = set (set l i (get_or l j d)) j (get_or l i d) in
      under x l other (exchanged l i j d (omega arith) (omega arith))

  swapped : (l : List X) (i j : ℕ) → i < length l → j < length l → KeepsAlike l (swap l i j)
  swapped [] i j a b = absurd (omega arith)
  swapped (x ∷ l) i j a b = exchanged (x ∷ l) i j x a b

  pub IsPermutation-filter : (xs ys : List X) → IsPermutation xs ys
      → IsPermutation (filter p xs) (filter p ys)
  IsPermutation-filter xs ys same =
      IsPermutation-keeps xs (KeepsAlike xs) (IsPermutation-refl (filter p xs))
      (λ l i j a b h. chain xs l (swap l i j) h (swapped l i j a b)) ys same

-- ---- what is found

abbrev first : {X : Type 0} → List X → Option X
first [] = None
first (x ∷ xs) = Some x

first_by : {X : Type 0} (b : Bool) (x : X) (rest : Option X) (xs : List X) → rest ≡ first xs
    → cond b (Some x) rest ≡ first (cond b (x ∷ xs) xs)
first_by true x rest xs h = refl
first_by false x rest xs h = h

-- the first of those that pass
find_is_first : {X : Type 0} (p : X → Bool) (xs : List X) → find p xs ≡ first (filter p xs)
find_is_first p [] = refl
find_is_first p (x ∷ xs) = first_by (p x) x (find p xs) (filter p xs) (find_is_first p xs)

-- ---- the first of a list from the greatest down, of a list by place

above_by : (o s : Ordering) → is_gt (ordering_then o s) ≡ false → s ≡ Greater
    → is_gt (ordering_reverse o) ≡ true
above_by Less s h k = refl
above_by Equal s h k = absurd (true≢false (sym (ap is_gt k) ∙ h))
above_by Greater s h k = absurd (true≢false h)

not_above_by : (o s : Ordering) → is_gt (ordering_then o s) ≡ false → is_gt o ≡ false
not_above_by Less s h = refl
not_above_by Equal s h = refl
not_above_by Greater s h = h

none_left : {X : Type 0} (xs : List X) → length xs ≡ 0 → xs ≡ []
none_left [] h = refl
none_left (x ∷ xs) h = absurd (omega arith)

at_middle : {X : Type 0} (P : X → Type 0) (front : List X) (x : X) (back : List X)
    → AllByRecursion P (front ++ x ∷ back) → P x
at_middle P [] x back all = all.0
at_middle P (y ∷ front) x back all = at_middle P front x back all.1

-- R says which is greater, and S which stands first
module _ {K : Type 0} {R S : K → K → Ordering} (greater : IsTotalOrder R) (place : IsTotalOrder S) where
  -- the greater first, and of equals the one that stands first
  abbrev downwards : K → K → Ordering
  downwards a b = ordering_then (R b a) (S a b)

  -- x doesn't go before b
  abbrev IsAhead : K → K → Type 0
  IsAhead b x = is_gt (downwards b x) ≡ false

  ahead_itself : (b : K) → IsAhead b b
  ahead_itself b = λ i. is_gt (ordering_then (tied_itself greater b i) (tied_itself place b i))

  -- such a b lies above what stands before it
  above : (x b : K) → S x b ≡ Less → IsAhead b x → is_gt (R b x) ≡ true
  above x b before ahead =
      ap is_gt (greater.antisymm b x)
      ∙ above_by (R x b) (S b x) ahead (place.antisymm b x ∙ ap ordering_reverse before)

  above_front : (front : List K) (b : K) (back : List K) → IsStrictlySortedBy S (front ++ b ∷ back)
      → AllByRecursion (IsAhead b) (front ++ b ∷ back) → AllByRecursion (λ x. is_gt (R b x) ≡ true) front
  unfolding IsStrictlySortedBy
  above_front [] b back up all = tt
  above_front (x ∷ front) b back up all =
      let before : S x b ≡ Less = at_middle (λ y. S x y ≡ Less) front b back up.0 in
      (above x b before all.0, above_front front b back up.1 all.1)

  none_above : (b : K) (xs : List K) → AllByRecursion (IsAhead b) xs
      → AllByRecursion (λ x. is_gt (R x b) ≡ false) xs
  none_above b [] all = tt
  none_above b (x ∷ xs) all = (not_above_by (R x b) (S b x) all.0, none_above b xs all.1)

  behind : (front : List K) (b : K) (back : List K) → AllByRecursion (IsAhead b) (front ++ b ∷ back)
      → AllByRecursion (λ x. is_gt (R x b) ≡ false) back
  behind [] b back all = none_above b back all.1
  behind (x ∷ front) b back all = behind front b back all.1

  split_is : (front : List K) (b : K) (back xs : List K) → xs ≡ front ++ b ∷ back → IsStrictlySortedBy S xs
      → AllByRecursion (IsAhead b) xs → IsFirstGreatest R xs b
  split_is front b back xs split up all =
      let rising = subst (IsStrictlySortedBy S) split up in
      let ahead = subst (AllByRecursion (IsAhead b)) split all in
      record {
        front = front;
        back = back;
        split = split;
        above_front = above_front front b back rising ahead;
        not_below_back = behind front b back ahead;
      }

  ahead_is : (xs : List K) (b : K) → Contains xs b → IsStrictlySortedBy S xs
      → AllByRecursion (IsAhead b) xs → IsFirstGreatest R xs b
  ahead_is xs b there up all =
      let k = there.0 in
      let split : xs ≡ take k xs ++ b ∷ drop (suc k) xs =
      sym (set-get_or xs k b) ∙ ap (set xs k) there.2 ∙ set_split xs k b there.1 in
      split_is (take k xs) b (drop (suc k) xs) xs split up all

  -- none goes before the head
  abbrev IsHeadAhead : List K → Type 0
  IsHeadAhead [] = Unit {0}
  IsHeadAhead (b ∷ rest) = AllByRecursion (IsAhead b) rest

  pub first_is_greatest : (xs ys : List K) → IsPermutation ys xs → IsStrictlySortedBy S xs → IsHeadAhead ys
      → first ys ≡ first_greatest R xs
  first_is_greatest xs [] same up ahead =
      sym (ap (first_greatest R) (none_left xs (length_permutation [] xs same)))
  first_is_greatest xs (b ∷ rest) same up ahead =
      let there : Contains xs b = Contains-permutation (b ∷ rest) xs b same (0, omega arith, refl) in
      let whole : AllByRecursion (IsAhead b) (b ∷ rest) = (ahead_itself b, ahead) in
      let before = All-from_recursion (IsAhead b) (b ∷ rest) whole in
      let moved = All-permutation (IsAhead b) (b ∷ rest) xs same before in
      let all = recursion_from_All (IsAhead b) xs moved in
      sym (first_greatest-is greater xs b (ahead_is xs b there up all))

-- ---- places

module _ {X : Type 0} where
  abbrev by_place : ℕ × X → ℕ × X → Ordering
  by_place a b = nat_cmp a.0 b.0

  by_place_total : IsTotalOrder by_place
  by_place_total = on_total (λ c. c.0) nat_cmp_total

  places_above : (m n : ℕ) (xs : List X) → m < n
      → AllByRecursion (λ y. nat_cmp m y.0 ≡ Less) (enumerate_from n xs)
  places_above m n [] h = tt
  places_above m n (x ∷ xs) h = (sym (nat_cmp_is m n Less h), places_above m (n + 1) xs (omega arith))

  places_rise : (n : ℕ) (xs : List X) → IsStrictlySortedBy by_place (enumerate_from n xs)
  unfolding IsStrictlySortedBy
  places_rise n [] = tt
  places_rise n (x ∷ xs) = (places_above n (n + 1) xs (omega arith), places_rise (n + 1) xs)

-- ---- candidates of one package

abbrev IsOf : List ℕ → ℕ × Candidate → Type 0
IsOf name c = is_candidate name c ≡ true

-- of two of one name, the one that stands first goes before
not_before : (b c : ℕ × Candidate) → b.1.name ≡ c.1.name → order_cmp b c ≡ Less
    → is_gt (ordering_then (by_version c b) (by_place b c)) ≡ false
not_before b c named first =
    let then = ordering_then (by_version c b) (by_place b c) in
    let tied : slice_cmp nat_cmp b.1.name c.1.name ≡ Equal =
    ap (slice_cmp nat_cmp b.1.name) (sym named) ∙ tied_itself nat_list_cmp_total b.1.name in
    ap is_gt (sym (ap (λ o. ordering_then o then) tied) ∙ first)

rest_behind : (name : List ℕ) (b : ℕ × Candidate) (rest : List (ℕ × Candidate)) → IsOf name b
    → AllByRecursion (λ c. order_cmp b c ≡ Less) rest → AllByRecursion (IsOf name) rest
    → AllByRecursion (λ c. is_gt (ordering_then (by_version c b) (by_place b c)) ≡ false) rest
rest_behind name b [] its up own = tt
rest_behind name b (c ∷ rest) its up own =
    let named : b.1.name ≡ c.1.name = sym (same_bytes name b.1.name its) ∙ same_bytes name c.1.name own.0 in
    (not_before b c named up.0, rest_behind name b rest its up.1 own.1)

head_ahead : (name : List ℕ) (ys : List (ℕ × Candidate)) → IsStrictlySortedBy order_cmp ys
    → AllByRecursion (IsOf name) ys → IsHeadAhead by_version_total by_place_total ys
unfolding IsStrictlySortedBy
head_ahead name [] up own = tt
head_ahead name (b ∷ rest) up own = rest_behind name b rest own.0 up.0 own.1

-- whether a candidate is among those of a package doesn't depend on the order
pub run_is_of_package : (candidates : List Candidate) (placed : List (ℕ × Candidate))
    → AreInOrder candidates placed → (name : List ℕ)
    → IsPermutation (filter (is_candidate name) placed)
    (filter (is_candidate name) (enumerate_from 0 candidates))
run_is_of_package candidates placed order name =
    IsPermutation-filter (is_candidate name) placed (enumerate_from 0 candidates) order.each

-- the first that passes, of a package's candidates in order, is the first among the greatest that pass
pub first_of_package : (candidates : List Candidate) (placed : List (ℕ × Candidate))
    → AreInOrder candidates placed → (name : List ℕ) (test : ℕ × Candidate → Bool)
    → find test (filter (is_candidate name) placed)
    ≡ first_greatest by_version (filter test (filter (is_candidate name) (enumerate_from 0 candidates)))
first_of_package candidates placed order name test =
    let own = is_candidate name in
    let numbered : List (ℕ × Candidate) = enumerate_from 0 candidates in
    let its : List (ℕ × Candidate) = filter own placed in
    let all : List (ℕ × Candidate) = filter own numbered in
    let same = IsPermutation-filter test its all (run_is_of_package candidates placed order name) in
    let own_rise = IsStrictlySortedBy-filter by_place own numbered (places_rise 0 candidates) in
    let rise = IsStrictlySortedBy-filter by_place test all own_rise in
    let its_fall = IsStrictlySortedBy-filter order_cmp own placed order.rising in
    let fall = IsStrictlySortedBy-filter order_cmp test its its_fall in
    let its_named = All-filter test (IsOf name) its (filter_passes own placed) in
    let named = recursion_from_All (IsOf name) (filter test its) its_named in
    let ahead = head_ahead name (filter test its) fall named in
    find_is_first test its
    ∙ first_is_greatest by_version_total by_place_total (filter test all) (filter test its) same rise ahead
