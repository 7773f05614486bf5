-- The part of candidates in order that is of a package.
use Rattle.std.proofs.Common.{◌≡◌, ℕ, zero, suc, ◌+◌, ◌<◌, ◌≤◌, Bool, true, false, cond, List, [], ◌∷◌, map}
use Rattle.std.proofs.Common.{filter, length, take, drop, get_or, IsSortedBy, nat_cmp, is_eq, is_lt, is_le}
use Rattle.std.proofs.Common.{Ordering, Less, Equal, Greater, refl, ap, sym, subst, ◌∙◌, arith, add-one}
use Rattle.std.proofs.lemmas.Cmp.{nat_list_cmp_total}
use Rattle.std.proofs.lemmas.List.{get_or-drop, length-drop}
use Rattle.std.proofs.lemmas.List.Sorted.{searchable_from_sorted, IsNonDecreasingBy-drop}
use Rattle.std.proofs.lemmas.Map.Text.{is_eq-slice_cmp}
use Rattle.std.specs.Cmp.Lexicographic.{nat_list_eq_equiv}
use Rattle.std.specs.List.{AllWithin}
use Rattle.std.specs.List.Sorted.{IsStrictlySortedBy, IsNonDecreasingBy, IsPartitionedBy, IsPartitionPoint}
use Rattle.std.specs.Ordering.{ordering_index, ordering_then, ordering_reverse}
use Rattle.std.specs.Str.{bytes_eq}
use Rattle.pep440_version.specs.Order.{version_cmp}
use Rattle.pep508_name.specs.Name.{name_cmp}
use Rattle.reqtable_candidates.specs.declared.candidates.Candidate.{Candidate}
use Rattle.reqtable_candidates.specs.declared.ordered.Placed.{Placed}
use Rattle.reqtable_candidates.specs.Ordered.{placed_seen, order_cmp}

-- ---- how one of three stands to another

below_by : (a b : Ordering) → ordering_index a ≤ ordering_index b → is_lt b ≡ true → is_lt a ≡ true
below_by Less b h e = refl
below_by Equal Less h e = absurd (omega arith)
below_by Equal Equal h e = e
below_by Equal Greater h e = e
below_by Greater Less h e = absurd (omega arith)
below_by Greater Equal h e = e
below_by Greater Greater h e = e

upto_by : (a b : Ordering) → ordering_index a ≤ ordering_index b → is_le b ≡ true → is_le a ≡ true
upto_by Less b h e = refl
upto_by Equal b h e = refl
upto_by Greater Less h e = absurd (omega arith)
upto_by Greater Equal h e = absurd (omega arith)
upto_by Greater Greater h e = e

not_equal : (o : Ordering) → is_lt o ≡ true → is_eq o ≡ false
not_equal Less e = refl
not_equal Equal e = sym e
not_equal Greater e = refl

is_equal : (o : Ordering) → is_lt o ≡ false → is_le o ≡ true → is_eq o ≡ true
is_equal Less e h = sym e
is_equal Equal e h = refl
is_equal Greater e h = h

above : (o : Ordering) → is_le o ≡ false → is_eq o ≡ false
above Less e = refl
above Equal e = e
above Greater e = refl

-- ---- two cuts of a list, by a test that first is `Less`, then `Equal`, then `Greater`

module _ {X : Type 0} (against : X → Ordering) where
  abbrev pub Rises : List X → Type 0
  Rises = IsNonDecreasingBy (λ x. ordering_index (against x))

  pub parted_below : (xs : List X) → Rises xs → IsPartitionedBy (λ x. is_lt (against x)) xs
  parted_below xs up i j d le lt e = below_by (against (get_or xs i d)) (against (get_or xs j d)) (up i j d le lt) e

  pub parted_upto : (xs : List X) → Rises xs → IsPartitionedBy (λ x. is_le (against x)) xs
  parted_upto xs up i j d le lt e = upto_by (against (get_or xs i d)) (against (get_or xs j d)) (up i j d le lt) e

  abbrev equal : X → Bool
  equal x = is_eq (against x)

  -- what is below goes
  front_goes : (i : ℕ) (xs : List X) → i ≤ length xs → AllWithin (λ x. is_lt (against x) ≡ true) xs 0 i
      → filter equal xs ≡ filter equal (drop i xs)
  front_goes zero xs h below = refl
  front_goes (suc i) [] h below = refl
  front_goes (suc i) (x ∷ xs) h below =
      ap (λ t. cond t (x ∷ filter equal xs) (filter equal xs)) (not_equal (against x) (below 0 x (omega arith) (omega arith)))
      ∙ front_goes i xs (omega arith) (λ k d l m. below (suc k) d (omega arith) (omega arith))

  none_stay : (xs : List X) → AllWithin (λ x. is_le (against x) ≡ false) xs 0 (length xs) → filter equal xs ≡ []
  none_stay [] h = refl
  none_stay (x ∷ xs) h =
      ap (λ t. cond t (x ∷ filter equal xs) (filter equal xs)) (above (against x) (h 0 x (omega arith) (omega arith)))
      ∙ none_stay xs (λ k d l m. h (suc k) d (omega arith) (omega arith))

  -- of what is not below, that stays which is not above
  rest_stays : (j : ℕ) (xs : List X) → j ≤ length xs → AllWithin (λ x. is_lt (against x) ≡ false) xs 0 (length xs)
      → AllWithin (λ x. is_le (against x) ≡ true) xs 0 j → AllWithin (λ x. is_le (against x) ≡ false) xs j (length xs)
      → take j xs ≡ filter equal xs
  rest_stays zero xs h low upto beyond = sym (none_stay xs beyond)
  rest_stays (suc j) [] h low upto beyond = refl
  rest_stays (suc j) (x ∷ xs) h low upto beyond =
      let here : equal x ≡ true = is_equal (against x) (low 0 x (omega arith) (omega arith)) (upto 0 x (omega arith) (omega arith)) in
      ap (λ l. x ∷ l)
      (rest_stays j xs (omega arith) (λ k d l m. low (suc k) d (omega arith) (omega arith)) (λ k d l m. upto (suc k) d (omega arith) (omega arith))
      (λ k d l m. beyond (suc k) d (omega arith) (omega arith)))
      ∙ ap (λ t. cond t (x ∷ filter equal xs) (filter equal xs)) (sym here)

  pub middle_stays : (xs : List X) (i j : ℕ) → i ≤ length xs → j ≤ length (drop i xs)
      → IsPartitionPoint (λ x. is_lt (against x) ≡ true) (λ x. is_lt (against x) ≡ false) xs i
      → IsPartitionPoint (λ x. is_le (against x) ≡ true) (λ x. is_le (against x) ≡ false) (drop i xs) j
      → take j (drop i xs) ≡ filter equal xs
  middle_stays xs i j h k first second =
      let low : AllWithin (λ x. is_lt (against x) ≡ false) (drop i xs) 0 (length (drop i xs)) =
      λ m d l n. ap (λ x. is_lt (against x)) (get_or-drop i xs m d) ∙ first.1 (i + m) d (omega arith) (omega (arith, length-drop i xs)) in
      rest_stays j (drop i xs) k low second.0 second.1 ∙ sym (front_goes i xs h first.0)

-- ---- names of candidates in order

abbrev pub name_against : List ℕ → Placed → Ordering
name_against name placed = name_cmp placed.candidate.now.name name

abbrev names_before : Placed → Placed → Bool
names_before a b = is_lt (name_cmp a.candidate.now.name b.candidate.now.name)

not_before : (o p : Ordering) → ordering_then o p ≡ Less → is_lt (ordering_reverse o) ≡ false
not_before Less p h = refl
not_before Equal p h = refl
not_before Greater p h = absurd (cc)

next_name : (xs : List Placed) → IsStrictlySortedBy order_cmp (map placed_seen xs) → (k : ℕ) (d : Placed) → suc k < length xs
    → names_before (get_or xs (suc k) d) (get_or xs k d) ≡ false
unfolding IsStrictlySortedBy
next_name [] h k d l = absurd (omega arith)
next_name (x ∷ []) h k d l = absurd (omega arith)
next_name (x ∷ y ∷ xs) h zero d l =
    let a = x.candidate.now in
    let b = y.candidate.now in
    ap is_lt (nat_list_cmp_total.antisymm b.name a.name)
    ∙ not_before (name_cmp a.name b.name)
    (ordering_then (version_cmp b.version a.version) (nat_cmp x.place y.place)) h.0.0
next_name (x ∷ y ∷ xs) h (suc k) d l = next_name (y ∷ xs) h.1 k d (omega arith)

names_rise : (xs : List Placed) → IsStrictlySortedBy order_cmp (map placed_seen xs) → IsSortedBy names_before xs
names_rise xs h k d l m =
    ap (λ n. names_before (get_or xs n d) (get_or xs k d)) (add-one k) ∙ next_name xs h k d (omega arith)

-- ---- what is seen of those of a name

same_name : (name : List ℕ) (x : Placed) → is_eq (name_against name x) ≡ bytes_eq name x.candidate.now.name
same_name name x = is_eq-slice_cmp x.candidate.now.name name ∙ nat_list_eq_equiv.symm x.candidate.now.name name

seen_by : (x : Placed) (xs : List Placed) (t : Bool)
    → map placed_seen (cond t (x ∷ xs) xs) ≡ cond t (placed_seen x ∷ map placed_seen xs) (map placed_seen xs)
seen_by x xs true = refl
seen_by x xs false = refl

abbrev run_seen : List ℕ → List Placed → List (ℕ × Candidate)
run_seen name xs = filter (λ c. bytes_eq name c.1.name) (map placed_seen xs)

run_is_seen : (name : List ℕ) (xs : List Placed)
    → map placed_seen (filter (λ x. is_eq (name_against name x)) xs) ≡ run_seen name xs
run_is_seen name [] = refl
run_is_seen name (x ∷ xs) =
    let t = is_eq (name_against name x) in
    seen_by x (filter (λ y. is_eq (name_against name y)) xs) t
    ∙ ap (λ cs. cond t (placed_seen x ∷ cs) cs) (run_is_seen name xs)
    ∙ ap (λ b. cond b (placed_seen x ∷ run_seen name xs) (run_seen name xs)) (same_name name x)

-- a search by a test, of which each answer is known
abbrev pub FindsPoint : (Placed → Bool) → List Placed → ℕ → Type 0
FindsPoint test xs i = IsPartitionedBy test xs → IsPartitionPoint (λ x. test x ≡ true) (λ x. test x ≡ false) xs i

pub run_found : (name : List ℕ) (xs rest : List Placed) (i j : ℕ) → IsStrictlySortedBy order_cmp (map placed_seen xs)
    → rest ≡ drop i xs → i ≤ length xs → j ≤ length rest
    → FindsPoint (λ x. is_lt (name_against name x)) xs i → FindsPoint (λ x. is_le (name_against name x)) rest j
    → map placed_seen (take j rest) ≡ run_seen name xs
run_found name xs rest i j up is h k first second =
    let against = name_against name in
    let rises : Rises against xs =
    searchable_from_sorted nat_list_cmp_total (λ x. x.candidate.now.name) xs name (names_rise xs up) in
    let within : j ≤ length (drop i xs) = subst (λ l. j ≤ length l) is k in
    let later : FindsPoint (λ x. is_le (against x)) (drop i xs) j =
    subst (λ l. FindsPoint (λ x. is_le (against x)) l j) is second in
    let behind : Rises against (drop i xs) = IsNonDecreasingBy-drop (λ x. ordering_index (against x)) i xs rises in
    ap (λ l. map placed_seen (take j l)) is
    ∙ ap (map placed_seen)
    (middle_stays against xs i j h within (first (parted_below against xs rises)) (later (parted_upto against (drop i xs) behind)))
    ∙ run_is_seen name xs
