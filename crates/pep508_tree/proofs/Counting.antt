-- How many pairs of trees of the first so many places are not known: a number that falls with each conjunction
-- that is remembered.
use Rattle.std.proofs.Common.{◌≡◌, ◌⊎◌, inl, inr, ℕ, zero, suc, ◌+◌, ◌<◌, ◌≤◌, Bool, true, false, cond}
use Rattle.std.proofs.Common.{Option, Some, None, ap, sym, subst, arith, Ordering, Less, Equal, Greater}
use Rattle.std.specs.BTreeMap.{BTreeMap, get, Updates}
use Rattle.std.specs.Cmp.{ranks}
use Rattle.std.specs.Ordering.{MatchOrdering, is_eq, nat_cmp}
use Rattle.pep508_tree.specs.Tree.{Tree}
use Rattle.pep508_tree.specs.declared.tree_pair.TreePair.{TreePair}
use Rattle.pep508_tree.specs.PairOrder.{pair_cmp}

-- ---- sums of what stands at the numbers below a bound

abbrev total : (ℕ → ℕ) → ℕ → ℕ
total f zero = 0
total f (suc n) = f n + total f n

total_most : (f g : ℕ → ℕ) → ((k : ℕ) → f k ≤ g k) → (n : ℕ) → total f n ≤ total g n
total_most f g most zero = omega arith
total_most f g most (suc n) = omega (arith, most n, total_most f g most n)

below_or_last : (i n : ℕ) (o : Ordering) → MatchOrdering o (i < n) (i ≡ n) (n < i) → i < suc n →
    (i < n) ⊎ (i ≡ n)
below_or_last i n Less less inside = inl less
below_or_last i n Equal same inside = inr same
below_or_last i n Greater less inside = absurd (omega arith)

total_less : (f g : ℕ → ℕ) → ((k : ℕ) → f k ≤ g k) → (i n : ℕ) → i < n → f i < g i → total f n < total g n
total_less f g most i zero inside less = absurd (omega arith)
total_less f g most i (suc n) inside less = elim (below_or_last i n (nat_cmp i n) (ranks i n) inside) [
  | inl below ↦ omega (arith, most n, total_less f g most i n below less)
  | inr same ↦
      let here : f n < g n = subst (λ k. f k < g k) same less in
      omega (arith, here, total_most f g most n)
]

-- ---- sums of what stands at the pairs of trees of the first so many places

abbrev pair_at : ℕ → Bool → ℕ → Bool → TreePair
pair_at i s j t =
    record { first = record { place = i; negated = s }; second = record { place = j; negated = t } }

abbrev with_signs : (TreePair → ℕ) → ℕ → ℕ → ℕ
with_signs f i j =
    f (pair_at i true j true) + f (pair_at i true j false)
    + (f (pair_at i false j true) + f (pair_at i false j false))

abbrev with_first : (TreePair → ℕ) → ℕ → ℕ → ℕ
with_first f n i = total (with_signs f i) n

abbrev with_all : (TreePair → ℕ) → ℕ → ℕ
with_all f n = total (with_first f n) n

module _ (f g : TreePair → ℕ) (most : (pair : TreePair) → f pair ≤ g pair) where
  signs_most : (i j : ℕ) → with_signs f i j ≤ with_signs g i j
  signs_most i j = omega (
    arith,
    most (pair_at i true j true),
    most (pair_at i true j false),
    most (pair_at i false j true),
    most (pair_at i false j false),
  )

  signs_less : (i j : ℕ) (s t : Bool) → f (pair_at i s j t) < g (pair_at i s j t) →
      with_signs f i j < with_signs g i j
  signs_less i j true true less = omega (
    arith,
    less,
    most (pair_at i true j false),
    most (pair_at i false j true),
    most (pair_at i false j false),
  )
  signs_less i j true false less = omega (
    arith,
    less,
    most (pair_at i true j true),
    most (pair_at i false j true),
    most (pair_at i false j false),
  )
  signs_less i j false true less = omega (
    arith,
    less,
    most (pair_at i true j true),
    most (pair_at i true j false),
    most (pair_at i false j false),
  )
  signs_less i j false false less = omega (
    arith,
    less,
    most (pair_at i true j true),
    most (pair_at i true j false),
    most (pair_at i false j true),
  )

  all_less : (pair : TreePair) (n : ℕ) → pair.first.place < n → pair.second.place < n → f pair < g pair →
      with_all f n < with_all g n
  all_less pair n first second less =
      total_less (with_first f n) (with_first g n)
      (λ i. total_most (with_signs f i) (with_signs g i) (signs_most i) n)
      pair.first.place n first
      (total_less (with_signs f pair.first.place) (with_signs g pair.first.place)
      (signs_most pair.first.place) pair.second.place n second
      (signs_less pair.first.place pair.second.place pair.first.negated pair.second.negated less))

-- ---- pairs that are not known

abbrev none : Option Tree → ℕ
none None = 1
none (Some tree) = 0

none_most : (answer : Option Tree) → none answer ≤ 1
none_most None = omega arith
none_most (Some tree) = omega arith

pub unknown : BTreeMap TreePair Tree → ℕ → ℕ
unknown known n = with_all (λ pair. none (get pair_cmp known pair)) n

pub unknown_less : (old new : BTreeMap TreePair Tree) (asked : TreePair) (tree : Tree) (n : ℕ) →
    Updates pair_cmp old new asked (Some tree) → get pair_cmp old asked ≡ None → asked.first.place < n →
    asked.second.place < n → unknown new n < unknown old n
unfolding unknown
unknown_less old new asked tree n updates absent first second =
    all_less (λ pair. none (get pair_cmp new pair)) (λ pair. none (get pair_cmp old pair)) most asked n first
    second
    (omega (arith, ap none updates.1, ap none absent))
  where
    by_sign : (same : Bool) (answer : Option Tree) → none (cond same (Some tree) answer) ≤ none answer
    by_sign true answer = omega arith
    by_sign false answer = omega arith

    most : (pair : TreePair) → none (get pair_cmp new pair) ≤ none (get pair_cmp old pair)
    most pair =
        subst (λ answer. none answer ≤ none (get pair_cmp old pair)) (sym (updates.0 pair))
        (by_sign (is_eq (pair_cmp asked pair)) (get pair_cmp old pair))
