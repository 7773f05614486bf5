-- How many of the first so many places are not known: a number that falls with each tree that is remembered.
use Rattle.std.proofs.Common.{◌≡◌, ◌⊎◌, inl, inr, ℕ, zero, suc, ◌+◌, ◌<◌, ◌≤◌, Bool, true, false, cond}
use Rattle.std.proofs.Common.{Option, Some, None, ap, sym, subst, arith, Ordering, Less, Equal, Greater}
use Rattle.std.specs.BTreeMap.{BTreeMap, get, Updates}
use Rattle.std.specs.Cmp.{ranks}
use Rattle.std.specs.Ordering.{MatchOrdering, is_eq, nat_cmp}
use Rattle.pep508_tree.specs.Tree.{Tree}

-- ---- sums of what stands at the numbers below a bound

abbrev total : (ℕ → ℕ) → ℕ → ℕ
total f zero = 0
total f (suc n) = f n + total f n

total_most : (f g : ℕ → ℕ) → ((k : ℕ) → f k ≤ g k) → (n : ℕ) → total f n ≤ total g n
total_most f g most zero = omega arith
total_most f g most (suc n) = omega (arith, most n, total_most f g most n)

below_or_last : (i n : ℕ) (o : Ordering) → MatchOrdering o (i < n) (i ≡ n) (n < i) → i < suc n →
    (i < n) ⊎ (i ≡ n)
below_or_last i n Less less inside = inl less
below_or_last i n Equal same inside = inr same
below_or_last i n Greater less inside = absurd (omega arith)

total_less : (f g : ℕ → ℕ) → ((k : ℕ) → f k ≤ g k) → (i n : ℕ) → i < n → f i < g i → total f n < total g n
total_less f g most i zero inside less = absurd (omega arith)
total_less f g most i (suc n) inside less = elim (below_or_last i n (nat_cmp i n) (ranks i n) inside) [
  | inl below ↦ omega (arith, most n, total_less f g most i n below less)
  | inr same ↦
      let here : f n < g n = subst (λ k. f k < g k) same less in
      omega (arith, here, total_most f g most n)
]

-- ---- places that are not known

abbrev none : Option Tree → ℕ
none None = 1
none (Some tree) = 0

pub unknown : BTreeMap ℕ Tree → ℕ → ℕ
unknown known n = total (λ place. none (get nat_cmp known place)) n

pub unknown_less : (old new : BTreeMap ℕ Tree) (place : ℕ) (tree : Tree) (n : ℕ) →
    Updates nat_cmp old new place (Some tree) → get nat_cmp old place ≡ None → place < n →
    unknown new n < unknown old n
unfolding unknown
unknown_less old new place tree n updates absent inside =
    total_less (λ k. none (get nat_cmp new k)) (λ k. none (get nat_cmp old k)) most place n inside
    (omega (arith, ap none updates.1, ap none absent))
  where
    by_sign : (same : Bool) (answer : Option Tree) → none (cond same (Some tree) answer) ≤ none answer
    by_sign true None = omega arith
    by_sign true (Some other) = omega arith
    by_sign false answer = omega arith

    most : (k : ℕ) → none (get nat_cmp new k) ≤ none (get nat_cmp old k)
    most k =
        subst (λ answer. none answer ≤ none (get nat_cmp old k)) (sym (updates.0 k))
        (by_sign (is_eq (nat_cmp place k)) (get nat_cmp old k))
