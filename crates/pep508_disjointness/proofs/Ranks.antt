-- The order of pairs of trees as an order of numbers, so that a walk that only goes down ends.
use Rattle.std.proofs.Common.{◌≡◌, ◌⊎◌, inl, inr, ℕ, ◌+◌, ◌*◌, ◌<◌, ◌≤◌, Bool, true, false, List, [], ◌∷◌}
use Rattle.std.proofs.Common.{◌++◌, refl, ap, sym, true≢false, arith, Ordering}
use Rattle.std.specs.declared.cmp.Ordering.TheVariants.{Less, Equal, Greater}
use Rattle.std.specs.List.{AllByRecursion}
use Rattle.std.specs.Cmp.{ranks, nat_cmp_is}
use Rattle.std.specs.Ordering.{MatchOrdering, ordering_then, nat_cmp, bool_cmp, is_gt}
use Rattle.std.proofs.Math.Nat.{mul-le-mul_left}
use Rattle.pep508_diagram.proofs.Places.{not_less}
use Rattle.version_ranges.specs.HashingLaws.{then_equal}
use Rattle.pep508_tree.specs.Tree.{Tree}
use Rattle.pep508_tree.specs.Nodes.{tree_cmp}
use Rattle.pep508_tree.proofs.Storing.{trees_same}
use Rattle.pep508_tree.specs.declared.tree_pair.TreePair.{TreePair}
use Rattle.pep508_tree.specs.PairOrder.{pair_cmp, places}

not_greater : Greater ≡ Less → ⊥
not_greater e = true≢false (ap is_gt e)

bool_less : (a b : Bool) → bool_cmp a b ≡ Less → (a ≡ false) × (b ≡ true)
bool_less true true e = absurd (not_less e)
bool_less true false e = absurd (not_greater e)
bool_less false true e = (refl, refl)
bool_less false false e = absurd (not_less e)

-- ---- one tree before another

abbrev pub FirstTree : Tree → Tree → Type 0
FirstTree a b = (a.place < b.place) ⊎ ((a.place ≡ b.place) × (a.negated ≡ false) × (b.negated ≡ true))

first_tree_by : (a b : Tree) (o : Ordering) → MatchOrdering o (a.place < b.place) (a.place ≡ b.place) (b.place < a.place) →
    ordering_then o (bool_cmp a.negated b.negated) ≡ Less → FirstTree a b
first_tree_by a b Less rank e = inl rank
first_tree_by a b Equal rank e = let signs = bool_less a.negated b.negated e in inr (rank, signs.0, signs.1)
first_tree_by a b Greater rank e = absurd (not_greater e)

first_tree : (a b : Tree) → tree_cmp a b ≡ Less → FirstTree a b
first_tree a b e = first_tree_by a b (nat_cmp a.place b.place) (ranks a.place b.place) e

-- ---- one pair before another

abbrev pub sign : Bool → ℕ
sign true = 1
sign false = 0

sign_most : (b : Bool) → sign b ≤ 1
sign_most true = omega arith
sign_most false = omega arith

-- what tells pairs of one sum of places apart
abbrev pub code : TreePair → ℕ
code asked = 4 * asked.first.place + (2 * sign asked.first.negated + sign asked.second.negated)

first_code : (a b : TreePair) → FirstTree a.first b.first → code a < code b
first_code a b (inl less) =
    let one = sign_most a.first.negated in
    let two = sign_most a.second.negated in
    omega arith
first_code a b (inr (same, off, on)) =
    let low = ap sign off in
    let high = ap sign on in
    let two = sign_most a.second.negated in
    omega arith

second_code : (a b : TreePair) → places a ≡ places b → a.first ≡ b.first → FirstTree a.second b.second → code a < code b
second_code a b sum same (inl less) =
    let place = ap (λ (t : Tree). t.place) same in
    absurd (omega arith)
second_code a b sum same (inr (place, off, on)) =
    let first = ap (λ (t : Tree). 4 * t.place + 2 * sign t.negated) same in
    let low = ap sign off in
    let high = ap sign on in
    omega arith

less_code_by : (a b : TreePair) (o : Ordering) → tree_cmp a.first b.first ≡ o → places a ≡ places b →
    ordering_then o (tree_cmp a.second b.second) ≡ Less → code a < code b
less_code_by a b Less is sum e = first_code a b (first_tree a.first b.first is)
less_code_by a b Equal is sum e =
    second_code a b sum (trees_same a.first b.first is) (first_tree a.second b.second e)
less_code_by a b Greater is sum e = absurd (not_greater e)

abbrev pub First : TreePair → TreePair → Type 0
First a b = (places a < places b) ⊎ ((places a ≡ places b) × (code a < code b))

first_by : (a b : TreePair) (o : Ordering) → MatchOrdering o (places a < places b) (places a ≡ places b) (places b < places a) →
    ordering_then o (ordering_then (tree_cmp a.first b.first) (tree_cmp a.second b.second)) ≡ Less → First a b
first_by a b Less rank e = inl rank
first_by a b Equal rank e = inr (rank, less_code_by a b (tree_cmp a.first b.first) refl rank e)
first_by a b Greater rank e = absurd (not_greater e)

first : (a b : TreePair) → pair_cmp a b ≡ Less → First a b
first a b e = first_by a b (nat_cmp (places a) (places b)) (ranks (places a) (places b)) e

-- ---- the number of a pair whose first tree stands no further than a bound

abbrev pub rank : ℕ → TreePair → ℕ
rank bound asked = (4 * bound + 4) * places asked + code asked

rank_by : (bound : ℕ) (a b : TreePair) → a.first.place ≤ bound → First a b → rank bound a < rank bound b
rank_by bound a b inside (inl less) =
    let one = sign_most a.first.negated in
    let two = sign_most a.second.negated in
    let span = 4 * bound + 4 in
    let more : span * (places a + 1) ≤ span * places b = mul-le-mul_left span (omega (arith, less)) in
    let next : span * (places a + 1) ≡ span * places a + span = omega arith in
    omega (arith, more, next, inside, one, two)
rank_by bound a b inside (inr (same, less)) =
    let span = ap (λ n. (4 * bound + 4) * n) same in
    omega (arith, span, less)

rank_less : (bound : ℕ) (a b : TreePair) → a.first.place ≤ bound → pair_cmp a b ≡ Less → rank bound a < rank bound b
rank_less bound a b inside e = rank_by bound a b inside (first a b e)

-- one more than the number of the last pair
abbrev pub top : ℕ → List TreePair → ℕ
top bound [] = 0
top bound (a ∷ []) = rank bound a + 1
top bound (a ∷ b ∷ list) = top bound (b ∷ list)

pub top_last : (bound : ℕ) (list : List TreePair) (a : TreePair) → top bound (list ++ a ∷ []) ≡ rank bound a + 1
top_last bound [] a = refl
top_last bound (b ∷ []) a = refl
top_last bound (b ∷ c ∷ list) a = top_last bound (c ∷ list) a

pub top_below : (bound : ℕ) (list : List TreePair) (a : TreePair) →
    AllByRecursion (λ b. b.first.place ≤ bound) list → AllByRecursion (λ b. pair_cmp b a ≡ Less) list →
    top bound list < rank bound a + 1
top_below bound [] a inside below = omega arith
top_below bound (b ∷ []) a inside below =
    let less = rank_less bound b a inside.0 below.0 in
    omega (arith, less)
top_below bound (b ∷ c ∷ list) a inside below = top_below bound (c ∷ list) a inside.1 below.1

-- ---- pairs of a lesser sum, and equal pairs

pub less_places : (a b : TreePair) → places a < places b → pair_cmp a b ≡ Less
less_places a b less =
    ap (λ o. ordering_then o (ordering_then (tree_cmp a.first b.first) (tree_cmp a.second b.second)))
    (sym (nat_cmp_is (places a) (places b) Less less))

pub same_asked : (a b : TreePair) → pair_cmp a b ≡ Equal → a ≡ b
same_asked a b e =
    let trees = ordering_then (tree_cmp a.first b.first) (tree_cmp a.second b.second) in
    let parts = then_equal (nat_cmp (places a) (places b)) trees e in
    let both = then_equal (tree_cmp a.first b.first) (tree_cmp a.second b.second) parts.1 in
    let one = trees_same a.first b.first both.0 in
    let other = trees_same a.second b.second both.1 in
    λ i. record { first = one i; second = other i }
