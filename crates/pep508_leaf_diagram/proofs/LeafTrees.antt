-- Trees of leaves: of parts of a diagram, and while nodes are added.
use Rattle.std.proofs.Common.{◌≡◌, inl, inr, ℕ, zero, suc, ◌+◌, ◌<◌, ◌≤◌, ◌&&◌, ◌==◌, nat_le, nat_lt}
use Rattle.std.proofs.Common.{List, [], ◌∷◌, ◌++◌, length, get_or, refl, ap, sym, subst, ◌∙◌, arith, append_assoc, length-append}
use Rattle.std.proofs.Common.{append-nil}
use Rattle.std.proofs.lemmas.Bool.{cases_Bool}
use Rattle.std.proofs.lemmas.Bool.Decides.{nat_tests}
use Rattle.std.specs.List.{AllByRecursion}
use Rattle.pep508_diagram.specs.Question.{Valuation}
use Rattle.pep508_tree.specs.Tree.{Tree}
use Rattle.pep508_tree.specs.Meaning.{NodeOf, NodeRecord, Extends}
use Rattle.pep508_tree.specs.Nodes.{chosen, node_place}
use Rattle.pep508_tree.specs.Truths.{IsTreeOf}
use Rattle.pep508_tree.proofs.Conjoining.{tree_kept}
use Rattle.pep508_tree.proofs.Diagrams.{holds_kept}
use Rattle.pep508_tree.proofs.Meanings.{chosen_all}
use Rattle.pep508_tree.proofs.NodeChildren.{weaker_children, both_children}
use Rattle.pep508_leaf_diagram.specs.declared.child.Child.{Child}
use Rattle.pep508_leaf_diagram.specs.declared.child.Child.TheVariants.{Leaf, Node, Whole}
use Rattle.pep508_leaf_diagram.specs.declared.narrow.Leaves.{Leaves}
use Rattle.pep508_leaf_diagram.specs.Leaves.{leaf_below, fill_leaves, leaves_of, leaf_at, child_node, Stands, IsAbove}
use Rattle.pep508_leaf_diagram.specs.Leaves.{IsGraph, no_node}
use Rattle.pep508_leaf_diagram.specs.Trees.{narrow_leaf, leaf_is, AreLeafTrees, ArePushed}

-- ---- a leaf that is told apart

pub narrow_same : (leaves : Leaves) (x n : ℕ) → leaves.from ≤ n → n < leaves.to → (leaves.other ≡ n → ⊥) →
    (narrow_leaf leaves x == n) ≡ (x == n)
narrow_same leaves x n low high apart = elim (cases_Bool (nat_le leaves.from x && nat_lt x leaves.to)) [
  | inl inside ↦ rw inside refl
  | inr outside ↦ rw outside (grind (arith, nat_tests, outside, low, high, apart))
]

-- ---- trees of several leaves

pub trees_by : (inner : List NodeRecord) (f g : Valuation → ℕ) (from : ℕ) (trees : List Tree) →
    ((n : ℕ) → from ≤ n → n < from + length trees → (v : Valuation) → (f v == n) ≡ (g v == n)) →
    AreLeafTrees inner f from trees → AreLeafTrees inner g from trees
trees_by inner f g from [] same are = tt
trees_by inner f g from (t ∷ trees) same are = (
  record { made = are.0.made; truth = λ v. are.0.truth v ∙ same from (omega arith) (omega arith) v },
  trees_by inner f g (from + 1) trees (λ n low high. same n (omega (arith, low)) (omega (arith, high))) are.1,
)

pub trees_kept : (old new : List NodeRecord) → Extends old new → (f : Valuation → ℕ) (from : ℕ) (trees : List Tree) →
    AreLeafTrees old f from trees → AreLeafTrees new f from trees
trees_kept old new x f from [] are = tt
trees_kept old new x f from (t ∷ trees) are = (
  record {
    made = tree_kept old new x t are.0.made;
    truth = λ v. holds_kept old new x t are.0.made v ∙ are.0.truth v;
  },
  trees_kept old new x f (from + 1) trees are.1,
)

trees_on : (inner : List NodeRecord) (f : Valuation → ℕ) (from to : ℕ) (xs ys : List Tree) → from + length xs ≡ to →
    AreLeafTrees inner f from xs → AreLeafTrees inner f to ys → AreLeafTrees inner f from (xs ++ ys)
trees_on inner f from to [] ys e a b = subst (λ n. AreLeafTrees inner f n ys) (sym (omega (arith, e))) b
trees_on inner f from to (x ∷ xs) ys e a b = (a.0, trees_on inner f (from + 1) to xs ys (omega (arith, e)) a.1 b)

pub pushed_none : (inner : List NodeRecord) (f : Valuation → ℕ) (from to : ℕ) (trees : List Tree) → from ≡ to →
    ArePushed inner f from to trees trees
pushed_none inner f from to trees e =
    record { more = []; new_is = sym (append-nil trees); count = omega (arith, e); each = tt }

pub pushed_one : (inner : List NodeRecord) (f : Valuation → ℕ) (from to : ℕ) (old new : List Tree) (t : Tree) →
    from + 1 ≡ to → new ≡ old ++ t ∷ [] → IsTreeOf inner (leaf_is f from) t → ArePushed inner f from to old new
pushed_one inner f from to old new t e pushed is =
    record { more = t ∷ []; new_is = pushed; count = omega (arith, e); each = (is, tt) }

-- trees of two parts of a diagram
pub pushed_both : (inner last : List NodeRecord) (f g h : Valuation → ℕ) (from middle to : ℕ) (old now new : List Tree) →
    Extends inner last → ArePushed inner f from middle old now → ArePushed last g middle to now new →
    ((n : ℕ) → from ≤ n → n < middle → (v : Valuation) → (f v == n) ≡ (h v == n)) →
    ((n : ℕ) → middle ≤ n → n < to → (v : Valuation) → (g v == n) ≡ (h v == n)) → ArePushed last h from to old new
pushed_both inner last f g h from middle to old now new x a b one two =
    record {
      more = a.more ++ b.more;
      new_is = b.new_is ∙ ap (λ xs. xs ++ b.more) a.new_is ∙ append_assoc old a.more b.more;
      count = omega (arith, a.count, b.count, length-append a.more b.more);
      each = trees_on last h from middle a.more b.more a.count
          (trees_by last f h from a.more (λ n low high. one n low (omega (arith, high, a.count)))
          (trees_kept inner last x f from a.more a.each))
          (trees_by last g h middle b.more (λ n low high. two n low (omega (arith, high, b.count))) b.each);
    }

-- ---- diagrams whose nodes have no trees

IsPlain : Child → Type 0
IsPlain (Leaf n) = Unit {0}
IsPlain (Node k) = Unit {0}
IsPlain (Whole t) = ⊥

plain_of : (leaves count : ℕ) (c : Child) → Stands leaves count c → IsPlain c
unfolding IsPlain
plain_of leaves count (Leaf n) s = tt
plain_of leaves count (Node k) s = tt
plain_of leaves count (Whole t) s = s

module _ (inner other : List NodeRecord) (v : Valuation) where
  below_same : (found : List ℕ) (c : Child) → IsPlain c → leaf_below inner found v c ≡ leaf_below other found v c
  unfolding IsPlain
  below_same found (Leaf n) p = refl
  below_same found (Node k) p = refl
  below_same found (Whole t) p = absurd p

  fill_same : (found : List ℕ) (ns : List (NodeOf Child)) → AllByRecursion (λ n. IsPlain (chosen n v)) ns →
      fill_leaves inner v found ns ≡ fill_leaves other v found ns
  fill_same found [] all = refl
  fill_same found (n ∷ ns) all =
      ap (λ here. fill_leaves inner v (found ++ here ∷ []) ns) (below_same found (chosen n v) all.0)
      ∙ fill_same (found ++ leaf_below other found v (chosen n v) ∷ []) ns all.1

  leaves_same : (nodes : List (NodeOf Child)) → AllByRecursion (λ n. IsPlain (chosen n v)) nodes →
      leaves_of inner nodes v ≡ leaves_of other nodes v
  unfolding leaves_of
  leaves_same nodes all = fill_same [] nodes all

  leaf_same : (leaves count : ℕ) (nodes : List (NodeOf Child)) → AllByRecursion (λ n. IsPlain (chosen n v)) nodes →
      (c : Child) → Stands leaves count c → leaf_at inner nodes c v ≡ leaf_at other nodes c v
  leaf_same leaves count nodes all (Leaf n) s = refl
  leaf_same leaves count nodes all (Node k) s = ap (λ ls. get_or ls k 0) (leaves_same nodes all)
  leaf_same leaves count nodes all (Whole t) s = absurd s

all_from : {C : Type 0} (P : C → Type 0) (d : C) (xs : List C) → ((k : ℕ) → k < length xs → P (get_or xs k d)) →
    AllByRecursion P xs
all_from P d [] each = tt
all_from P d (x ∷ xs) each = (each zero (omega arith), all_from P d xs (λ k h. each (suc k) (omega (arith, h))))

module _ (inner other : List NodeRecord) (leaves : ℕ) (nodes : List (NodeOf Child)) (graph : IsGraph inner leaves nodes)
  where
    all_plain : (v : Valuation) → AllByRecursion (λ n. IsPlain (chosen n v)) nodes
    all_plain v = all_from (λ n. IsPlain (chosen n v)) no_node nodes
        (λ k h. plain_of leaves k (chosen (child_node nodes k) v)
        (chosen_all (Stands leaves k) (child_node nodes k) v (graph k h).fits.stands))

    pub plain_leaf : (count : ℕ) (c : Child) → Stands leaves count c → (v : Valuation) →
        leaf_at inner nodes c v ≡ leaf_at other nodes c v
    plain_leaf count c s v = leaf_same inner other v leaves count nodes (all_plain v) c s

    above_same : (place : List ℕ) (count : ℕ) (c : Child) → Stands leaves count c → IsAbove inner nodes place c →
        IsAbove other nodes place c
    above_same place count (Leaf n) s a = tt
    above_same place count (Node k) s a = a
    above_same place count (Whole t) s a = absurd s

    pub plain_graph : IsGraph other leaves nodes
    plain_graph k h =
        let s = graph k h in
        let n = child_node nodes k in
        record {
          fits = record {
            rises = s.fits.rises;
            stands = s.fits.stands;
            above = weaker_children (λ c. Stands leaves k c × IsAbove inner nodes (node_place n) c)
                (IsAbove other nodes (node_place n)) (λ c is. above_same (node_place n) k c is.0 is.1) n
                (both_children (Stands leaves k) (IsAbove inner nodes (node_place n)) n s.fits.stands s.fits.above);
          };
          reaches = λ v.
              sym (plain_leaf (suc k) (Node k) (omega arith) v) ∙ s.reaches v
              ∙ plain_leaf k (chosen n v) (chosen_all (Stands leaves k) n v s.fits.stands) v;
        }
