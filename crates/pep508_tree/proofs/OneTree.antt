-- Trees of a sound interner: their diagrams are canonical, each stands at one place, and so one meaning has
-- one tree.
use Rattle.std.proofs.Common.{◌≡◌, ◌↔◌, ◌⊎◌, inl, inr, ℕ, zero, suc, ◌+◌, ◌≤◌, ◌<◌, Bool, true, false, not}
use Rattle.std.proofs.Common.{List, length, get_or, refl, ap, sym, subst, ◌∙◌, true≢false, arith, Equal}
use Rattle.version_ranges.specs.Turns.{flips}
use Rattle.pep508_diagram.specs.Diagram.{Diagram, Leaf, turned_by, leftmost}
use Rattle.pep508_diagram.specs.Children.{RootBehind}
use Rattle.pep508_diagram.specs.Question.{Question, Valuation, marker, truth, AreOne, IsCanonical}
use Rattle.pep508_diagram.proofs.Alike.{alike_back}
use Rattle.pep508_diagram.proofs.Questions.{asks, one_marker_diagram}
use Rattle.pep508_diagram.proofs.Turned.{leftmost_turned, alike_leftmost, alike_turned_back, turned_canonical}
use Rattle.pep508_diagram.proofs.Turned.{turned_truth}
use Rattle.pep508_tree.specs.Tree.{Tree, always, never, negation}
use Rattle.pep508_tree.specs.Meaning.{NodeRecord, node_diagram, diagrams, diagram_of, holds, IsTree}
use Rattle.pep508_tree.specs.Nodes.{AllChildren, Above, AreSound, node_at, node_place, node_cmp, first_child}
use Rattle.pep508_tree.proofs.Diagrams.{diagram_top, diagram_node}
use Rattle.pep508_tree.proofs.NodeChildren.{weaker_children, both_children, first_of_children, behind_turned}
use Rattle.pep508_tree.proofs.NodeChildren.{leftmost_node, root_node}
use Rattle.pep508_tree.proofs.OneNode.{AreBehind, leaf_not_node, canonical_node, one_node}

pub top_or_node : (n : ℕ) → (n ≡ 0) ⊎ ((k : ℕ) × (n ≡ k + 1))
top_or_node zero = inl refl
top_or_node (suc k) = inr (k, omega arith)

pub tree_is : (a b : Tree) → a.place ≡ b.place → a.negated ≡ b.negated → a ≡ b
tree_is a b place negated = λ i. record { place = place i; negated = negated i }

same_sign : (a b : Bool) → flips a true ≡ flips b true → a ≡ b
same_sign true true e = refl
same_sign true false e = absurd (true≢false (sym e))
same_sign false true e = absurd (true≢false e)
same_sign false false e = refl

module _ (nodes : List NodeRecord) (sound : AreSound nodes) where
  abbrev at : Tree → Diagram Question
  at = diagram_of nodes

  -- the diagram of the node at a place
  abbrev stored : ℕ → Diagram Question
  stored k = node_diagram at (node_at nodes k)

  -- a tree with a node
  pub tree_at : (t : Tree) (k : ℕ) → t.place ≡ k + 1 → k < length nodes →
      diagram_of nodes t ≡ turned_by t.negated (node_diagram (diagram_of nodes) (node_at nodes k))
  tree_at t k e h =
      ap (λ (p : ℕ). diagram_of nodes (record { place = p; negated = t.negated })) e
      ∙ diagram_node nodes k t.negated h (sound.each k h).before

  -- a tree asks first of a variable behind each place that it stands above
  pub root_behind : (place : List ℕ) (t : Tree) → IsTree nodes t → Above nodes place t →
      RootBehind place (diagram_of nodes t)
  unfolding Above
  root_behind place t made above = elim (top_or_node t.place) [
    | inl e ↦ subst (RootBehind place) (sym (diagram_top nodes t e)) tt
    | inr e ↦
        let here : e.0 < length nodes = omega (arith, e.1) in
        subst (RootBehind place) (sym (tree_at t e.0 e.1 here))
        (behind_turned t.negated place (stored e.0)
        (root_node at place (node_at nodes e.0) (sound.each e.0 here).wide (above e.0 e.1)))
  ]

  -- where each question is answered by yes, a tree holds unless it is negated
  leftmost_tree : (m : ℕ) (t : Tree) → t.place < m → IsTree nodes t →
      leftmost (diagram_of nodes t) ≡ flips t.negated true
  leftmost_tree zero t small made = absurd (omega arith)
  leftmost_tree (suc m) t small made = elim (top_or_node t.place) [
    | inl e ↦ ap leftmost (diagram_top nodes t e)
    | inr e ↦
        let k = e.0 in
        let here : k < length nodes = omega (arith, e.1) in
        let n = node_at nodes k in
        let first = first_child n in
        let before : first.place ≤ k = first_of_children (λ c. c.place ≤ k) n (sound.each k here).before in
        let rest : leftmost (at first) ≡ flips first.negated true =
        leftmost_tree m first (omega (arith, e.1)) (omega arith) in
        ap leftmost (tree_at t k e.1 here) ∙ leftmost_turned t.negated (stored k)
        ∙ ap (flips t.negated)
        (leftmost_node at n ∙ rest ∙ ap (λ b. flips b true) (sound.each k here).plain)
  ]

  pub leftmost_is : (t : Tree) → IsTree nodes t → leftmost (diagram_of nodes t) ≡ flips t.negated true
  leftmost_is t made = leftmost_tree (t.place + 1) t (omega arith) made

  -- ---- what is known of a node's children

  abbrev IsSmall : ℕ → Tree → Type 0
  IsSmall m c = (c.place < m) × IsTree nodes c

  small_children : (m k : ℕ) → k < length nodes → k < m → AllChildren (IsSmall m) (node_at nodes k)
  small_children m k here small =
      weaker_children (λ c. c.place ≤ k) (IsSmall m) (λ c before. (omega arith, omega arith))
      (node_at nodes k) (sound.each k here).before

  behind_children : (k : ℕ) → k < length nodes → AreBehind at (node_at nodes k)
  behind_children k here =
      let n = node_at nodes k in
      let s = sound.each k here in
      weaker_children (λ c. (c.place ≤ k) × Above nodes (node_place n) c)
      (λ c. RootBehind (node_place n) (at c)) (λ c h. root_behind (node_place n) c (omega (arith, h.0)) h.1) n
      (both_children (λ c. c.place ≤ k) (Above nodes (node_place n)) n s.before s.above)

  -- ---- one diagram stands at one place

  one_tree_to : (m : ℕ) (a b : Tree) → a.place < m → b.place < m → IsTree nodes a → IsTree nodes b →
      AreOne (diagram_of nodes a) (diagram_of nodes b) → a ≡ b
  one_tree_to zero a b small other_small made other_made one = absurd (omega arith)
  one_tree_to (suc m) a b small other_small made other_made one =
      let leaves = alike_leftmost marker (at a) (at b) one in
      let sign : a.negated ≡ b.negated =
      same_sign a.negated b.negated
      (sym (leftmost_tree (suc m) a small made) ∙ leaves ∙ leftmost_tree (suc m) b other_small other_made) in
      elim (top_or_node a.place) [
        | inl e ↦ elim (top_or_node b.place) [
          | inl f ↦ tree_is a b (e ∙ sym f) sign
          | inr f ↦ absurd (top_not_node a b f.0 e f.1 (omega (arith, f.1)) one)
        ]
        | inr e ↦ elim (top_or_node b.place) [
          | inl f ↦
              absurd (top_not_node b a e.0 f e.1 (omega (arith, e.1)) (alike_back asks (at a) (at b) one))
          | inr f ↦
              let k = e.0 in
              let j = f.0 in
              let here : k < length nodes = omega (arith, e.1) in
              let there : j < length nodes = omega (arith, f.1) in
              let same : AreOne (turned_by b.negated (stored k)) (turned_by b.negated (stored j)) =
              subst (λ s. AreOne (turned_by s (stored k)) (turned_by b.negated (stored j))) sign
              (subst (AreOne (turned_by a.negated (stored k))) (tree_at b j f.1 there)
              (subst (λ d. AreOne d (at b)) (tree_at a k e.1 here) one)) in
              let equal : node_cmp (node_at nodes k) (node_at nodes j) ≡ Equal =
              one_node at (IsSmall m) (λ c d p q. one_tree_to m c d p.0 q.0 p.1 q.1) (node_at nodes k)
              (node_at nodes j) (sound.each k here).wide (sound.each j there).wide (behind_children k here)
              (behind_children j there) (small_children m k here (omega (arith, e.1)))
              (small_children m j there (omega (arith, f.1)))
              (alike_turned_back marker b.negated (stored k) (stored j) same) in
              tree_is a b (e.1 ∙ ap (λ n. n + 1) (sound.once k j here there equal) ∙ sym f.1) sign
        ]
      ]
    where
      top_not_node : (a b : Tree) (k : ℕ) → a.place ≡ 0 → b.place ≡ k + 1 → k < length nodes →
          AreOne (diagram_of nodes a) (diagram_of nodes b) → ⊥
      top_not_node a b k e f here one =
          leaf_not_node at (node_at nodes k) (flips a.negated true) b.negated (sound.each k here).wide
          (subst (AreOne (turned_by a.negated (Leaf true))) (tree_at b k f here)
          (subst (λ d. AreOne d (at b)) (diagram_top nodes a e) one))

  -- trees with one diagram are one tree
  pub one_tree : (a b : Tree) → IsTree nodes a → IsTree nodes b →
      AreOne (diagram_of nodes a) (diagram_of nodes b) → a ≡ b
  one_tree a b made other_made one =
      one_tree_to (a.place + b.place + 1) a b (omega arith) (omega arith) made other_made one

  -- ---- diagrams of trees are canonical

  canonical_to : (m : ℕ) (t : Tree) → t.place < m → IsTree nodes t → IsCanonical (diagram_of nodes t)
  canonical_to zero t small made = absurd (omega arith)
  canonical_to (suc m) t small made = elim (top_or_node t.place) [
    | inl e ↦ subst IsCanonical (sym (diagram_top nodes t e)) tt
    | inr e ↦
        let k = e.0 in
        let here : k < length nodes = omega (arith, e.1) in
        let n = node_at nodes k in
        let s = sound.each k here in
        let p = small_children m k here (omega (arith, e.1)) in
        let inner : AllChildren (λ c. IsCanonical (at c)) n =
        weaker_children (IsSmall m) (λ c. IsCanonical (at c)) (λ c h. canonical_to m c h.0 h.1) n p in
        subst IsCanonical (sym (tree_at t k e.1 here))
        (turned_canonical marker t.negated (stored k)
        (canonical_node at (IsSmall m) (λ c d h g. one_tree c d h.1 g.1) n s.rises inner
        (behind_children k here) p s.differ))
  ]

  pub canonical_trees : (t : Tree) → IsTree nodes t → IsCanonical (diagram_of nodes t)
  canonical_trees t made = canonical_to (t.place + 1) t (omega arith) made

  -- ---- meanings

  -- trees are one exactly where they hold under the same valuations
  pub same_tree : (a b : Tree) → IsTree nodes a → IsTree nodes b →
      (a ≡ b) ↔ ((v : Valuation) → holds nodes a v ≡ holds nodes b v)
  same_tree a b made other_made = (
    λ e v. ap (λ t. holds nodes t v) e,
    λ agree.
        one_tree a b made other_made
        (one_marker_diagram (at a) (at b) (canonical_trees a made) (canonical_trees b other_made) agree),
  )

  -- the tree that always holds is the one that does, and so is the one that never does
  pub always_true : (t : Tree) → IsTree nodes t → (t ≡ always) ↔ ((v : Valuation) → holds nodes t v ≡ true)
  always_true t made =
      let constant : (v : Valuation) → holds nodes always v ≡ true =
      λ v. ap (λ d. truth d v) (diagram_top nodes always refl) in
      let same = same_tree t always made (omega arith) in
      (λ e v. same.0 e v ∙ constant v, λ all. same.1 (λ v. all v ∙ sym (constant v)))

  pub never_true : (t : Tree) → IsTree nodes t → (t ≡ never) ↔ ((v : Valuation) → holds nodes t v ≡ false)
  never_true t made =
      let constant : (v : Valuation) → holds nodes never v ≡ false =
      λ v. ap (λ d. truth d v) (diagram_top nodes never refl) in
      let same = same_tree t never made (omega arith) in
      (λ e v. same.0 e v ∙ constant v, λ all. same.1 (λ v. all v ∙ sym (constant v)))

flips_not : (n x : Bool) → flips (not n) x ≡ not (flips n x)
flips_not true true = refl
flips_not true false = refl
flips_not false true = refl
flips_not false false = refl

-- a negation holds where its tree does not
pub negation_holds : (nodes : List NodeRecord) (t : Tree) (v : Valuation) →
    holds nodes (negation t) v ≡ not (holds nodes t v)
negation_holds nodes t v =
    let d = get_or (diagrams nodes) t.place (Leaf true) in
    turned_truth marker (not t.negated) d v ∙ flips_not t.negated (truth d v)
    ∙ ap not (sym (turned_truth marker t.negated d v))
