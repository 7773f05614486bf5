-- Passes over the nodes of a diagram, each of which gives something for each node.
use Rattle.std.proofs.Common.{◌≡◌, ◌↔◌, IsTrue, inl, inr, ℕ, ◌+◌, ◌<◌, Bool, true, false, not, cond, ◌&&◌, ◌==◌}
use Rattle.std.proofs.Common.{nat_le, nat_lt, List, [], ◌∷◌, ◌++◌, length, map, get_or, refl, ap, sym, subst, ◌∙◌, arith}
use Rattle.std.proofs.Common.{length-append}
use Rattle.std.proofs.lemmas.Bool.{cases_lt}
use Rattle.std.proofs.lemmas.List.{get_or_append_left}
use Rattle.std.proofs.Math.Seq.{get_or-append_seam}
use Rattle.std.specs.List.{AllByRecursion}
use Rattle.pep508_diagram.specs.Text.{text_cmp}
use Rattle.pep508_diagram.specs.Question.{Valuation}
use Rattle.pep508_tree.specs.Conjunctions.{Meet}
use Rattle.pep508_tree.specs.Tree.{Tree, constant, never}
use Rattle.pep508_tree.specs.Meaning.{NodeOf, NodeRecord, IsTree, Extends, holds}
use Rattle.pep508_tree.specs.Nodes.{AllChildren, IsRising, IsJoined, Above, Made, node_place, first_child}
use Rattle.pep508_tree.proofs.Conjoining.{tree_kept}
use Rattle.pep508_tree.proofs.Diagrams.{holds_kept}
use Rattle.pep508_tree.proofs.NodeChildren.{both_children}
use Rattle.pep508_tree.proofs.Roots.{constant_is}
use Rattle.pep508_tree.proofs.Storing as storing
use Rattle.pep508_leaf_diagram.specs.declared.child.Child.{Child}
use Rattle.pep508_leaf_diagram.specs.declared.child.Child.TheVariants.{Leaf, Node, Whole}
use Rattle.pep508_leaf_diagram.specs.declared.narrow.Leaves.{Leaves}
use Rattle.pep508_leaf_diagram.specs.Forms.{others}
use Rattle.pep508_leaf_diagram.specs.Joining.{node_joined}
use Rattle.pep508_leaf_diagram.specs.Leaves.{leaf_at, child_node, Stands, IsAbove, IsFit, IsSound, IsPut}
use Rattle.pep508_leaf_diagram.specs.Trees.{narrow_leaf, narrow_of, tree_below, leaf_is}
use Rattle.pep508_leaf_diagram.proofs.Joined.{place_joined, rises_joined, is_joined, children_joined, chosen_joined}
use Rattle.pep508_leaf_diagram.proofs.Joined.{first_and_others}
use Rattle.pep508_leaf_diagram.proofs.Leaves.{stands_more, above_kept, leaf_kept}
use Rattle.pep508_leaf_diagram.proofs.Roots.{above_constant}

-- what is there for the first so many nodes
pub record Each {D : Type 0} (R : Child → D → Type 0) (other : D) (i : ℕ) (found : List D) : Type 0 where
  pub count : length found ≡ i
  pub each : (k : ℕ) → k < i → R (Node k) (get_or found k other)

pub each_none : {D : Type 0} (R : Child → D → Type 0) (other : D) (found : List D) → found ≡ [] → Each R other 0 found
each_none R other found e = record { count = ap length e; each = λ k h. absurd (omega (arith, h)) }

pub each_weaker : {D : Type 0} (R S : Child → D → Type 0) → ((c : Child) (d : D) → R c d → S c d) → (other : D) (i : ℕ)
    (found : List D) → Each R other i found → Each S other i found
each_weaker R S so other i found e =
    record { count = e.count; each = λ k h. so (Node k) (get_or found k other) (e.each k h) }

pub each_more : {D : Type 0} (R : Child → D → Type 0) (other : D) (i : ℕ) (found more : List D) (x : D) →
    Each R other i found → R (Node i) x → more ≡ found ++ x ∷ [] → Each R other (i + 1) more
each_more R other i found more x e here pushed = subst (Each R other (i + 1)) (sym pushed) (record {
  count = omega (arith, length-append found (x ∷ []), e.count);
  each = λ k h. elim (cases_lt k i) [
    | inl a ↦
        subst (R (Node k)) (sym (get_or_append_left found (x ∷ []) other k (omega (arith, a, e.count)))) (e.each k a)
    | inr a ↦
        let same : k ≡ length found = omega (arith, h, a, e.count) in
        let one : i ≡ k = omega (arith, h, a) in
        subst (λ j. R (Node k) (get_or (found ++ x ∷ []) j other)) (sym same)
        (subst (R (Node k)) (sym (get_or-append_seam found x [] other)) (subst (λ j. R (Node j) x) one here))
  ];
})

pub meet_map : {C D : Type 0} (P : C → Type 0) (R : C → D → Type 0) (f : C → D) → ((x : C) → P x → R x (f x)) →
    (xs : List C) → AllByRecursion P xs → Meet R xs (map f xs)
meet_map P R f so [] all = tt
meet_map P R f so (x ∷ xs) all = (so x all.0, meet_map P R f so xs all.1)

-- what holds of what stands for the children
images : {D : Type 0} (R : Child → D → Type 0) (f : Child → D) (P : Child → Type 0) (node : NodeOf Child) →
    ((c : Child) → P c → R c (f c)) → AllChildren P node →
    R (first_child node) (f (first_child node)) × Meet R (others node) (map f (others node))
images R f P node so all =
    let parts = first_and_others P node all in
    (so (first_child node) parts.0, meet_map P R f so (others node) parts.1)

-- ---- some leaves are told apart

pub record Narrows (count : ℕ) (nodes narrow : List (NodeOf Child)) (leaves : Leaves) (c d : Child) : Type 0 where
  pub stands : Stands count (length narrow) d
  pub leaf : (v : Valuation) → leaf_at [] narrow d v ≡ narrow_leaf leaves (leaf_at [] nodes c v)
  pub above : (place : List ℕ) → IsAbove [] nodes place c → IsAbove [] narrow place d

below_by : (b : Bool) (n other count : ℕ) → n < count → other < count → cond b n other < count
below_by true n other count h i = h
below_by false n other count h i = i

pub narrow_at : (count i : ℕ) (nodes narrow : List (NodeOf Child)) (leaves : Leaves) (found : List Child) →
    leaves.other < count → Each (Narrows count nodes narrow leaves) (Leaf leaves.other) i found → (c : Child) →
    Stands count i c → Narrows count nodes narrow leaves c (narrow_of leaves found c)
narrow_at count i nodes narrow leaves found h e (Leaf n) s = record {
  stands = below_by (nat_le leaves.from n && nat_lt n leaves.to) n leaves.other count s h;
  leaf = λ v. refl;
  above = λ place a. tt;
}
narrow_at count i nodes narrow leaves found h e (Node k) s = e.each k s
narrow_at count i nodes narrow leaves found h e (Whole t) s = absurd s

pub narrow_more : (count : ℕ) (nodes narrow more : List (NodeOf Child)) (leaves : Leaves) (c d : Child) →
    Narrows count nodes narrow leaves c d → Narrows count nodes (narrow ++ more) leaves c d
narrow_more count nodes narrow more leaves c d n = record {
  stands = stands_more count count (length narrow) (length (narrow ++ more)) d (omega arith)
      (omega (arith, length-append narrow more)) n.stands;
  leaf = λ v. leaf_kept [] v count narrow more d n.stands ∙ n.leaf v;
  above = λ place a. above_kept [] count narrow more place d n.stands (n.above place a);
}

module _ (count i : ℕ) (nodes narrow : List (NodeOf Child)) (leaves : Leaves) (found : List Child)
    (same : Child → Child → Bool) (decides : (x y : Child) → IsTrue (same x y) ↔ (x ≡ y)) (node : NodeOf Child)
    (h : leaves.other < count) (e : Each (Narrows count nodes narrow leaves) (Leaf leaves.other) i found)
    (sound : IsSound [] count nodes i node) where
  abbrev pub narrow_node : NodeOf Child
  narrow_node =
      node_joined same node (narrow_of leaves found (first_child node)) (map (narrow_of leaves found) (others node))

  abbrev N : Child → Child → Type 0
  N = Narrows count nodes narrow leaves

  abbrev A : Child → Type 0
  A c = Stands count i c × IsAbove [] nodes (node_place node) c

  both : AllChildren A node
  both = both_children (Stands count i) (IsAbove [] nodes (node_place node)) node sound.fits.stands sound.fits.above

  met : N (first_child node) (narrow_of leaves found (first_child node))
      × Meet N (others node) (map (narrow_of leaves found) (others node))
  met = images N (narrow_of leaves found) (Stands count i) node (narrow_at count i nodes narrow leaves found h e)
      sound.fits.stands

  met_above : (IsAbove [] nodes (node_place node) (first_child node)
      × N (first_child node) (narrow_of leaves found (first_child node)))
      × Meet (λ c d. IsAbove [] nodes (node_place node) c × N c d) (others node) (map (narrow_of leaves found) (others node))
  met_above =
      images (λ c d. IsAbove [] nodes (node_place node) c × N c d) (narrow_of leaves found) A node
      (λ c a. (a.1, narrow_at count i nodes narrow leaves found h e c a.0)) both

  pub narrow_fits : IsFit [] count narrow (length narrow) narrow_node
  narrow_fits = record {
    rises = rises_joined same decides node _ _ sound.fits.rises;
    stands = children_joined same decides N (Stands count (length narrow)) (λ c d n. n.stands) node _ _ met.0 met.1;
    above = subst (λ place. AllChildren (IsAbove [] narrow place) narrow_node) (sym (place_joined same decides node _ _))
        (children_joined same decides (λ c d. IsAbove [] nodes (node_place node) c × N c d)
        (IsAbove [] narrow (node_place node)) (λ c d n. n.1.above (node_place node) n.0) node _ _ met_above.0
        met_above.1);
  }

  pub narrow_put : (new : List (NodeOf Child)) (d : Child) → IsPut [] count narrow new narrow_node d →
      node ≡ child_node nodes i → Narrows count nodes new leaves (Node i) d
  narrow_put new d put is = record {
    stands = put.stands;
    leaf = λ v.
        put.reaches v ∙ (chosen_joined same decides N node _ _ met.0 met.1 sound.fits.rises v).leaf v
        ∙ ap (narrow_leaf leaves) (sym (sound.reaches v));
    above = λ place a.
        put.above place (ap (text_cmp place) (place_joined same decides node _ _ ∙ ap node_place is) ∙ a);
  }

-- ---- trees of a leaf

pub record Says (inner : List NodeRecord) (nodes : List (NodeOf Child)) (leaf : ℕ) (c : Child) (t : Tree) : Type 0 where
  pub made : IsTree inner t
  pub truth : (v : Valuation) → holds inner t v ≡ leaf_is (leaf_at [] nodes c) leaf v
  pub above : (place : List ℕ) → IsAbove [] nodes place c → Above inner place t

not_twice : (b : Bool) → not (not b) ≡ b
not_twice true = refl
not_twice false = refl

pub says_at : (count i : ℕ) (inner : List NodeRecord) (nodes : List (NodeOf Child)) (leaf : ℕ) (found : List Tree) →
    Each (Says inner nodes leaf) never i found → (c : Child) → Stands count i c →
    Says inner nodes leaf c (tree_below found leaf c)
says_at count i inner nodes leaf found e (Leaf n) s = record {
  made = omega arith;
  truth = λ v. (constant_is inner (constant (n == leaf)) refl).holds_is v ∙ not_twice (n == leaf);
  above = λ place a. above_constant inner place (constant (n == leaf)) refl;
}
says_at count i inner nodes leaf found e (Node k) s = e.each k s
says_at count i inner nodes leaf found e (Whole t) s = absurd s

pub says_kept : (old new : List NodeRecord) → Extends old new → (nodes : List (NodeOf Child)) (leaf : ℕ) (c : Child)
    (t : Tree) → Says old nodes leaf c t → Says new nodes leaf c t
says_kept old new x nodes leaf c t s = record {
  made = tree_kept old new x t s.made;
  truth = λ v. holds_kept old new x t s.made v ∙ s.truth v;
  above = λ place a. storing.above_kept old new x place t s.made (s.above place a);
}

module _ (count i : ℕ) (inner : List NodeRecord) (nodes : List (NodeOf Child)) (leaf : ℕ) (found : List Tree)
    (same : Tree → Tree → Bool) (decides : (x y : Tree) → IsTrue (same x y) ↔ (x ≡ y)) (node : NodeOf Child)
    (e : Each (Says inner nodes leaf) never i found) (sound : IsSound [] count nodes i node) where
  abbrev pub tree_node : NodeRecord
  tree_node =
      node_joined same node (tree_below found leaf (first_child node)) (map (tree_below found leaf) (others node))

  abbrev S : Child → Tree → Type 0
  S = Says inner nodes leaf

  says : S (first_child node) (tree_below found leaf (first_child node))
      × Meet S (others node) (map (tree_below found leaf) (others node))
  says = images S (tree_below found leaf) (Stands count i) node (says_at count i inner nodes leaf found e)
      sound.fits.stands

  says_above : (IsAbove [] nodes (node_place node) (first_child node)
      × S (first_child node) (tree_below found leaf (first_child node)))
      × Meet (λ c t. IsAbove [] nodes (node_place node) c × S c t) (others node) (map (tree_below found leaf) (others node))
  says_above =
      images (λ c t. IsAbove [] nodes (node_place node) c × S c t) (tree_below found leaf)
      (λ c. Stands count i c × IsAbove [] nodes (node_place node) c) node
      (λ c a. (a.1, says_at count i inner nodes leaf found e c a.0))
      (both_children (Stands count i) (IsAbove [] nodes (node_place node)) node sound.fits.stands sound.fits.above)

  pub tree_made : AllChildren (IsTree inner) tree_node
  tree_made = children_joined same decides S (IsTree inner) (λ c t s. s.made) node _ _ says.0 says.1

  pub tree_above : AllChildren (Above inner (node_place tree_node)) tree_node
  tree_above = subst (λ place. AllChildren (Above inner place) tree_node) (sym (place_joined same decides node _ _))
      (children_joined same decides (λ c t. IsAbove [] nodes (node_place node) c × S c t) (Above inner (node_place node))
      (λ c t s. s.1.above (node_place node) s.0) node _ _ says_above.0 says_above.1)

  pub tree_rises : IsRising tree_node
  tree_rises = rises_joined same decides node _ _ sound.fits.rises

  pub tree_joined : IsJoined tree_node
  tree_joined = is_joined same decides node _ _

  pub tree_says : (new : List NodeRecord) (t : Tree) → Made inner new tree_node t → node ≡ child_node nodes i →
      Says new nodes leaf (Node i) t
  tree_says new t made is = record {
    made = made.made;
    truth = λ v.
        made.truth_is v ∙ (chosen_joined same decides S node _ _ says.0 says.1 sound.fits.rises v).truth v
        ∙ ap (λ n. n == leaf) (sym (sound.reaches v));
    above = λ place a.
        made.above place (ap (text_cmp place) (place_joined same decides node _ _ ∙ ap node_place is) ∙ a);
  }
