-- The leaf that is reached, while nodes are added.
use Rattle.std.proofs.Common.{◌≡◌, inl, inr, ℕ, zero, suc, ◌+◌, ◌<◌, ◌≤◌, Bool, true, false, cond, List, [], ◌∷◌, ◌++◌}
use Rattle.std.proofs.Common.{length, get_or, refl, ap, sym, subst, ◌∙◌, arith, length-append, append-nil}
use Rattle.std.proofs.Common.{Less}
use Rattle.std.specs.Cmp.Lexicographic.{nat_list_cmp_total}
use Rattle.std.proofs.lemmas.Bool.{cases_lt}
use Rattle.std.proofs.lemmas.List.{get_or_append_left}
use Rattle.std.proofs.Math.Seq.{get_or-append_seam}
use Rattle.pep508_diagram.specs.Text.{text_cmp}
use Rattle.pep508_diagram.specs.Question.{Valuation}
use Rattle.pep508_tree.specs.Meaning.{NodeOf, NodeRecord}
use Rattle.pep508_tree.specs.Nodes.{chosen, node_place, first_child}
use Rattle.pep508_tree.proofs.NodeChildren.{weaker_children, both_children, first_of_children}
use Rattle.pep508_tree.proofs.Meanings.{chosen_all}
use Rattle.pep508_leaf_diagram.specs.declared.child.Child.{Child}
use Rattle.pep508_leaf_diagram.specs.declared.child.Child.TheVariants.{Leaf, Node, Whole}
use Rattle.pep508_leaf_diagram.specs.Forms.{IsSingle}
use Rattle.pep508_leaf_diagram.specs.Leaves.{leaf_below, fill_leaves, leaves_of, leaf_at, child_node, no_node, Stands}
use Rattle.pep508_leaf_diagram.specs.Leaves.{IsMade, IsAbove, IsFit, IsSound, IsGraph, IsOpened, IsPut}
use Rattle.pep508_leaf_diagram.proofs.Joined.{chosen_single}

module _ (inner : List NodeRecord) (v : Valuation) where
  fill_append : (found : List ℕ) (ns ms : List (NodeOf Child)) →
      fill_leaves inner v found (ns ++ ms) ≡ fill_leaves inner v (fill_leaves inner v found ns) ms
  fill_append found [] ms = refl
  fill_append found (n ∷ ns) ms = fill_append (found ++ leaf_below inner found v (chosen n v) ∷ []) ns ms

  length_fill : (found : List ℕ) (ns : List (NodeOf Child)) →
      length (fill_leaves inner v found ns) ≡ length found + length ns
  length_fill found [] = omega arith
  length_fill found (n ∷ ns) =
      let more = found ++ leaf_below inner found v (chosen n v) ∷ [] in
      let here : length more ≡ length found + 1 = length-append found (leaf_below inner found v (chosen n v) ∷ []) in
      omega (arith, length_fill more ns, here)

  fill_keeps : (found : List ℕ) (ns : List (NodeOf Child)) (k : ℕ) → k < length found →
      get_or (fill_leaves inner v found ns) k 0 ≡ get_or found k 0
  fill_keeps found [] k h = refl
  fill_keeps found (n ∷ ns) k h =
      let one = leaf_below inner found v (chosen n v) ∷ [] in
      fill_keeps (found ++ one) ns k (omega (arith, length-append found one))
      ∙ get_or_append_left found one 0 k h

  length_leaves : (nodes : List (NodeOf Child)) → length (leaves_of inner nodes v) ≡ length nodes
  unfolding leaves_of
  length_leaves nodes = omega (arith, length_fill [] nodes)

  leaves_more : (old more : List (NodeOf Child)) →
      leaves_of inner (old ++ more) v ≡ fill_leaves inner v (leaves_of inner old v) more
  unfolding leaves_of
  leaves_more old more = fill_append [] old more

  -- an earlier child reaches the leaf that it reached
  pub leaf_kept : (leaves : ℕ) (old more : List (NodeOf Child)) (c : Child) → Stands leaves (length old) c →
      leaf_at inner (old ++ more) c v ≡ leaf_at inner old c v
  leaf_kept leaves old more (Leaf n) s = refl
  leaf_kept leaves old more (Node k) s =
      ap (λ ls. get_or ls k 0) (leaves_more old more)
      ∙ fill_keeps (leaves_of inner old v) more k (omega (arith, s, length_leaves old))
  leaf_kept leaves old more (Whole t) s = absurd s

  pub leaf_last : (old : List (NodeOf Child)) (n : NodeOf Child) →
      leaf_at inner (old ++ n ∷ []) (Node (length old)) v ≡ leaf_at inner old (chosen n v) v
  leaf_last old n =
      let here = leaf_below inner (leaves_of inner old v) v (chosen n v) in
      ap (λ ls. get_or ls (length old) 0) (leaves_more old (n ∷ []))
      ∙ ap (λ k. get_or (leaves_of inner old v ++ here ∷ []) k 0) (sym (length_leaves old))
      ∙ get_or-append_seam (leaves_of inner old v) here [] 0

-- ---- what stands, and what is above

pub stands_more : (leaves m k n : ℕ) (c : Child) → leaves ≤ m → k ≤ n → Stands leaves k c → Stands m n c
stands_more leaves m k n (Leaf x) h i s = omega (arith, s)
stands_more leaves m k n (Node x) h i s = omega (arith, s)
stands_more leaves m k n (Whole t) h i s = absurd s

pub stands_made : (inner : List NodeRecord) (leaves n : ℕ) (c : Child) → Stands leaves n c → IsMade inner leaves n c
stands_made inner leaves n (Leaf x) s = s
stands_made inner leaves n (Node x) s = s
stands_made inner leaves n (Whole t) s = absurd s

pub above_kept : (inner : List NodeRecord) (leaves : ℕ) (old more : List (NodeOf Child)) (place : List ℕ) (c : Child) →
    Stands leaves (length old) c → IsAbove inner old place c → IsAbove inner (old ++ more) place c
above_kept inner leaves old more place (Leaf n) s a = tt
above_kept inner leaves old more place (Node k) s a =
    subst (λ n. text_cmp place (node_place n) ≡ Less) (sym (get_or_append_left old more no_node k s)) a
above_kept inner leaves old more place (Whole t) s a = absurd s

-- what is above a place is above all places before it
pub above_before : (inner : List NodeRecord) (leaves count : ℕ) (nodes : List (NodeOf Child)) (place other : List ℕ)
    (c : Child) → Stands leaves count c → text_cmp place other ≡ Less → IsAbove inner nodes other c →
    IsAbove inner nodes place c
above_before inner leaves count nodes place other (Leaf n) s less a = tt
above_before inner leaves count nodes place other (Node k) s less a =
    nat_list_cmp_total.trans place other (node_place (child_node nodes k)) less a
above_before inner leaves count nodes place other (Whole t) s less a = absurd s

-- ---- nodes that are added

fit_kept : (inner : List NodeRecord) (leaves : ℕ) (old more : List (NodeOf Child)) (count : ℕ) (n : NodeOf Child) →
    count ≤ length old → IsFit inner leaves old count n → IsFit inner leaves (old ++ more) count n
fit_kept inner leaves old more count n inside f = record {
  rises = f.rises;
  stands = f.stands;
  above = weaker_children (λ c. Stands leaves count c × IsAbove inner old (node_place n) c)
      (IsAbove inner (old ++ more) (node_place n))
      (λ c h. above_kept inner leaves old more (node_place n) c
      (stands_more leaves leaves count (length old) c (omega arith) inside h.0) h.1) n
      (both_children (Stands leaves count) (IsAbove inner old (node_place n)) n f.stands f.above);
}

at_end : (ns : List (NodeOf Child)) (n : NodeOf Child) → child_node (ns ++ n ∷ []) (length ns) ≡ n
at_end ns n = get_or-append_seam ns n [] no_node

module _ (inner : List NodeRecord) (leaves : ℕ) (old : List (NodeOf Child)) (n : NodeOf Child)
    (graph : IsGraph inner leaves old) (fit : IsFit inner leaves old (length old) n) where
  earlier : (k : ℕ) → k < length old → IsSound inner leaves (old ++ n ∷ []) k (child_node old k)
  earlier k h =
      let s = graph k h in
      record {
        fits = fit_kept inner leaves old (n ∷ []) k (child_node old k) (omega arith) s.fits;
        reaches = λ v.
            leaf_kept inner v leaves old (n ∷ []) (Node k) h ∙ s.reaches v
            ∙ sym (leaf_kept inner v leaves old (n ∷ []) (chosen (child_node old k) v)
            (stands_more leaves leaves k (length old) (chosen (child_node old k) v) (omega arith) (omega arith)
            (chosen_all (Stands leaves k) (child_node old k) v s.fits.stands)));
      }

  latest : IsSound inner leaves (old ++ n ∷ []) (length old) n
  latest = record {
    fits = fit_kept inner leaves old (n ∷ []) (length old) n (omega arith) fit;
    reaches = λ v.
        leaf_last inner v old n
        ∙ sym (leaf_kept inner v leaves old (n ∷ []) (chosen n v) (chosen_all (Stands leaves (length old)) n v fit.stands));
  }

  graph_pushed : IsGraph inner leaves (old ++ n ∷ [])
  graph_pushed k h = elim (cases_lt k (length old)) [
    | inl a ↦
        subst (IsSound inner leaves (old ++ n ∷ []) k) (sym (get_or_append_left old (n ∷ []) no_node k a)) (earlier k a)
    | inr a ↦
        let e : k ≡ length old = omega (arith, length-append old (n ∷ [])) in
        subst (λ j. IsSound inner leaves (old ++ n ∷ []) j (child_node (old ++ n ∷ []) j)) (sym e)
        (subst (IsSound inner leaves (old ++ n ∷ []) (length old)) (sym (at_end old n)) latest)
  ]

  pub put_behind : (new : List (NodeOf Child)) (c : Child) → new ≡ old ++ n ∷ [] → c ≡ Node (length old) →
      IsPut inner leaves old new n c
  put_behind new c e f =
      subst (λ ns. IsPut inner leaves old ns n c) (sym e) (subst (IsPut inner leaves old (old ++ n ∷ []) n) (sym f) (record {
        graph = graph_pushed;
        stands = omega (arith, length-append old (n ∷ []));
        above = λ place less. subst (λ m. text_cmp place (node_place m) ≡ Less) (sym (at_end old n)) less;
        reaches = λ v. leaf_last inner v old n;
        keeps = (n ∷ [], refl);
      }))

  pub put_alone : (new : List (NodeOf Child)) (c : Child) → IsSingle n → new ≡ old → c ≡ first_child n →
      IsPut inner leaves old new n c
  put_alone new c single e f =
      let stands = first_of_children (Stands leaves (length old)) n fit.stands in
      subst (λ ns. IsPut inner leaves old ns n c) (sym e) (subst (IsPut inner leaves old old n) (sym f) (record {
        graph = graph;
        stands = stands;
        above = λ place less. above_before inner leaves (length old) old place (node_place n) (first_child n) stands less
            (first_of_children (IsAbove inner old (node_place n)) n fit.above);
        reaches = λ v. ap (λ c. leaf_at inner old c v) (sym (chosen_single n single v));
        keeps = ([], sym (append-nil old));
      }))

-- ---- more leaves

pub more_leaves : (inner : List NodeRecord) (leaves m : ℕ) (nodes : List (NodeOf Child)) → leaves ≤ m →
    IsGraph inner leaves nodes → IsGraph inner m nodes
more_leaves inner leaves m nodes h graph k inside =
    let s = graph k inside in
    record {
      fits = record {
        rises = s.fits.rises;
        stands = weaker_children (Stands leaves k) (Stands m k)
            (λ c. stands_more leaves m k k c h (omega arith)) (child_node nodes k) s.fits.stands;
        above = s.fits.above;
      };
      reaches = s.reaches;
    }

-- ---- leaves are below their count

module _ (inner : List NodeRecord) (leaves : ℕ) (nodes : List (NodeOf Child)) (graph : IsGraph inner leaves nodes)
    (v : Valuation) where
  below_by : (most : ℕ) (c : Child) → Stands leaves most c → most ≤ length nodes → leaf_at inner nodes c v < leaves
  below_by most (Leaf n) s h = s
  below_by zero (Node k) s h = absurd (omega (arith, s))
  below_by (suc most) (Node k) s h =
      let is = graph k (omega (arith, s, h)) in
      let child = chosen (child_node nodes k) v in
      subst (λ n. n < leaves) (sym (is.reaches v))
      (below_by most child
      (stands_more leaves leaves k most child (omega arith) (omega (arith, s))
      (chosen_all (Stands leaves k) (child_node nodes k) v is.fits.stands)) (omega (arith, h)))
  below_by most (Whole t) s h = absurd s

  truth_below : (b : Bool) → 1 < leaves → cond b 1 0 < leaves
  truth_below true h = h
  truth_below false h = omega (arith, h)

  pub leaf_is_below : (c : Child) → IsMade inner leaves (length nodes) c → leaf_at inner nodes c v < leaves
  leaf_is_below (Leaf n) s = s
  leaf_is_below (Node k) s = below_by (length nodes) (Node k) s (omega arith)
  leaf_is_below (Whole t) s = truth_below _ s.1

-- ---- what is asked first

pub node_opened : (inner : List NodeRecord) (leaves : ℕ) (nodes : List (NodeOf Child)) (k : ℕ) (n : NodeOf Child) →
    IsGraph inner leaves nodes → k < length nodes → n ≡ child_node nodes k → IsOpened inner leaves nodes (Node k) n
node_opened inner leaves nodes k n graph h e =
    let s = graph k h in
    subst (IsOpened inner leaves nodes (Node k)) (sym e) (record {
      rises = s.fits.rises;
      made = weaker_children (Stands leaves k) (IsMade inner leaves (length nodes))
          (λ c is. stands_made inner leaves (length nodes) c
          (stands_more leaves leaves k (length nodes) c (omega arith) (omega arith) is)) (child_node nodes k) s.fits.stands;
      above = s.fits.above;
      first = λ place above. above;
      behind = λ place less. less;
      reaches = s.reaches;
    })
