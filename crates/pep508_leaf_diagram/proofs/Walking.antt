-- What is known of two diagrams that are merged, while leaves and nodes are added.
use Rattle.std.proofs.Common.{◌≡◌, ◌↔◌, IsTrue, ℕ, ◌+◌, ◌<◌, Bool, List, [], ◌∷◌, ◌++◌, length, take, get_or, ap, sym, subst}
use Rattle.std.proofs.Common.{◌∙◌, arith, length-append}
use Rattle.std.proofs.lemmas.List.{get_or_append_left, take_more}
use Rattle.std.proofs.Math.Seq.{get_or-append_seam}
use Rattle.std.specs.List.{AllByRecursion}
use Rattle.pep508_diagram.specs.Text.{text_cmp}
use Rattle.pep508_tree.specs.Conjunctions.{Meet}
use Rattle.pep508_tree.specs.Meaning.{NodeOf, NodeRecord}
use Rattle.pep508_tree.specs.Nodes.{AllChildren, chosen, node_place, first_child}
use Rattle.pep508_tree.proofs.Conjoining.{each_of_list, meet_with, meet_push}
use Rattle.pep508_leaf_diagram.specs.declared.child.Child.{Child}
use Rattle.pep508_leaf_diagram.specs.declared.child.Child.TheVariants.{Leaf}
use Rattle.pep508_leaf_diagram.specs.declared.diagram.Diagram.{Diagram}
use Rattle.pep508_leaf_diagram.specs.declared.merge_walk.Asked.{Asked}
use Rattle.pep508_leaf_diagram.specs.declared.merge_walk.Done.{Done}
use Rattle.pep508_leaf_diagram.specs.Forms.{others}
use Rattle.pep508_leaf_diagram.specs.Joining.{node_joined}
use Rattle.pep508_leaf_diagram.specs.Leaves.{leaf_at, Stands, IsAbove, IsFit, IsGraph, IsPut}
use Rattle.pep508_leaf_diagram.specs.Pairing.{AreSplit, AboveIn, leaf_in}
use Rattle.pep508_leaf_diagram.specs.Walks.{IsBoth, IsDone, AreBoth, IsFound}
use Rattle.pep508_leaf_diagram.proofs.Joined.{place_joined, rises_joined, children_joined, chosen_joined, first_and_others}
use Rattle.pep508_leaf_diagram.proofs.Leaves.{stands_more, stands_made, above_kept, leaf_kept, more_leaves, leaf_is_below}

-- what holds of all pairs of children holds of each of them in turn
pub pair_of : (P : Child × Child → Type 0) (node : NodeOf (Child × Child)) (pairs : List (Child × Child)) (i : ℕ)
    (pair : Child × Child) → AllChildren P node → pairs ≡ first_child node ∷ others node → i < length pairs →
    pair ≡ get_or pairs i pair → P pair
pair_of P node pairs i pair all e inside is =
    each_of_list P pairs i pair (subst (AllByRecursion P) (sym e) (first_and_others P node all)) inside is

abbrev pub AllDone : List NodeRecord → Diagram → Diagram → List (NodeOf Child) → List (ℕ × ℕ) → List Done → Type 0
AllDone inner a b nodes leaves done = AllByRecursion (IsDone inner a b nodes leaves) done

pub all_behind : {C : Type 0} (P : C → Type 0) (xs : List C) (x : C) → AllByRecursion P xs → P x →
    AllByRecursion P (xs ++ x ∷ [])
all_behind P [] x all one = (one, tt)
all_behind P (y ∷ xs) x all one = (all.0, all_behind P xs x all.1 one)

parts_of : {C : Type 0} (P : C → Type 0) (xs : List C) (x : C) → AllByRecursion P (xs ++ x ∷ []) →
    AllByRecursion P xs × P x
parts_of P [] x all = (tt, all.0)
parts_of P (y ∷ xs) x all = let later = parts_of P xs x all.1 in ((all.0, later.0), later.1)

pub all_before : {C : Type 0} (P : C → Type 0) (whole xs : List C) (x : C) → whole ≡ xs ++ x ∷ [] →
    AllByRecursion P whole → AllByRecursion P xs × P x
all_before P whole xs x e all = parts_of P xs x (subst (AllByRecursion P) e all)

pub all_weaker : {C : Type 0} (P Q : C → Type 0) → ((x : C) → P x → Q x) → (xs : List C) → AllByRecursion P xs →
    AllByRecursion Q xs
all_weaker P Q so [] all = tt
all_weaker P Q so (x ∷ xs) all = (so x all.0, all_weaker P Q so xs all.1)

pub meet_more : {C D : Type 0} (R : C → D → Type 0) (xs : List C) (ys more : List D) (i : ℕ) (x : C) (y : D) →
    Meet R (take i xs) ys → i < length xs → x ≡ get_or xs i x → R x y → more ≡ ys ++ y ∷ [] →
    Meet R (take (i + 1) xs) more
meet_more R xs ys more i x y met inside is here pushed =
    let longer : take (i + 1) xs ≡ take i xs ++ x ∷ [] =
    take_more xs i x inside ∙ ap (λ z. take i xs ++ z ∷ []) (sym is) in
    subst (λ zs. Meet R zs more) (sym longer)
    (subst (Meet R (take i xs ++ x ∷ [])) (sym pushed) (meet_push R (take i xs) ys x y met here))

pub found_both : (inner : List NodeRecord) (a b : Diagram) (nodes : List (NodeOf Child)) (leaves : List (ℕ × ℕ))
    (done : List Done) (asked : Asked) (child : Child) → AllDone inner a b nodes leaves done → IsFound asked child done →
    IsBoth inner a b nodes leaves asked.first asked.second child
found_both inner a b nodes leaves done asked child all found =
    each_of_list (IsDone inner a b nodes leaves) done found.0 (record { asked = asked; child = child }) all found.1 found.2

module _ (inner : List NodeRecord) (a b : Diagram) where
  -- ---- one more leaf

  leaf_more : (nodes : List (NodeOf Child)) (leaves : List (ℕ × ℕ)) (x : ℕ × ℕ) → IsGraph inner (length leaves) nodes →
      (first second child : Child) → IsBoth inner a b nodes leaves first second child →
      IsBoth inner a b nodes (leaves ++ x ∷ []) first second child
  leaf_more nodes leaves x graph first second child is = record {
    stands = stands_more (length leaves) (length (leaves ++ x ∷ [])) (length nodes) (length nodes) child
        (omega (arith, length-append leaves (x ∷ []))) (omega arith) is.stands;
    above = is.above;
    leaf = λ v.
        get_or_append_left leaves (x ∷ []) (0, 0) (leaf_at inner nodes child v)
        (leaf_is_below inner (length leaves) nodes graph v child
        (stands_made inner (length leaves) (length nodes) child is.stands))
        ∙ is.leaf v;
  }

  pub new_leaf : (nodes : List (NodeOf Child)) (leaves : List (ℕ × ℕ)) (i j : ℕ) →
      IsBoth inner a b nodes (leaves ++ (i, j) ∷ []) (Leaf i) (Leaf j) (Leaf (length leaves))
  new_leaf nodes leaves i j = record {
    stands = omega (arith, length-append leaves ((i, j) ∷ []));
    above = λ place x y. tt;
    leaf = λ v. get_or-append_seam leaves (i, j) [] (0, 0);
  }

  pub graph_more : (nodes : List (NodeOf Child)) (leaves : List (ℕ × ℕ)) (x : ℕ × ℕ) →
      IsGraph inner (length leaves) nodes → IsGraph inner (length (leaves ++ x ∷ [])) nodes
  graph_more nodes leaves x graph =
      more_leaves inner (length leaves) (length (leaves ++ x ∷ [])) nodes
      (omega (arith, length-append leaves (x ∷ []))) graph

  pub done_more : (nodes : List (NodeOf Child)) (leaves : List (ℕ × ℕ)) (x : ℕ × ℕ) (done : List Done) →
      IsGraph inner (length leaves) nodes → AllDone inner a b nodes leaves done →
      AllDone inner a b nodes (leaves ++ x ∷ []) done
  done_more nodes leaves x done graph all =
      all_weaker (IsDone inner a b nodes leaves) (IsDone inner a b nodes (leaves ++ x ∷ []))
      (λ d is. leaf_more nodes leaves x graph d.asked.first d.asked.second d.child is) done all

  -- ---- one more node

  node_more : (old more : List (NodeOf Child)) (leaves : List (ℕ × ℕ)) (first second child : Child) →
      IsBoth inner a b old leaves first second child → IsBoth inner a b (old ++ more) leaves first second child
  node_more old more leaves first second child is = record {
    stands = stands_more (length leaves) (length leaves) (length old) (length (old ++ more)) child (omega arith)
        (omega (arith, length-append old more)) is.stands;
    above = λ place x y.
        above_kept inner (length leaves) old more place child is.stands (is.above place x y);
    leaf = λ v.
        ap (λ n. get_or leaves n (0, 0)) (leaf_kept inner v (length leaves) old more child is.stands) ∙ is.leaf v;
  }

  pub done_kept : (old new more : List (NodeOf Child)) (leaves : List (ℕ × ℕ)) (done : List Done) →
      new ≡ old ++ more → AllDone inner a b old leaves done → AllDone inner a b new leaves done
  done_kept old new more leaves done e all =
      subst (λ nodes. AllDone inner a b nodes leaves done) (sym e)
      (all_weaker (IsDone inner a b old leaves) (IsDone inner a b (old ++ more) leaves)
      (λ d is. node_more old more leaves d.asked.first d.asked.second d.child is) done all)

  module _ (nodes : List (NodeOf Child)) (leaves : List (ℕ × ℕ)) (same : Child → Child → Bool)
      (decides : (x y : Child) → IsTrue (same x y) ↔ (x ≡ y)) (first second : Child) (pairs : NodeOf (Child × Child))
      (c : Child) (cs : List Child) (split : AreSplit inner a b first second pairs)
      (one : IsBoth inner a b nodes leaves (first_child pairs).0 (first_child pairs).1 c)
      (all : AreBoth inner a b nodes leaves (others pairs) cs) where
    abbrev R : Child × Child → Child → Type 0
    R pair child = IsBoth inner a b nodes leaves pair.0 pair.1 child

    abbrev Behind : Child × Child → Type 0
    Behind pair = AboveIn inner a (node_place pairs) pair.0 × AboveIn inner b (node_place pairs) pair.1

    behind : Behind (first_child pairs) × AllByRecursion Behind (others pairs)
    behind = first_and_others Behind pairs split.above

    pub node_fits : IsFit inner (length leaves) nodes (length nodes) (node_joined same pairs c cs)
    node_fits = record {
      rises = rises_joined same decides pairs c cs split.rises;
      stands = children_joined same decides R (Stands (length leaves) (length nodes)) (λ p d is. is.stands) pairs c cs
          one all;
      above = subst (λ place. AllChildren (IsAbove inner nodes place) (node_joined same pairs c cs))
          (sym (place_joined same decides pairs c cs))
          (children_joined same decides (λ p d. Behind p × R p d) (IsAbove inner nodes (node_place pairs))
          (λ p d is. is.1.above (node_place pairs) is.0.0 is.0.1) pairs c cs (behind.0, one)
          (meet_with Behind R (others pairs) cs behind.1 all));
    }

    pub node_both : (new : List (NodeOf Child)) (child : Child) →
        IsPut inner (length leaves) nodes new (node_joined same pairs c cs) child →
        IsBoth inner a b new leaves first second child
    node_both new child put = record {
      stands = put.stands;
      above = λ place x y.
          put.above place (ap (text_cmp place) (place_joined same decides pairs c cs) ∙ split.before place x y);
      leaf = λ v.
          let at = chosen_joined same decides R pairs c cs one all split.rises v in
          let whole : (ℕ × ℕ) = (leaf_in inner a first v, leaf_in inner b second v) in
          let parts : ◌≡◌ {A = ℕ × ℕ} (leaf_in inner a (chosen pairs v).0 v, leaf_in inner b (chosen pairs v).1 v) whole =
          (λ i. (sym (split.first_is v) i, sym (split.second_is v) i)) in
          ap (λ n. get_or leaves n (0, 0)) (put.reaches v) ∙ at.leaf v ∙ parts;
    }
