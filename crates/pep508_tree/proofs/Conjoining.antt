-- Conjunctions of trees: how they last while nodes are added, and how they are put together from those of the
-- pairs that stand in two trees.
use Rattle.std.proofs.Common.{◌≡◌, ◌⊎◌, inl, inr, ℕ, zero, suc, ◌<◌, Bool, true, false, ◌&&◌, List, [], ◌∷◌}
use Rattle.std.proofs.Common.{◌++◌, length, get_or, map, refl, ap, ap₂, sym, subst, ◌∙◌, arith, length-append}
use Rattle.std.proofs.Common.{append_assoc, Less}
use Rattle.std.proofs.lemmas.Bool.{cases_Bool}
use Rattle.std.proofs.lemmas.List.{get_or_append_left}
use Rattle.std.specs.List.{AllByRecursion}
use Rattle.std.specs.Cmp.Lexicographic.{nat_list_cmp_total}
use Rattle.pep440_version.specs.OrderLaws.{version_cmp_total}
use Rattle.pep508_diagram.specs.declared.branch.Branch.{Branch}
use Rattle.pep508_diagram.specs.Text.{text_cmp}
use Rattle.pep508_diagram.specs.Branches.{AllBranches}
use Rattle.pep508_diagram.specs.Question.{Valuation}
use Rattle.pep508_tree.specs.Tree.{Tree}
use Rattle.pep508_tree.specs.Meaning.{NodeOf, NodeRecord, Versions, Texts, Flagged, holds, IsTree, Extends}
use Rattle.pep508_tree.specs.Nodes.{AllChildren, IsRising, IsJoined, Above, Splits, Made, chosen, no_node}
use Rattle.pep508_tree.specs.Nodes.{node_at, node_place, turned}
use Rattle.pep508_tree.specs.Joining.{children, is_same, head, tail, node_joined}
use Rattle.pep508_tree.specs.Conjunctions.{Conjunction, ArePairs, Meet}
use Rattle.pep508_tree.proofs.Diagrams.{holds_kept}
use Rattle.pep508_tree.proofs.Rejoined.{joined_rises, joined_differs, joined_at, joined_all}
use Rattle.pep508_tree.proofs.Same.{same_trees}
use Rattle.pep508_tree.proofs.Storing.{above_kept}

-- ---- nodes that are added

pub extends_itself : (nodes : List NodeRecord) → Extends nodes nodes
extends_itself nodes = ([], sym (append_nil nodes))
  where
    append_nil : (xs : List NodeRecord) → xs ++ [] ≡ xs
    append_nil [] = refl
    append_nil (x ∷ xs) = ap (λ ys. x ∷ ys) (append_nil xs)

pub extends_on : (old now new : List NodeRecord) → Extends old now → Extends now new → Extends old new
extends_on old now new e f =
    (e.0 ++ f.0, f.1 ∙ ap (λ nodes. nodes ++ f.0) e.1 ∙ append_assoc old e.0 f.0)

pub tree_kept : (old new : List NodeRecord) → Extends old new → (t : Tree) → IsTree old t → IsTree new t
tree_kept old new e t made = omega (arith, ap length e.1, length-append old e.0)

pub above_back : (old new : List NodeRecord) → Extends old new → (place : List ℕ) (t : Tree) → IsTree old t →
    Above new place t → Above old place t
unfolding Above
above_back old new e place t made above k f =
    let same : node_at new k ≡ node_at old k =
    ap (λ ns. node_at ns k) e.1 ∙ get_or_append_left old e.0 no_node k (omega arith) in
    subst (λ n. text_cmp place (node_place n) ≡ Less) same (above k f)

-- ---- conjunctions while nodes are added

pub conjunction_later : (old now new : List NodeRecord) (a b t : Tree) → Extends now new →
    Conjunction old now a b t → Conjunction old new a b t
conjunction_later old now new a b t e c = record {
  made = tree_kept now new e t c.made;
  truth_is = λ v. holds_kept now new e t c.made v ∙ c.truth_is v;
  above = λ place p q. above_kept now new e place t c.made (c.above place p q);
}

pub conjunction_earlier : (old now new : List NodeRecord) (a b t : Tree) → Extends old now → IsTree old a →
    IsTree old b → Conjunction now new a b t → Conjunction old new a b t
conjunction_earlier old now new a b t e made other c = record {
  made = c.made;
  truth_is = λ v. c.truth_is v ∙ ap₂ (λ x y. x && y) (holds_kept old now e a made v)
      (holds_kept old now e b other v);
  above = λ place p q.
      c.above place (above_kept old now e place a made p) (above_kept old now e place b other q);
}

pub conjunction_now : (old new : List NodeRecord) (a b t : Tree) → Extends old new → IsTree old a →
    IsTree old b →
    Conjunction old new a b t → Conjunction new new a b t
conjunction_now old new a b t e made other c = record {
  made = c.made;
  truth_is = λ v.
      c.truth_is v ∙ ap₂ (λ x y. x && y) (sym (holds_kept old new e a made v))
      (sym (holds_kept old new e b other v));
  above = λ place p q. c.above place (above_back old new e place a made p)
      (above_back old new e place b other q);
}

and_turned : (x y : Bool) → (x && y) ≡ (y && x)
and_turned true true = refl
and_turned true false = refl
and_turned false true = refl
and_turned false false = refl

pub conjunction_turned : (old new : List NodeRecord) (a b t : Tree) → Conjunction old new a b t →
    Conjunction old new b a t
conjunction_turned old new a b t c = record {
  made = c.made;
  truth_is = λ v. c.truth_is v ∙ and_turned (holds old a v) (holds old b v);
  above = λ place p q. c.above place q p;
}

-- two trees in either order
pub in_either : (old new : List NodeRecord) (a b t : Tree) (both : Tree × Tree) →
    (both ≡ (a, b)) ⊎ (both ≡ (b, a)) → Conjunction old new both.0 both.1 t → Conjunction old new a b t
in_either old new a b t both (inl e) c = subst (λ (p : Tree × Tree). Conjunction old new p.0 p.1 t) e c
in_either old new a b t both (inr e) c =
    conjunction_turned old new b a t (subst (λ (p : Tree × Tree). Conjunction old new p.0 p.1 t) e c)

-- ---- lists whose elements meet a condition, each with each

pub meet_push : {C D : Type 0} (R : C → D → Type 0) (xs : List C) (ys : List D) (x : C) (y : D) →
    Meet R xs ys →
    R x y → Meet R (xs ++ x ∷ []) (ys ++ y ∷ [])
meet_push R [] [] x y m r = (r, tt)
meet_push R [] (z ∷ ys) x y m r = absurd m
meet_push R (w ∷ xs) [] x y m r = absurd m
meet_push R (w ∷ xs) (z ∷ ys) x y m r = (m.0, meet_push R xs ys x y m.1 r)

pub meet_weaker : {C D : Type 0} (R S : C → D → Type 0) → ((x : C) (y : D) → R x y → S x y) → (xs : List C)
    (ys : List D) → Meet R xs ys → Meet S xs ys
meet_weaker R S so [] [] m = tt
meet_weaker R S so [] (y ∷ ys) m = m
meet_weaker R S so (x ∷ xs) [] m = m
meet_weaker R S so (x ∷ xs) (y ∷ ys) m = (so x y m.0, meet_weaker R S so xs ys m.1)

-- ---- nodes whose children are given anew

module _ {C : Type 0} where
  branches_list : {T : Type 0} (P : C → Type 0) (first : C) (later : List (Branch T C)) →
      AllBranches P first later →
      AllByRecursion P (first ∷ map (λ branch. branch.child) later)
  branches_list P first [] all = (all, tt)
  branches_list P first (b ∷ later) all = (all.0, branches_list P b.child later all.1)

  pub children_list : (P : C → Type 0) (n : NodeOf C) → AllChildren P n → AllByRecursion P (children n)
  children_list P (Versions key first later) all = branches_list P first later all
  children_list P (Texts key first later) all = branches_list P first later all
  children_list P (Flagged flag set unset) all = (all.0, (all.1, tt))

  pub each_of_list : (P : C → Type 0) (xs : List C) (i : ℕ) (x : C) → AllByRecursion P xs → i < length xs →
      x ≡ get_or xs i x → P x
  each_of_list P [] i x all inside e = absurd (omega arith)
  each_of_list P (y ∷ xs) zero x all inside e = subst P (sym e) all.0
  each_of_list P (y ∷ xs) (suc i) x all inside e = each_of_list P xs i x all.1 (omega arith) e

  pub meet_with : {D : Type 0} (P : C → Type 0) (R : C → D → Type 0) (xs : List C) (ys : List D) →
      AllByRecursion P xs → Meet R xs ys → Meet (λ x y. P x × R x y) xs ys
  meet_with P R [] [] all m = tt
  meet_with P R [] (y ∷ ys) all m = m
  meet_with P R (x ∷ xs) [] all m = m
  meet_with P R (x ∷ xs) (y ∷ ys) all m = ((all.0, m.0), meet_with P R xs ys all.1 m.1)

  pub place_joined : (n : NodeOf C) (trees : List Tree) → node_place (node_joined n trees) ≡ node_place n
  place_joined (Versions key first later) trees = refl
  place_joined (Texts key first later) trees = refl
  place_joined (Flagged flag set unset) trees = refl

  pub rises_joined : (n : NodeOf C) (trees : List Tree) → IsRising n → IsRising (node_joined n trees)
  rises_joined (Versions key first later) trees rises =
      joined_rises version_cmp_total is_same same_trees (head trees) later (tail trees) rises
  rises_joined (Texts key first later) trees rises =
      joined_rises nat_list_cmp_total is_same same_trees (head trees) later (tail trees) rises
  rises_joined (Flagged flag set unset) trees rises = tt

  pub is_joined : (n : NodeOf C) (trees : List Tree) → IsJoined (node_joined n trees)
  is_joined (Versions key first later) trees = joined_differs version_cmp_total is_same same_trees (head trees) later
      (tail trees)
  is_joined (Texts key first later) trees = joined_differs nat_list_cmp_total is_same same_trees (head trees) later (tail trees)
  is_joined (Flagged flag set unset) trees = tt

  module _ (R : C → Tree → Type 0) where
    pub children_joined : (P : Tree → Type 0) → ((c : C) (t : Tree) → R c t → P t) → (n : NodeOf C)
        (trees : List Tree) → Meet R (children n) trees → AllChildren P (node_joined n trees)
    children_joined P so (Versions key first later) [] m = absurd m
    children_joined P so (Versions key first later) (t ∷ trees) m =
        joined_all version_cmp_total is_same same_trees P R so t later trees (so first t m.0) m.1
    children_joined P so (Texts key first later) [] m = absurd m
    children_joined P so (Texts key first later) (t ∷ trees) m =
        joined_all nat_list_cmp_total is_same same_trees P R so t later trees (so first t m.0) m.1
    children_joined P so (Flagged flag set unset) [] m = absurd m
    children_joined P so (Flagged flag set unset) (t ∷ []) m = absurd m.1
    children_joined P so (Flagged flag set unset) (t ∷ u ∷ trees) m = (so set t m.0, so unset u m.1.0)

    pub chosen_joined : (n : NodeOf C) (trees : List Tree) → Meet R (children n) trees → IsRising n →
        (v : Valuation) → R (chosen n v) (chosen (node_joined n trees) v)
    chosen_joined (Versions key first later) [] m rises v = absurd m
    chosen_joined (Versions key first later) (t ∷ trees) m rises v =
        joined_at version_cmp_total is_same same_trees R first t later trees m.0 m.1 rises (v.version key)
    chosen_joined (Texts key first later) [] m rises v = absurd m
    chosen_joined (Texts key first later) (t ∷ trees) m rises v =
        joined_at nat_list_cmp_total is_same same_trees R first t later trees m.0 m.1 rises (v.text key)
    chosen_joined (Flagged flag set unset) [] m rises v = absurd m
    chosen_joined (Flagged flag set unset) (t ∷ []) m rises v = absurd m.1
    chosen_joined (Flagged flag set unset) (t ∷ u ∷ trees) m rises v = elim (cases_Bool (v.flag flag)) [
      | inl set_is ↦ rw set_is m.0
      | inr unset_is ↦ rw unset_is m.1.0
    ]

-- ---- conjunctions of pairs

above_turned : (nodes : List NodeRecord) (place : List ℕ) (turns : Bool) (t : Tree) → Above nodes place t →
    Above nodes place (turned turns t)
unfolding Above
above_turned nodes place turns t above = above

module _ (old now : List NodeRecord) (a b : Tree) (pairs : NodeOf (Tree × Tree)) (trees : List Tree)
    (s : Splits old a b pairs) (met : Meet (ArePairs old now a b) (children pairs) trees) where
  pub made_children : AllChildren (IsTree now) (node_joined pairs trees)
  made_children =
      children_joined (ArePairs old now a b) (IsTree now) (λ p t c. c.made) pairs trees met

  pub above_children : AllChildren (Above now (node_place (node_joined pairs trees)))
      (node_joined pairs trees)
  above_children =
      let behind = λ (p : Tree × Tree). Above old (node_place pairs) p.0 × Above old (node_place pairs) p.1 in
      subst (λ place. AllChildren (Above now place) (node_joined pairs trees))
      (sym (place_joined pairs trees))
      (children_joined (λ p t. behind p × ArePairs old now a b p t) (Above now (node_place pairs))
      (λ p t c. c.1.above (node_place pairs) (above_turned old (node_place pairs) a.negated p.0 c.0.0)
      (above_turned old (node_place pairs) b.negated p.1 c.0.1))
      pairs trees
      (meet_with behind (ArePairs old now a b) (children pairs) trees (children_list behind pairs s.above)
      met))

  pub conjunction_made : (new : List NodeRecord) (tree : Tree) → Made now new (node_joined pairs trees) tree →
      Conjunction old new a b tree
  conjunction_made new tree made = record {
    made = made.made;
    truth_is = λ v.
        made.truth_is v
        ∙ (chosen_joined (ArePairs old now a b) pairs trees met s.rises v).truth_is v
        ∙ ap₂ (λ x y. x && y) (sym (s.first_is v)) (sym (s.second_is v));
    above = λ place p q.
        made.above place (ap (λ other. text_cmp place other) (place_joined pairs trees) ∙ s.first place p q);
  }

-- ---- other lists

pub meet_by : {C D : Type 0} (R : C → D → Type 0) (xs other : List C) (ys more : List D) → xs ≡ other →
    more ≡ ys →
    Meet R xs ys → Meet R other more
meet_by R xs other ys more e f m = subst (λ zs. Meet R zs more) e (subst (Meet R xs) (sym f) m)
