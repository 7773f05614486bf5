-- Children of two diagrams by the variable that comes first in them.
use Rattle.std.proofs.Common.{◌≡◌, inl, inr, ℕ, List, ◌∷◌, refl, ap, sym, subst, ◌∙◌, Less, Equal, Greater, nat_cmp}
use Rattle.version_ranges.specs.HashingLaws.{then_equal}
use Rattle.std.specs.Ordering.{ordering_reverse}
use Rattle.std.specs.Cmp.Lexicographic.{nat_list_cmp_total}
use Rattle.pep508_diagram.specs.Text.{text_cmp}
use Rattle.pep508_diagram.specs.Question.{Valuation}
use Rattle.pep508_diagram.proofs.Places.{numbers_same, texts_same}
use Rattle.pep508_tree.specs.Meaning.{NodeOf, NodeRecord}
use Rattle.pep508_tree.specs.Nodes.{AllChildren, IsChildIn, chosen, node_place, node_rank, node_text}
use Rattle.pep508_tree.proofs.NodeChildren.{weaker_children}
use Rattle.pep508_tree.proofs.Meanings.{each_child}
use Rattle.pep508_leaf_diagram.specs.declared.child.Child.{Child}
use Rattle.pep508_leaf_diagram.specs.declared.diagram.Diagram.{Diagram}
use Rattle.pep508_leaf_diagram.specs.Leaves.{IsOpened}
use Rattle.pep508_leaf_diagram.specs.Pairing.{ArePaired, AreJoined, AreSplit, MadeIn, AboveIn, leaf_in}

-- what is asked first where a child of a diagram stands
abbrev pub OpenedIn : List NodeRecord → Diagram → Child → NodeOf Child → Type 0
OpenedIn inner d child node = IsOpened inner d.leaves d.nodes.items child node

module _ (inner : List NodeRecord) (a b : Diagram) (first second : Child) where
  split_by : (place : List ℕ) (f g : Valuation → Child) (P Q : Child → Type 0) (pairs : NodeOf (Child × Child)) →
      ArePaired place f g P Q pairs → ((c : Child) → P c → MadeIn inner a c × AboveIn inner a place c) →
      ((c : Child) → Q c → MadeIn inner b c × AboveIn inner b place c) →
      ((p : List ℕ) → AboveIn inner a p first → AboveIn inner b p second → text_cmp p place ≡ Less) →
      ((v : Valuation) → leaf_in inner a first v ≡ leaf_in inner a (f v) v) →
      ((v : Valuation) → leaf_in inner b second v ≡ leaf_in inner b (g v) v) → AreSplit inner a b first second pairs
  split_by place f g P Q pairs p left right before one other = record {
    rises = p.rises;
    made = weaker_children (λ pair. P pair.0 × Q pair.1) (λ pair. MadeIn inner a pair.0 × MadeIn inner b pair.1)
        (λ pair is. ((left pair.0 is.0).0, (right pair.1 is.1).0)) pairs p.children;
    above = subst (λ q. AllChildren (λ pair. AboveIn inner a q pair.0 × AboveIn inner b q pair.1) pairs) (sym p.place_is)
        (weaker_children (λ pair. P pair.0 × Q pair.1)
        (λ pair. AboveIn inner a place pair.0 × AboveIn inner b place pair.1)
        (λ pair is. ((left pair.0 is.0).1, (right pair.1 is.1).1)) pairs p.children);
    before = λ q x y. ap (text_cmp q) p.place_is ∙ before q x y;
    first_is = λ v. one v ∙ ap (λ (pair : Child × Child). leaf_in inner a pair.0 v) (sym (p.chosen_is v));
    second_is = λ v. other v ∙ ap (λ (pair : Child × Child). leaf_in inner b pair.1 v) (sym (p.chosen_is v));
  }

  in_opened : (d : Diagram) (child : Child) (n : NodeOf Child) → OpenedIn inner d child n → (c : Child) →
      IsChildIn c n → MadeIn inner d c × AboveIn inner d (node_place n) c
  in_opened d child n o c is = (
    each_child (MadeIn inner d) n c o.made is,
    each_child (AboveIn inner d (node_place n)) n c o.above is,
  )

  whole : (d : Diagram) (place : List ℕ) (child : Child) → MadeIn inner d child → AboveIn inner d place child →
      (c : Child) → c ≡ child → MadeIn inner d c × AboveIn inner d place c
  whole d place child made above c e =
      subst (λ x. MadeIn inner d x × AboveIn inner d place x) (sym e) (made, above)

  -- the second child's variable comes later, if it has one
  pub split_first : (n : NodeOf Child) (pairs : NodeOf (Child × Child)) → OpenedIn inner a first n →
      MadeIn inner b second → AboveIn inner b (node_place n) second →
      ArePaired (node_place n) (chosen n) (λ v. second) (λ c. IsChildIn c n) (λ c. c ≡ second) pairs →
      AreSplit inner a b first second pairs
  split_first n pairs o made above p =
      split_by (node_place n) (chosen n) (λ v. second) (λ c. IsChildIn c n) (λ c. c ≡ second) pairs p
      (in_opened a first n o) (whole b (node_place n) second made above) (λ q x y. o.first q x) o.reaches (λ v. refl)

  pub split_second : (m : NodeOf Child) (pairs : NodeOf (Child × Child)) → OpenedIn inner b second m →
      MadeIn inner a first → AboveIn inner a (node_place m) first →
      ArePaired (node_place m) (λ v. first) (chosen m) (λ c. c ≡ first) (λ c. IsChildIn c m) pairs →
      AreSplit inner a b first second pairs
  split_second m pairs o made above p =
      split_by (node_place m) (λ v. first) (chosen m) (λ c. c ≡ first) (λ c. IsChildIn c m) pairs p
      (whole a (node_place m) first made above) (in_opened b second m o) (λ q x y. o.first q y) (λ v. refl) o.reaches

  same_place : (n m : NodeOf Child) → text_cmp (node_place n) (node_place m) ≡ Equal → node_place m ≡ node_place n
  same_place n m e =
      let parts = then_equal (nat_cmp (node_rank n) (node_rank m)) (text_cmp (node_text n) (node_text m)) e in
      let rank : node_rank n ≡ node_rank m = numbers_same (node_rank n) (node_rank m) parts.0 in
      let text : node_text n ≡ node_text m = texts_same (node_text n) (node_text m) parts.1 in
      sym (λ i. rank i ∷ text i)

  split_both : (n m : NodeOf Child) (pairs : NodeOf (Child × Child)) → OpenedIn inner a first n →
      OpenedIn inner b second m → node_place m ≡ node_place n →
      ArePaired (node_place n) (chosen n) (chosen m) (λ c. IsChildIn c n) (λ c. IsChildIn c m) pairs →
      AreSplit inner a b first second pairs
  split_both n m pairs o q e p =
      split_by (node_place n) (chosen n) (chosen m) (λ c. IsChildIn c n) (λ c. IsChildIn c m) pairs p
      (in_opened a first n o)
      (λ c is. subst (λ place. MadeIn inner b c × AboveIn inner b place c) e (in_opened b second m q c is))
      (λ r x y. o.first r x) o.reaches q.reaches

  pub split_joined : (n m : NodeOf Child) (pairs : NodeOf (Child × Child)) → OpenedIn inner a first n →
      OpenedIn inner b second m → MadeIn inner a first → MadeIn inner b second → AreJoined first second n m pairs →
      AreSplit inner a b first second pairs
  split_joined n m pairs o q made other (inl j) =
      split_first n pairs o other (q.behind (node_place n) j.0) j.1
  split_joined n m pairs o q made other (inr (inl j)) = split_both n m pairs o q (same_place n m j.0) j.1
  split_joined n m pairs o q made other (inr (inr j)) =
      split_second m pairs q made (o.behind (node_place m) (greater_less (node_place n) (node_place m) j.0)) j.1
    where
      greater_less : (p q : List ℕ) → text_cmp p q ≡ Greater → text_cmp q p ≡ Less
      greater_less p q e = nat_list_cmp_total.antisymm q p ∙ ap ordering_reverse e
