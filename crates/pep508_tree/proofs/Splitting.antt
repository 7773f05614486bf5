-- Two trees by the variable that comes first in them.
use Rattle.std.proofs.Common.{◌≡◌, inl, inr, ℕ, zero, suc, ◌+◌, ◌-◌, ◌<◌, ◌≤◌, Bool, true, false, List, []}
use Rattle.std.proofs.Common.{◌∷◌, length, get_or, refl, ap, sym, subst, ◌∙◌, arith, Ordering, Less, Equal}
use Rattle.std.proofs.Common.{Greater, is_eq, is_gt, true≢false}
use Rattle.std.specs.Ordering.{ordering_reverse}
use Rattle.std.specs.Cmp.Lexicographic.{nat_list_cmp_total}
use Rattle.std.specs.declared.rc.Rc.{Rc}
use Rattle.pep508_diagram.specs.Text.{text_cmp}
use Rattle.pep508_diagram.specs.Question.{Valuation}
use Rattle.pep508_diagram.proofs.Places.{texts_same}
use Rattle.pep508_diagram.proofs.Turned.{flips_twice}
use Rattle.pep508_tree.specs.Tree.{Tree}
use Rattle.pep508_tree.specs.Meaning.{NodeOf, NodeRecord, Versions, Texts, Flagged, holds, IsTree}
use Rattle.pep508_tree.specs.Nodes.{AllChildren, IsChildIn, Above, AreSound, Paired, Splits, chosen}
use Rattle.pep508_tree.specs.Nodes.{counterpart, node_at, node_place, turned}
use Rattle.pep508_tree.specs.Places.{nodes_of}
use Rattle.pep508_tree.proofs.NodeChildren.{weaker_children}
use Rattle.pep508_tree.proofs.Meanings.{chosen_child, each_child, holds_at, holds_turned}

-- ---- nodes and their owners

owner_at : {A : Type 0} (owners : List (Rc NodeRecord A)) (k : ℕ) (r : Rc NodeRecord A) → k < length owners →
    r ≡ get_or owners k r → r.value ≡ node_at (nodes_of owners) k
owner_at [] k r h e = absurd (omega arith)
owner_at (o ∷ owners) zero r h e = ap (λ x. x.value) e
owner_at (o ∷ owners) (suc k) r h e = owner_at owners k r (omega arith) e

pub length_nodes : {A : Type 0} (owners : List (Rc NodeRecord A)) → length (nodes_of owners) ≡ length owners
length_nodes [] = refl
length_nodes (o ∷ owners) = ap (λ n. suc n) (length_nodes owners)

-- the node that an owner of the table has
pub node_is : {A : Type 0} (owners : List (Rc NodeRecord A)) (nodes : List NodeRecord) (t : Tree) (p : ℕ)
    (r : Rc NodeRecord A) (n : NodeRecord) → nodes_of owners ≡ nodes → p ≡ t.place → 0 < t.place →
    IsTree nodes t →
    r ≡ get_or owners (p - 1) r → n ≡ r.value → n ≡ node_at nodes (t.place - 1)
node_is owners nodes t p r n view place some made e value =
    value
    ∙ owner_at owners (p - 1) r (omega (arith, length_nodes owners, ap length view)) e
    ∙ ap (λ q. node_at (nodes_of owners) (q - 1)) place
    ∙ ap (λ ns. node_at ns (t.place - 1)) view

-- ---- orders

not_greater : (o : Ordering) → is_gt (ordering_reverse o) ≡ false → is_eq o ≡ false → o ≡ Greater
not_greater Less e f = absurd (true≢false e)
not_greater Equal e f = absurd (true≢false f)
not_greater Greater e f = refl

pub less_of : (o : Ordering) → is_gt o ≡ false → is_eq o ≡ false → o ≡ Less
less_of Less e f = refl
less_of Equal e f = absurd (true≢false f)
less_of Greater e f = absurd (true≢false e)

pub equal_of : (o : Ordering) → is_eq o ≡ true → o ≡ Equal
equal_of Less e = absurd (true≢false (sym e))
equal_of Equal e = refl
equal_of Greater e = absurd (true≢false (sym e))

reverse_gt : (o : Ordering) → is_gt o ≡ true → is_gt (ordering_reverse o) ≡ false
reverse_gt Less e = absurd (true≢false (sym e))
reverse_gt Equal e = refl
reverse_gt Greater e = refl

pub turned_round : (p q : List ℕ) → is_gt (text_cmp p q) ≡ true → is_gt (text_cmp q p) ≡ false
turned_round p q e = ap is_gt (nat_list_cmp_total.antisymm q p) ∙ reverse_gt (text_cmp p q) e

-- ---- a tree as a node

module _ (nodes : List NodeRecord) where
  -- what a node says of a tree, whose variables come no sooner than the place
  pub record IsSide (place : List ℕ) (t : Tree) (n : NodeRecord) : Type 0 where
    pub no_later : (c : Tree) → IsChildIn c n → c.place ≤ t.place
    pub above : (c : Tree) → IsChildIn c n → Above nodes place c
    pub holds_is : (v : Valuation) → holds nodes t v ≡ holds nodes (turned t.negated (chosen n v)) v

  module _ (a b : Tree) (na nb : NodeRecord) (pairs : NodeOf (Tree × Tree)) where
    pub splits_by : IsTree nodes a → IsTree nodes b → IsSide (node_place na) a na →
        ((c : Tree) → IsChildIn c na → c.place < a.place) → IsSide (node_place na) b nb → Paired na nb pairs →
        ((place : List ℕ) → Above nodes place a → text_cmp place (node_place na) ≡ Less) →
        Splits nodes a b pairs
    splits_by made other_made one falls two paired first =
        let each : (P : Tree × Tree → Type 0) →
        ((p : Tree × Tree) → IsChildIn p.0 na → IsChildIn p.1 nb → P p) → AllChildren P pairs =
        λ P f. weaker_children _ P (λ p is. f p is.0 is.1) pairs paired.children in
        record {
          rises = paired.rises;
          made = each (λ p. IsTree nodes p.0 × IsTree nodes p.1)
              (λ p is other. (omega (arith, one.no_later p.0 is), omega (arith, two.no_later p.1 other)));
          falls = each (λ p. p.0.place + p.1.place < a.place + b.place)
              (λ p is other. omega (arith, falls p.0 is, two.no_later p.1 other));
          above = each (λ p. Above nodes (node_place pairs) p.0 × Above nodes (node_place pairs) p.1)
              (λ p is other. (
                subst (λ place. Above nodes place p.0) (sym paired.place_is) (one.above p.0 is),
                subst (λ place. Above nodes place p.1) (sym paired.place_is) (two.above p.1 other),
              ));
          first_is = λ v.
              one.holds_is v ∙ ap (λ c. holds nodes (turned a.negated c.0) v) (sym (paired.chosen_is v));
          second_is = λ v.
              two.holds_is v ∙ ap (λ c. holds nodes (turned b.negated c.1) v) (sym (paired.chosen_is v));
          first = λ place above _. ap (λ other. text_cmp place other) paired.place_is ∙ first place above;
        }

module _ (nodes : List NodeRecord) (sound : AreSound nodes) where
  place_minus : (t : Tree) → 0 < t.place → t.place ≡ (t.place - 1) + 1
  place_minus t some = omega arith

  -- a tree by its node
  node_falls : (t : Tree) → 0 < t.place → IsTree nodes t → (c : Tree) →
      IsChildIn c (node_at nodes (t.place - 1)) → c.place < t.place
  node_falls t some made c is =
      let k = t.place - 1 in
      let inside : k < length nodes = omega arith in
      let low : c.place ≤ k =
      each_child (λ child. child.place ≤ k) (node_at nodes k) c (sound.each k inside).before is in
      omega arith

  node_side : (t : Tree) → 0 < t.place → IsTree nodes t → (place : List ℕ) →
      node_place (node_at nodes (t.place - 1)) ≡ place → IsSide nodes place t (node_at nodes (t.place - 1))
  node_side t some made place e =
      let k = t.place - 1 in
      let inside : k < length nodes = omega arith in
      let n = node_at nodes k in
      record {
        no_later = λ c is. omega (arith, node_falls t some made c is);
        above = λ c is.
            each_child (Above nodes place) n c
            (subst (λ p. AllChildren (Above nodes p) n) e (sound.each k inside).above) is;
        holds_is = λ v.
            holds_at nodes sound t k (place_minus t some) inside v
            ∙ sym (holds_turned nodes t.negated (chosen n v) v);
      }

  -- the place of a tree's first variable
  node_first : (t : Tree) → 0 < t.place → IsTree nodes t → (place : List ℕ) → Above nodes place t →
      text_cmp place (node_place (node_at nodes (t.place - 1))) ≡ Less
  unfolding Above
  node_first t some made place above = above (t.place - 1) (place_minus t some)

  -- trees of one first variable
  pub split_same : (a b : Tree) (na nb : NodeRecord) (pairs : NodeOf (Tree × Tree)) → IsTree nodes a →
      IsTree nodes b → 0 < a.place → 0 < b.place → na ≡ node_at nodes (a.place - 1) →
      nb ≡ node_at nodes (b.place - 1) → text_cmp (node_place na) (node_place nb) ≡ Equal →
      Paired na nb pairs →
      Splits nodes a b pairs
  split_same a b na nb pairs made other_made some other_some e f same paired =
      let at = node_at nodes (a.place - 1) in
      let other = node_at nodes (b.place - 1) in
      let places : node_place other ≡ node_place at =
      sym (sym (ap node_place e) ∙ texts_same (node_place na) (node_place nb) same ∙ ap node_place f) in
      splits_by nodes a b at other pairs made other_made (node_side a some made (node_place at) refl)
      (node_falls a some made) (node_side b other_some other_made (node_place at) places)
      (subst (λ n. Paired at n pairs) f (subst (λ n. Paired n nb pairs) e paired))
      (node_first a some made)

  -- a tree that asks only for later variables than a node, as a node of that variable
  pub alone_in : (n : NodeRecord) (u c : Tree) → IsChildIn c (counterpart n u [] [] u) → c ≡ u
  alone_in (Versions key first later) u c is = is
  alone_in (Texts key first later) u c is = is
  alone_in (Flagged flag set unset) u c (inl is) = is
  alone_in (Flagged flag set unset) u c (inr is) = is

  back : (t : Tree) → t ≡ turned t.negated (turned t.negated t)
  back t = λ i. record { place = t.place; negated = sym (flips_twice t.negated t.negated) i }

  above_sign : (place : List ℕ) (s : Bool) (t : Tree) → Above nodes place t → Above nodes place (turned s t)
  unfolding Above
  above_sign place s t above = above

  pub above_later : (place : List ℕ) (t : Tree) → 0 < t.place →
      text_cmp place (node_place (node_at nodes (t.place - 1))) ≡ Less → Above nodes place t
  unfolding Above
  above_later place t some less k e =
      let same : t.place - 1 ≡ k = omega arith in
      subst (λ j. text_cmp place (node_place (node_at nodes j)) ≡ Less) same less

  whole_side : (n : NodeRecord) (t : Tree) → Above nodes (node_place n) t →
      IsSide nodes (node_place n) t (counterpart n (turned t.negated t) [] [] (turned t.negated t))
  whole_side n t above =
      let u = turned t.negated t in
      record {
        no_later = λ c is. omega (arith, ap (λ (x : Tree). x.place) (alone_in n u c is));
        above = λ c is.
            subst (λ x. Above nodes (node_place n) x) (sym (alone_in n u c is))
            (above_sign (node_place n) t.negated t above);
        holds_is = λ v.
            ap (λ x. holds nodes x v) (back t)
            ∙ ap (λ x. holds nodes (turned t.negated x) v)
            (sym (alone_in n u _ (chosen_child (counterpart n u [] [] u) v)));
      }

  -- a tree whose first variable comes before that of the other
  pub split_before : (a b : Tree) (na nb : NodeRecord) (pairs : NodeOf (Tree × Tree)) → IsTree nodes a →
      IsTree nodes b → 0 < a.place → 0 < b.place → na ≡ node_at nodes (a.place - 1) →
      nb ≡ node_at nodes (b.place - 1) → text_cmp (node_place na) (node_place nb) ≡ Less →
      Paired na (counterpart na (turned b.negated b) [] [] (turned b.negated b)) pairs →
      Splits nodes a b pairs
  split_before a b na nb pairs made other_made some other_some e f less paired =
      let at = node_at nodes (a.place - 1) in
      let u = turned b.negated b in
      let before : text_cmp (node_place at) (node_place (node_at nodes (b.place - 1))) ≡ Less =
      sym (λ i. text_cmp (node_place (e i)) (node_place (f i))) ∙ less in
      splits_by nodes a b at (counterpart at u [] [] u) pairs made other_made
      (node_side a some made (node_place at) refl) (node_falls a some made)
      (whole_side at b (above_later (node_place at) b other_some before))
      (subst (λ n. Paired n (counterpart n u [] [] u) pairs) e paired)
      (node_first a some made)
