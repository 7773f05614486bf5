-- The pairs of what stands in two trees tell whether these are disjoint.
use Rattle.std.proofs.Common.{◌≡◌, ℕ, ◌+◌, ◌<◌, ◌≤◌, Bool, ◌&&◌, List, [], ◌∷◌, map, ap, ap₂, sym, subst, ◌∙◌}
use Rattle.std.proofs.Common.{arith}
use Rattle.std.specs.List.{AllByRecursion}
use Rattle.version_ranges.specs.Turns.{flips}
use Rattle.pep508_diagram.specs.declared.branch.Branch.{Branch}
use Rattle.pep508_diagram.specs.Branches.{AllBranches}
use Rattle.pep508_diagram.specs.Question.{Valuation}
use Rattle.pep508_tree.specs.Tree.{Tree}
use Rattle.pep508_tree.specs.Meaning.{NodeOf, NodeRecord, Versions, Texts, Flagged, holds, IsTree}
use Rattle.pep508_tree.specs.Nodes.{AllChildren, IsChildIn, Above, AreSound, Paired, chosen, node_place}
use Rattle.pep508_tree.specs.Nodes.{turned}
use Rattle.pep508_tree.specs.Joining.{children}
use Rattle.pep508_tree.specs.Disjoint.{AreDisjoint}
use Rattle.pep508_tree.proofs.Conjoining.{children_list}
use Rattle.pep508_tree.proofs.Disjoint.{disjoint_back}
use Rattle.pep508_tree.proofs.Meanings.{each_child, chosen_all, children_from, holds_turned}
use Rattle.pep508_tree.proofs.Moving.{moved_to}
use Rattle.pep508_tree.proofs.NodeChildren.{weaker_children}
use Rattle.pep508_disjointness.specs.Pairs.{turned_pair, ArePaired}
use Rattle.pep508_disjointness.proofs.Putting.{all_to}

module _ {C : Type 0} (P : C → Type 0) where
  branches_from_list : {T : Type 0} (first : C) (later : List (Branch T C)) →
      AllByRecursion P (first ∷ map (λ branch. branch.child) later) → AllBranches P first later
  branches_from_list first [] all = all.0
  branches_from_list first (branch ∷ later) all = (all.0, branches_from_list branch.child later all.1)

  children_from_list : (n : NodeOf C) → AllByRecursion P (children n) → AllChildren P n
  children_from_list (Versions key first later) all = branches_from_list first later all
  children_from_list (Texts key first later) all = branches_from_list first later all
  children_from_list (Flagged flag set unset) all = (all.0, all.1.0)

  all_of_map : {D : Type 0} (f : D → C) (xs : List D) → AllByRecursion (λ x. P (f x)) xs →
      AllByRecursion P (map f xs)
  all_of_map f [] all = tt
  all_of_map f (x ∷ xs) all = (all.0, all_of_map f xs all.1)

  all_from_map : {D : Type 0} (f : D → C) (xs : List D) → AllByRecursion P (map f xs) →
      AllByRecursion (λ x. P (f x)) xs
  all_from_map f [] all = tt
  all_from_map f (x ∷ xs) all = (all.0, all_from_map f xs all.1)

-- two trees in the other order
pub paired_back : (nodes : List NodeRecord) (a b : Tree) (pairs : List (Tree × Tree)) →
    ArePaired nodes b a pairs → ArePaired nodes a b pairs
paired_back nodes a b pairs are = record {
  made = are.made;
  falls = all_to {P = λ (p : Tree × Tree). p.0.place + p.1.place < b.place + a.place}
      {Q = λ (p : Tree × Tree). p.0.place + p.1.place < a.place + b.place} (λ p less. omega (arith, less))
      pairs
      are.falls;
  apart = (
    λ d. are.apart.0 (disjoint_back nodes a b d),
    λ all. disjoint_back nodes b a (are.apart.1 all),
  );
}

-- what a node and a sign say of a tree, whose variables come no sooner than the place
pub record IsSide (nodes : List NodeRecord) (place : List ℕ) (t : Tree) (turns : Bool) (n : NodeRecord)
    : Type 0 where
  pub made : (c : Tree) → IsChildIn c n → IsTree nodes c
  pub no_later : (c : Tree) → IsChildIn c n → c.place ≤ t.place
  pub above : (c : Tree) → IsChildIn c n → Above nodes place c
  pub holds_is : (v : Valuation) → holds nodes t v ≡ holds nodes (turned turns (chosen n v)) v

-- what trees say, with signs, stays where a variable is moved
still_turned : (nodes : List NodeRecord) (turns : Bool) (t : Tree) (v w : Valuation) →
    holds nodes t w ≡ holds nodes t v → holds nodes (turned turns t) w ≡ holds nodes (turned turns t) v
still_turned nodes turns t v w same =
    holds_turned nodes turns t w ∙ ap (flips turns) same ∙ sym (holds_turned nodes turns t v)

module _ (nodes : List NodeRecord) (sound : AreSound nodes) (a b : Tree) (turns other_turns : Bool)
    (na nb : NodeRecord) (one : IsSide nodes (node_place na) a turns na)
    (falls : (c : Tree) → IsChildIn c na → c.place < a.place)
    (two : IsSide nodes (node_place na) b other_turns nb)
    (node : NodeOf (Tree × Tree)) (paired : Paired na nb node) where
  abbrev IsApartWith : Tree × Tree → Type 0
  IsApartWith pair = AreDisjoint nodes (turned turns pair.0) (turned other_turns pair.1)

  each : (P : Tree × Tree → Type 0) → ((p : Tree × Tree) → IsChildIn p.0 na → IsChildIn p.1 nb → P p) →
      AllChildren P node
  each P f = weaker_children _ P (λ p is. f p is.0 is.1) node paired.children

  together : (v : Valuation) → (holds nodes a v && holds nodes b v)
      ≡ (holds nodes (turned turns (chosen node v).0) v
      && holds nodes (turned other_turns (chosen node v).1) v)
  together v =
      ap₂ (λ x y. x && y)
      (one.holds_is v ∙ ap (λ (c : Tree × Tree). holds nodes (turned turns c.0) v) (sym (paired.chosen_is v)))
      (two.holds_is v
      ∙ ap (λ (c : Tree × Tree). holds nodes (turned other_turns c.1) v) (sym (paired.chosen_is v)))

  abbrev behind : Tree × Tree → Type 0
  behind p = (IsTree nodes p.0 × IsTree nodes p.1)
      × (Above nodes (node_place node) p.0 × Above nodes (node_place node) p.1)

  all_behind : AllChildren behind node
  all_behind = each behind (λ p is other. (
    (one.made p.0 is, two.made p.1 other),
    (
      subst (λ place. Above nodes place p.0) (sym paired.place_is) (one.above p.0 is),
      subst (λ place. Above nodes place p.1) (sym paired.place_is) (two.above p.1 other),
    ),
  ))

  child_apart : AreDisjoint nodes a b → (pair : Tree × Tree) → IsChildIn pair node → IsApartWith pair
  child_apart apart pair is v =
      let moved = moved_to nodes sound v node paired.rises pair is in
      let w = moved.0 in
      let at = moved.1 in
      let they = each_child behind node pair all_behind is in
      let first = still_turned nodes turns pair.0 v w (at.still pair.0 they.0.0 they.1.0) in
      let second = still_turned nodes other_turns pair.1 v w (at.still pair.1 they.0.1 they.1.1) in
      sym (ap₂ (λ x y. x && y) first second)
      ∙ sym (ap (λ (c : Tree × Tree).
      holds nodes (turned turns c.0) w && holds nodes (turned other_turns c.1) w)
      at.stands)
      ∙ sym (together w) ∙ apart w

  -- trees are disjoint exactly where all their paired children are
  pub are_paired : (pairs : List (Tree × Tree)) →
      pairs ≡ map (turned_pair turns other_turns) (children node) →
      ArePaired nodes a b pairs
  are_paired pairs same =
      let turn = turned_pair turns other_turns in
      let made = λ (p : Tree × Tree). IsTree nodes p.0 × IsTree nodes p.1 in
      let less = λ (p : Tree × Tree). p.0.place + p.1.place < a.place + b.place in
      let apart = λ (p : Tree × Tree). AreDisjoint nodes p.0 p.1 in
      record {
        made =
            subst (AllByRecursion made) (sym same)
            (all_of_map made turn (children node)
            (children_list made node (each made (λ p is other. (one.made p.0 is, two.made p.1 other)))));
        falls =
            subst (AllByRecursion less) (sym same)
            (all_of_map less turn (children node)
            (children_list less node
            (each less (λ p is other. omega (arith, falls p.0 is, two.no_later p.1 other)))));
        apart = (
          λ d.
              subst (AllByRecursion apart) (sym same)
              (all_of_map apart turn (children node)
              (children_list IsApartWith node (children_from IsApartWith node (child_apart d)))),
          λ all v.
              together v
              ∙ chosen_all IsApartWith node v
              (children_from_list IsApartWith node
              (all_from_map apart turn (children node) (subst (AllByRecursion apart) same all))) v,
        );
      }
