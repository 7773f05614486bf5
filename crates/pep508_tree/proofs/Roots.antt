-- The node at a tree's root.
use Rattle.std.proofs.Common.{◌≡◌, ◌∙◌, ◌+◌, ◌-◌, ◌<◌, ◌≤◌, Bool, true, false, not, List, length, refl, ap}
use Rattle.std.proofs.Common.{sym, subst, arith}
use Rattle.pep508_diagram.specs.Question.{Valuation}
use Rattle.pep508_tree.specs.Tree.{Tree}
use Rattle.pep508_tree.specs.Meaning.{NodeRecord, holds, IsTree}
use Rattle.pep508_tree.specs.Nodes.{AllChildren, Above, AreSound, chosen, node_at, node_place, signed}
use Rattle.pep508_tree.specs.Roots.{IsConstant, IsRoot}
use Rattle.pep508_tree.proofs.NodeChildren.{weaker_children}
use Rattle.pep508_tree.proofs.Meanings.{holds_at, holds_turned}
use Rattle.pep508_tree.proofs.OneTree.{tree_is}
use Rattle.pep508_tree.proofs.Disjoint.{always_holds, never_holds}
use Rattle.pep508_tree.proofs.Storing.{signed_children, signed_place, signed_rises, signed_differ}
use Rattle.pep508_tree.proofs.Storing.{signed_wide, signed_chosen, above_negation}

pub root_is : (nodes : List NodeRecord) → AreSound nodes → (t : Tree) → 0 < t.place → IsTree nodes t →
    IsRoot nodes t (signed t.negated (node_at nodes (t.place - 1)))
root_is nodes sound t some made =
    let k = t.place - 1 in
    let turns = t.negated in
    let here : k < length nodes = omega arith in
    let place : t.place ≡ k + 1 = omega arith in
    let n = node_at nodes k in
    let s = sound.each k here in
    record {
      made = signed_children (IsTree nodes) (λ c h. h) turns n
          (weaker_children (λ c. c.place ≤ k) (IsTree nodes) (λ c h. omega arith) n s.before);
      falls = signed_children (λ c. c.place < t.place) (λ c h. h) turns n
          (weaker_children (λ c. c.place ≤ k) (λ c. c.place < t.place) (λ c h. omega arith) n s.before);
      above = subst (λ p. AllChildren (Above nodes p) (signed turns n)) (sym (signed_place turns n))
          (signed_children (Above nodes (node_place n)) (above_negation nodes (node_place n)) turns n s.above);
      place_is = signed_place turns n;
      rises = signed_rises turns n s.rises;
      differ = signed_differ turns n s.differ;
      wide = signed_wide turns n s.wide;
      holds_is = λ v.
          holds_at nodes sound t k place here v
          ∙ sym (holds_turned nodes turns (chosen n v) v)
          ∙ ap (λ c. holds nodes c v) (sym (signed_chosen turns n v));
    }

sign_holds : (nodes : List NodeRecord) (b : Bool) (v : Valuation) →
    holds nodes (record { place = 0; negated = b }) v ≡ not b
sign_holds nodes true v = never_holds nodes v
sign_holds nodes false v = always_holds nodes v

pub constant_is : (nodes : List NodeRecord) (t : Tree) → t.place ≡ 0 → IsConstant nodes t (not t.negated)
constant_is nodes t place = record {
  place_is = place;
  sign_is = refl;
  holds_is = λ v.
      ap (λ x. holds nodes x v) (tree_is t (record { place = 0; negated = t.negated }) place refl)
      ∙ sign_holds nodes t.negated v;
}
