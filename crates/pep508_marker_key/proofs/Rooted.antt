-- The diagram of a tree by the node at its root.
use Rattle.std.proofs.Common.{◌≡◌, ◌+◌, ◌-◌, ◌<◌, ◌==◌, Bool, true, false, not, List, [], ◌∷◌, map, length}
use Rattle.std.proofs.Common.{get_or, refl, sym, ap, ap₂, ◌∙◌, arith, Option, Some, None, inl, inr}
use Rattle.std.proofs.Common.{if◌then◌else◌, true≢false, subst}
use Rattle.std.proofs.lemmas.Bool.{cases_Bool}
use Rattle.std.specs.Cmp.{unsigned_Decides}
use Rattle.version_ranges.specs.declared.boundary.Boundary.{Boundary}
use Rattle.pep508_diagram.specs.declared.branch.Branch.{Branch}
use Rattle.pep508_diagram.specs.Diagram.{Diagram, Leaf, Test, turned_by}
use Rattle.pep508_diagram.specs.Chains.{chain}
use Rattle.pep508_diagram.specs.Question.{Question, VersionBelow, TextBelow, IsSet}
use Rattle.pep508_diagram.proofs.Turned.{turned_not}
use Rattle.pep508_diagram.proofs.Questions.{not_not}
use Rattle.pep508_tree.specs.Tree.{Tree, negation}
use Rattle.pep508_tree.specs.Meaning.{NodeRecord, Versions, Texts, Flagged, node_diagram, diagrams}
use Rattle.pep508_tree.specs.Meaning.{diagram_of, IsTree}
use Rattle.pep508_tree.specs.Nodes.{AreSound, HasBoundary, node_at, signed, turned_branch}
use Rattle.pep508_tree.specs.Roots.{root_of, IsRoot}
use Rattle.pep508_tree.proofs.Diagrams.{diagram_top}
use Rattle.pep508_tree.proofs.OneTree.{top_or_node, tree_at}
use Rattle.pep508_tree.proofs.Roots.{root_is}

-- a diagram that is turned twice
turned_on : {Q : Type 0} (b : Bool) (d : Diagram Q) → turned_by true (turned_by b d) ≡ turned_by (not b) d
turned_on true (Leaf x) = ap Leaf (not_not x)
turned_on false (Leaf x) = refl
turned_on b (Test q low high) = ap₂ (Test q) (turned_on b low) (turned_on b high)

module _ (nodes : List NodeRecord) where
  at_negation : (c : Tree) → turned_by true (diagram_of nodes c) ≡ diagram_of nodes (negation c)
  at_negation c = turned_on c.negated (get_or (diagrams nodes) c.place (Leaf true))

  turned_chain : {T : Type 0} (ask : Boundary T → Question) (first : Tree) (later : List (Branch T Tree)) →
      turned_by true (chain ask (diagram_of nodes) first later)
      ≡ chain ask (diagram_of nodes) (negation first) (map turned_branch later)
  turned_chain ask first [] = at_negation first
  turned_chain ask first (branch ∷ later) =
      ap₂ (Test (ask branch.boundary)) (at_negation first) (turned_chain ask branch.child later)

  -- the diagram of a node whose children bear a sign
  signed_diagram : (turns : Bool) (n : NodeRecord) →
      turned_by turns (node_diagram (diagram_of nodes) n) ≡ node_diagram (diagram_of nodes) (signed turns n)
  signed_diagram true (Versions key first later) = turned_chain (VersionBelow key) first later
  signed_diagram true (Texts key first later) = turned_chain (TextBelow key) first later
  signed_diagram true (Flagged flag set unset) =
      ap₂ (Test (IsSet flag)) (at_negation set) (at_negation unset)
  signed_diagram false n = turned_not (node_diagram (diagram_of nodes) n)

  module _ (sound : AreSound nodes) (tree : Tree) (made : IsTree nodes tree) where
    -- the root's node, by whether the tree has one
    abbrev root_where : Bool → Option NodeRecord
    root_where constant =
        if constant then None else Some (signed tree.negated (node_at nodes (tree.place - 1)))

    -- a tree with a node
    placed : (tree.place == 0) ≡ false → tree.place ≡ (tree.place - 1) + 1
    placed node = elim (top_or_node tree.place) [
      | inl e ↦ absurd (true≢false (sym ((unsigned_Decides tree.place 0).1 e) ∙ node))
      | inr e ↦ omega (arith, e.1)
    ]

    none_some : (n : NodeRecord) → None ≡ Some n → ⊥
    none_some n f = absurd (cc)

    some_same : (x y : NodeRecord) → Some x ≡ Some y → x ≡ y
    some_same x y f = cc

    pub root_diagram : (n : NodeRecord) → root_of nodes tree ≡ Some n →
        diagram_of nodes tree ≡ node_diagram (diagram_of nodes) n
    root_diagram n e = elim (cases_Bool (tree.place == 0)) [
      | inl top ↦ absurd (none_some n (sym (ap root_where top) ∙ e))
      | inr node ↦
          let k = tree.place - 1 in
          let at : tree.place ≡ k + 1 = placed node in
          let here : k < length nodes = omega (arith, at) in
          tree_at nodes sound tree k at here
          ∙ signed_diagram tree.negated (node_at nodes k)
          ∙ ap (node_diagram (diagram_of nodes)) (some_same _ n (sym (ap root_where node) ∙ e))
    ]

    pub root_known : (n : NodeRecord) → root_of nodes tree ≡ Some n → IsRoot nodes tree n
    root_known n e = elim (cases_Bool (tree.place == 0)) [
      | inl top ↦ absurd (none_some n (sym (ap root_where top) ∙ e))
      | inr node ↦
          let at : tree.place ≡ (tree.place - 1) + 1 = placed node in
          subst (IsRoot nodes tree) (some_same _ n (sym (ap root_where node) ∙ e))
          (root_is nodes sound tree (omega (arith, at)) made)
    ]

    pub constant_diagram : root_of nodes tree ≡ None →
        diagram_of nodes tree ≡ turned_by tree.negated (Leaf true)
    constant_diagram e = elim (cases_Bool (tree.place == 0)) [
      | inl top ↦ diagram_top nodes tree ((unsigned_Decides tree.place 0).0 top)
      | inr node ↦ absurd (none_some _ (sym e ∙ ap root_where node))
    ]

-- the diagram of a node asks something
pub record Asks (d : Diagram Question) : Type 0 where
  pub question : Question
  pub low : Diagram Question
  pub high : Diagram Question
  pub is : d ≡ Test question low high

pub node_asks : (at : Tree → Diagram Question) (n : NodeRecord) → HasBoundary n → Asks (node_diagram at n)
node_asks at (Versions key first []) wide = absurd (wide refl)
node_asks at (Versions key first (branch ∷ later)) wide = record {
  question = VersionBelow key branch.boundary;
  low = at first;
  high = chain (VersionBelow key) at branch.child later;
  is = refl;
}
node_asks at (Texts key first []) wide = absurd (wide refl)
node_asks at (Texts key first (branch ∷ later)) wide = record {
  question = TextBelow key branch.boundary;
  low = at first;
  high = chain (TextBelow key) at branch.child later;
  is = refl;
}
node_asks at (Flagged flag set unset) wide = record {
  question = IsSet flag;
  low = at set;
  high = at unset;
  is = refl;
}
