-- Texts of trees by whether they are constant.
use Rattle.std.proofs.Common.{◌≡◌, Bool, true, false, List, [], ◌∷◌, Option, Some, None, refl, sym, ap, subst}
use Rattle.std.proofs.Common.{◌∙◌}
use Rattle.std.specs.Prelude.{IfSome, codes}
use Rattle.pep508_diagram.specs.Diagram.{Diagram, Leaf}
use Rattle.pep508_diagram.specs.Question.{Question}
use Rattle.pep508_marker_text_laws.specs.MarkerText.{disjunction, clauses_text, marker_text}
use Rattle.pep508_tree.specs.Tree.{Tree, always, never}
use Rattle.pep508_tree.specs.Meaning.{NodeOf, NodeRecord, Versions, Texts, Flagged, node_diagram, diagram_of}
use Rattle.pep508_tree.specs.Meaning.{IsTree}
use Rattle.pep508_tree.specs.Nodes.{AreSound, HasBoundary}
use Rattle.pep508_tree.specs.Roots.{root_of, IsRoot}
use Rattle.pep508_tree.proofs.Diagrams.{diagram_top}
use Rattle.pep508_tree.proofs.OneTree.{tree_is}
use Rattle.pep508_marker_display.specs.TopExtra.{top_extra}
use Rattle.pep508_evaluation.proofs.CanHold.{known_root, known_constant}
use Rattle.pep508_evaluation.proofs.Rooted.{root_diagram}

always_leaf : (nodes : List NodeRecord) (tree : Tree) → tree ≡ always → diagram_of nodes tree ≡ Leaf true
always_leaf nodes tree is = ap (diagram_of nodes) is ∙ diagram_top nodes always refl

pub no_clauses : (nodes : List NodeRecord) (tree : Tree) → tree ≡ always → [] ≡ disjunction (diagram_of nodes tree)
no_clauses nodes tree is = sym (ap disjunction (always_leaf nodes tree is))

pub no_text : (nodes : List NodeRecord) (tree : Tree) → tree ≡ always → None ≡ marker_text (diagram_of nodes tree)
no_text nodes tree is = sym (ap marker_text (always_leaf nodes tree is))

pub no_extra : (nodes : List NodeRecord) (tree : Tree) → tree ≡ always → None ≡ top_extra (diagram_of nodes tree)
no_extra nodes tree is = sym (ap top_extra (always_leaf nodes tree is))

pub text_of_never : (nodes : List NodeRecord) (tree : Tree) → tree ≡ never →
    Some (codes "python_version < '0'") ≡ marker_text (diagram_of nodes tree)
text_of_never nodes tree is =
    sym (ap marker_text (ap (diagram_of nodes) is ∙ diagram_top nodes never refl))

text_of_test : (n : NodeOf Tree) (at : Tree → Diagram Question) → HasBoundary n →
    marker_text (node_diagram at n) ≡ Some (clauses_text (disjunction (node_diagram at n)))
text_of_test (Versions key first []) at wide = absurd (wide refl)
text_of_test (Versions key first (branch ∷ later)) at wide = refl
text_of_test (Texts key first []) at wide = absurd (wide refl)
text_of_test (Texts key first (branch ∷ later)) at wide = refl
text_of_test (Flagged flag set unset) at wide = refl

pub text_of_other : (nodes : List NodeRecord) → AreSound nodes → (tree : Tree) → IsTree nodes tree →
    (tree ≡ always → ⊥) → (tree ≡ never → ⊥) →
    Some (clauses_text (disjunction (diagram_of nodes tree))) ≡ marker_text (diagram_of nodes tree)
text_of_other nodes sound tree made not_always not_never =
    at (root_of nodes tree) refl (known_root nodes sound tree made)
  where
    constant_is : (truth : Bool) → tree.negated ≡ truth → tree.place ≡ 0 → ⊥
    constant_is true sign place = not_never (tree_is tree never place sign)
    constant_is false sign place = not_always (tree_is tree always place sign)

    at : (root : Option NodeRecord) → root_of nodes tree ≡ root → IfSome root (IsRoot nodes tree) →
        Some (clauses_text (disjunction (diagram_of nodes tree))) ≡ marker_text (diagram_of nodes tree)
    at None e known = absurd (constant_is tree.negated refl (known_constant nodes sound tree made e).place_is)
    at (Some n) e known =
        let is = root_diagram nodes sound tree made n e in
        subst (λ d. Some (clauses_text (disjunction d)) ≡ marker_text d) (sym is)
        (sym (text_of_test n (diagram_of nodes) known.wide))

-- The text of a tree, by whether it is a constant.
pub ruleset text_rules = (no_text, text_of_never, text_of_other)
