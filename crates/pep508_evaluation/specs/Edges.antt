-- The edges of a node of texts and their warnings, up to the one that contains a text.
use Rattle.std.specs.Prelude.{ℕ, cond, List, [], ◌∷◌, ◌++◌, Option, Some, None}
use Rattle.version_ranges.specs.declared.boundary.Boundary.{Boundary}
use Rattle.version_ranges.specs.Point.{Point}
use Rattle.pep508_marker.specs.declared.warnings.MarkerWarningKind.{MarkerWarningKind}
use Rattle.pep508_diagram.specs.declared.branch.Branch.{Branch}
use Rattle.pep508_diagram.specs.Text.{text_cmp}
use Rattle.pep508_diagram.specs.Question.{Valuation, lies_below}
use Rattle.pep508_tree.specs.Meaning.{NodeRecord, Versions, Texts, Flagged}
use Rattle.pep508_evaluation.specs.Warned.{edge, key_names}

abbrev pub text_edges : {C : Type 0} → List (Boundary (List ℕ)) → List (Branch (List ℕ) C) →
    Point (List ℕ) → List MarkerWarningKind
text_edges lower [] p = edge lower []
text_edges lower (branch ∷ later) p =
    edge lower (branch.boundary ∷ [])
    ++ cond (lies_below text_cmp p branch.boundary) [] (text_edges (branch.boundary ∷ []) later p)

-- the edges of the node at a tree's root, up to the one that a valuation has
abbrev pub root_edges : Option NodeRecord → Valuation → List MarkerWarningKind
root_edges None v = []
root_edges (Some (Versions key first later)) v = []
root_edges (Some (Texts key first later)) v = text_edges [] later (v.text key)
root_edges (Some (Flagged flag set unset)) v = []

-- the old name of the node at a tree's root
abbrev pub root_names : Option NodeRecord → List MarkerWarningKind
root_names None = []
root_names (Some (Versions key first later)) = []
root_names (Some (Texts key first later)) = key_names key
root_names (Some (Flagged flag set unset)) = []
