-- The root of a tree, edge by edge: the question that ends the edge, which the last one doesn't have, and
-- the child.
use Rattle.std.specs.Prelude.{ℕ, List, [], ◌∷◌, map, Option, Some, None}
use Rattle.std.specs.Ordering.{ordering_then}
use Rattle.std.specs.declared.cmp.Ordering.{Ordering}
use Rattle.std.specs.declared.cmp.Ordering.TheVariants.{Less, Equal, Greater}
use Rattle.pep508_diagram.specs.Diagram.{Diagram}
use Rattle.pep508_diagram.specs.Question.{Question, VersionBelow, TextBelow, IsSet, question_cmp}
use Rattle.pep508_diagram.specs.Question.{version_rank, text_rank, flag_rank, flag_text}
use Rattle.pep508_evaluation.specs.Steps.{children_of}
use Rattle.pep508_tree.specs.Meaning.{NodeOf, NodeRecord, Versions, Texts, Flagged, diagram_of}
use Rattle.pep508_tree.specs.Roots.{root_of}
use Rattle.pep508_tree.specs.Tree.{Tree}
use Rattle.pep508_tree_ref.specs.declared.end.End.{End}
use Rattle.pep508_tree_ref.specs.declared.end.End.TheVariants as end
use Rattle.pep508_tree_ref.specs.TreeOrder.{diagram_cmp}

-- the questions that end the edges of a node, but for the last, in order
abbrev pub ends : {C : Type 0} → NodeOf C → List Question
ends (Versions key first later) = map (λ branch. VersionBelow key branch.boundary) later
ends (Texts key first later) = map (λ branch. TextBelow key branch.boundary) later
ends (Flagged flag set unset) = IsSet flag ∷ []

-- the questions that end the edges of a root, but for the last, in order; a constant has no edges
abbrev pub ends_of : Option NodeRecord → List Question
ends_of None = []
ends_of (Some node) = ends node

-- a borrowed question
abbrev pub question_of : End → Question
question_of (end.Version key boundary) = VersionBelow key boundary.now
question_of (end.Text key boundary) = TextBelow key boundary.now
question_of (end.Flag flag) = IsSet flag.now

-- the kind and the key of the variable that a question tests, and the text that the variable is about
abbrev pub question_rank : Question → ℕ
question_rank (VersionBelow key boundary) = version_rank key
question_rank (TextBelow key boundary) = text_rank key
question_rank (IsSet flag) = flag_rank flag

abbrev pub question_text : Question → List ℕ
question_text (VersionBelow key boundary) = []
question_text (TextBelow key boundary) = []
question_text (IsSet flag) = flag_text flag

-- an edge: its end, and its child
abbrev pub Side : Type 0
Side = Option Question × Diagram Question

abbrev pub sides : {C : Type 0} → (C → Diagram Question) → List Question → List C → List Side
sides at ends [] = []
sides at [] (child ∷ children) = (None, at child) ∷ sides at [] children
sides at (q ∷ ends) (child ∷ children) = (Some q, at child) ∷ sides at ends children

-- the edges at the root of a tree
abbrev pub root_sides : List NodeRecord → Tree → List Side
root_sides nodes tree =
    sides (diagram_of nodes) (ends_of (root_of nodes tree)) (children_of (root_of nodes tree))

-- the order of ends: one without a question comes last
abbrev pub end_cmp : Option Question → Option Question → Ordering
end_cmp None None = Equal
end_cmp None (Some r) = Greater
end_cmp (Some q) None = Less
end_cmp (Some q) (Some r) = question_cmp q r

-- the order of edges: by their ends, and then by their children
abbrev pub side_cmp : Side → Side → Ordering
side_cmp a b = ordering_then (end_cmp a.0 b.0) (diagram_cmp a.1 b.1)
