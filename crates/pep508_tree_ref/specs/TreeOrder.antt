-- The order of diagrams of markers: by kind, those that always hold and those that never do before all
-- others; then by the first variable; then edge by edge, each by its end and then by its child. It doesn't
-- depend on places in an interner.
use Rattle.std.specs.Prelude.{Bool, true, not}
use Rattle.std.specs.declared.cmp.Ordering.{Ordering}
use Rattle.std.specs.declared.cmp.Ordering.TheVariants.{Less, Greater}
use Rattle.std.specs.Ordering.{bool_cmp, ordering_then}
use Rattle.pep508_diagram.specs.Diagram.{Diagram, Leaf, Test}
use Rattle.pep508_diagram.specs.Question.{Question, question_cmp, shares_variable}

-- the diagram has no more questions of the question's variable, so that it is the child of the variable's
-- last edge
abbrev pub is_last : Question → Diagram Question → Bool
is_last q (Leaf b) = true
is_last q (Test r low high) = not (shares_variable q r)

-- A question is the end of an edge, and the diagram for yes is the edge's child; the diagram for no is the
-- edges after it. An edge that ends comes before one without an end.
abbrev pub diagram_cmp : Diagram Question → Diagram Question → Ordering
diagram_cmp (Leaf b) (Leaf c) = bool_cmp (not b) (not c)
diagram_cmp (Leaf b) (Test r low high) = Less
diagram_cmp (Test q low high) (Leaf c) = Greater
diagram_cmp (Test q low high) (Test r other_low other_high) =
    ordering_then (question_cmp q r)
    (ordering_then (diagram_cmp low other_low)
    (ordering_then (bool_cmp (is_last q high) (is_last r other_high)) (diagram_cmp high other_high)))
