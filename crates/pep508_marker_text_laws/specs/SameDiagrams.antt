-- A test of whether two diagrams of markers are identical, up to the spelling of equal versions.
use Rattle.std.specs.Prelude.{◌&&◌, not, Bool, false}
use Rattle.std.specs.Ordering.{eq_by_cmp}
use Rattle.version_ranges.specs.Turns.{flips}
use Rattle.pep508_diagram.specs.Diagram.{Diagram, Leaf, Test}
use Rattle.pep508_diagram.specs.Question.{Question, question_cmp}

-- whether the diagrams have equal questions in the same places, and end in the same leaves
abbrev pub same_diagram : Diagram Question → Diagram Question → Bool
same_diagram (Leaf b) (Leaf c) = not (flips b c)
same_diagram (Leaf b) (Test r low high) = false
same_diagram (Test q low high) (Leaf c) = false
same_diagram (Test q low high) (Test r other_low other_high) =
    eq_by_cmp question_cmp q r && (same_diagram low other_low && same_diagram high other_high)
