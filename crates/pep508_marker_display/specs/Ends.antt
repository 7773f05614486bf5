-- The trees to which paths lead, each with whether its path has terms.
use Rattle.std.specs.Prelude.{◌||◌, Bool, List, ◌++◌, map}
use Rattle.pep508_tree.specs.Tree.{Tree}
use Rattle.pep508_marker_text_laws.specs.Simplified.{has_some}
use Rattle.pep508_marker_display.specs.declared.clause_count.End.{End}
use Rattle.pep508_marker_display.specs.Steps.{StepRecord}

-- the end of a path that goes on by a step
abbrev pub end_by : Bool → StepRecord → End
end_by has_terms step = record { tree = step.tree; has_terms = has_terms || has_some step.clause }

abbrev pub ends_by : Bool → List StepRecord → List End
ends_by has_terms steps = map (end_by has_terms) steps
