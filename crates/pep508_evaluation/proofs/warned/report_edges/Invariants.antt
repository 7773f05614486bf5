use Rattle.std.proofs.Common.{◌≡◌, List, [], ◌++◌, drop}
use Rattle.std.specs.Prelude.{option_to_list, option_copied}
use Rattle.std.specs.List.{FoldsTo}
use Rattle.version_ranges.specs.Point.{At}
use Rattle.pep508_marker.specs.declared.warnings.MarkerWarningKind.{MarkerWarningKind}
use Rattle.pep508_evaluation.specs.Warned.{TakesKind}
use Rattle.pep508_evaluation.specs.Edges.{text_edges}
use Rattle.pep508_evaluation.proofs.warned.report_edges.Given as goal

abbrev pub invariant-loop-branch : goal.invariant-loop-branch
invariant-loop-branch g l =
    g.R.Reporter.can_report l.reporter
    × ((kinds : List MarkerWarningKind)
    × FoldsTo (TakesKind g.R.Reporter.takes) l.initial.reporter kinds l.reporter
    × (text_edges [] l.later (At l.text)
    ≡ kinds ++ text_edges (option_to_list (option_copied l.lower)) (drop l.branch-index l.later) (At l.text)))
