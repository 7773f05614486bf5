use Rattle.std.proofs.Common.{◌≡◌, List, ◌++◌, None}
use Rattle.std.specs.List.{FoldsTo}
use Rattle.pep508_marker.specs.declared.warnings.MarkerWarningKind.{MarkerWarningKind}
use Rattle.pep508_tree.specs.Meaning.{IsTree, holds, diagram_of}
use Rattle.pep508_evaluation.specs.Valuations.{valuation_of}
use Rattle.pep508_evaluation.specs.Warned.{compared, TakesKind}
use Rattle.pep508_evaluation.proofs.warned.report_compared.Given as goal

abbrev pub invariant-loop-truth : goal.invariant-loop-truth
invariant-loop-truth g l =
    g.R.Reporter.can_report l.reporter × IsTree l.interner.nodes l.tree
    × (holds l.interner.nodes l.fn.tree (valuation_of l.environment l.extras)
    ≡ holds l.interner.nodes l.tree (valuation_of l.environment l.extras))
    × ((kinds : List MarkerWarningKind)
    × FoldsTo (TakesKind g.R.Reporter.takes) l.fn.reporter kinds l.reporter
    × (compared (valuation_of l.environment l.extras) None (diagram_of l.interner.nodes l.fn.tree)
    ≡ kinds ++ compared (valuation_of l.environment l.extras) None (diagram_of l.interner.nodes l.tree)))

abbrev pub decreases-loop-truth : goal.decreases-loop-truth
decreases-loop-truth g l = l.tree.place
