use Rattle.pep508_evaluation.specs.Warned.{TakesKind}
use Rattle.pep508_evaluation.proofs.Telling.{IsTold, work}
use Rattle.pep508_evaluation.proofs.warned.report_old_names.Given as goal

abbrev pub invariant-loop-next : goal.invariant-loop-next
invariant-loop-next g l =
    g.R.Reporter.can_report l.reporter
    × IsTold l.interner.nodes (TakesKind g.R.Reporter.takes) l.fn.tree l.fn.reporter l.reporter l.waiting.items

abbrev pub decreases-loop-next : goal.decreases-loop-next
decreases-loop-next g l = work l.interner.nodes l.waiting.items
