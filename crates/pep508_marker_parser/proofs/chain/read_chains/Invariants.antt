use Rattle.pep508_error.specs.Cursors.{behind}
use Rattle.pep508_marker_parser.specs.MarkerReading.{Or}
use Rattle.pep508_marker_parser.specs.TreeReading.{chain_at}
use Rattle.pep508_marker_parser.specs.Levels.{left_at}
use Rattle.pep508_marker_parser.proofs.Steps.{IsReading}
use Rattle.pep508_marker_parser.proofs.chain.read_chains.Given as goal

abbrev pub invariant-steps : goal.invariant-steps
invariant-steps g l = record {
  reads : IsReading g.R.Reporter.takes l.fn.reporter l.reporter l.deepest l.fn.start
      (chain_at Or l.deepest (behind l.fn.start)) l.levels l.step;
  again : g.R.Reporter.can_report l.reporter;
}

abbrev pub decreases-steps : goal.decreases-steps
decreases-steps g l = left_at l.step
