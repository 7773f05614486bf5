use Rattle.std.proofs.Common.{rules, []}
use Rattle.std.specs.Prelude.{option_to_list, option_copied}
use Rattle.version_ranges.specs.Point.{At}
use Rattle.pep508_evaluation.specs.Warned.{TakesKind}
use Rattle.pep508_evaluation.specs.Edges.{text_edges}
use Rattle.pep508_evaluation.proofs.Edging.{on_ok, edges_end, edges_stop, edges_go_on}
use Rattle.pep508_evaluation.proofs.warned.report_edges.Goals as goal

pub returns-then-not-is_reached-clause-taken : goal.returns-then-not-is_reached-clause-taken
returns-then-not-is_reached-clause-taken g c =
    let known = c.loop-branch.invariant.1 in
    edges_stop (TakesKind g.R.Reporter.takes) c.args.reporter.now c.loop-branch.reporter
    c.report_edge.new.reporter
    (text_edges [] c.args.later.now (At c.args.text.now)) known.0
    (option_to_list (option_copied c.loop-branch.lower)) c.args.later.now c.loop-branch.branch-index
    (At c.args.text.now) known.1 known.2 c.branch-item.result c.loop-branch-test.true c.branch-item.is
    c.in_ok-report_edge.ensures.taken (search rules)

pub loop-branch-preserved : goal.loop-branch-preserved
loop-branch-preserved g c =
    let known = c.loop-branch.invariant.1 in (
      c.report_edge.ensures.again,
      edges_go_on (TakesKind g.R.Reporter.takes) c.args.reporter.now c.loop-branch.reporter
          c.report_edge.new.reporter
          (text_edges [] c.args.later.now (At c.args.text.now)) known.0
          (option_to_list (option_copied c.loop-branch.lower)) c.args.later.now c.loop-branch.branch-index
          (At c.args.text.now) known.1 known.2 c.branch-item.result c.loop-branch-test.true c.branch-item.is
          c.in_ok-report_edge.ensures.taken (search rules),
    )

pub returns-clause-taken : goal.returns-clause-taken
returns-clause-taken g c =
    let known = c.loop-branch.invariant.1 in
    on_ok c.report_edge-2.result
    (edges_end (TakesKind g.R.Reporter.takes) c.args.reporter.now c.loop-branch.reporter
    c.report_edge-2.new.reporter
    (text_edges [] c.args.later.now (At c.args.text.now)) known.0
    (option_to_list (option_copied c.loop-branch.lower)) c.args.later.now c.loop-branch.branch-index
    (At c.args.text.now) known.1 known.2 c.loop-branch-test.false)
    c.report_edge-2.ensures.taken
