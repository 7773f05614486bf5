use Rattle.std.proofs.Common.{rules, ◌≡◌, true}
use Rattle.pep508_error.specs.Cursors.{behind}
use Rattle.pep508_marker.specs.Expression.{expression_of}
use Rattle.pep508_expression.specs.Expressions.{has_points}
use Rattle.pep508_marker_parser.proofs.Pieces.{left_out_read, says_read}
use Rattle.pep508_marker_parser.proofs.compared.read_compared.Goals as goal

pub returns-in_default-clause-read : goal.returns-in_default-clause-read
returns-in_default-clause-read g c =
    let read = rw c.in_default.is at c.in_ok-said.ensures.read in
    left_out_read g.R.Reporter.takes c.args.reporter.now c.read_comparison.new.reporter (behind c.args.start)
    c.args.builder.now c.leave_out.new.self c.in_ok-said.later read c.in_ok-leave_out.ensures

pub returns-clause-read : goal.returns-clause-read
returns-clause-read g c =
    let read = rw c.in-Some.is at c.in_ok-said.ensures.read in
    let has : has_points (expression_of c.in-Some.expression) ≡ true = search rules in
    says_read g.R.Reporter.takes c.args.reporter.now c.read_comparison.new.reporter (behind c.args.start)
    c.args.builder.now c.say.new.self c.in-Some.expression c.in_ok-said.later read has c.in_ok-say.ensures
