use Rattle.std.specs.String.{string_bytes}
use Rattle.pep508_comparison_parser.specs.Notices.{kind_of}
use Rattle.pep508_comparison_parser.proofs.Warned.{warned_unwanted, warned_if}
use Rattle.pep508_comparison_parser.proofs.notice.warn.Goals as goal

pub returns-then-not-wants-clause-taken : goal.returns-then-not-wants-clause-taken
returns-then-not-wants-clause-taken g c =
    warned_unwanted g.R.Reporter.takes c.args.reporter.now (kind_of c.args.notice) c.wants.result c.if-not-wants.true
    c.wants.ensures

pub returns-clause-taken : goal.returns-clause-taken
returns-clause-taken g c =
    warned_if g.R.Reporter.takes c.args.reporter.now c.report.new.self (kind_of c.args.notice) c.kind.result
    (string_bytes c.in_ok-text.text) c.report.result c.kind.ensures c.report.ensures.taken
