use Rattle.std.proofs.Common.{not, arith}
use Rattle.pep508_cases.specs.Sets.{marks_by}
use Rattle.pep508_cases.proofs.Runs.{split_run}
use Rattle.pep508_cases.proofs.set.Rest.after.Goals as goal

pub returns-then-count-self-clause-marks : goal.returns-then-count-self-clause-marks
returns-then-count-self-clause-marks c =
    let own = c.args.self.now in
    split_run own.mark c.args.count own.run (marks_by (not own.mark) own.later.now) (omega (arith, c.if-count-self.true))
