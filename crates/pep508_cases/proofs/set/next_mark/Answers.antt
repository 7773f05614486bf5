use Rattle.std.proofs.Common.{arith}
use Rattle.pep508_cases.proofs.Runs.{after_evenly}
use Rattle.pep508_cases.proofs.set.next_mark.Goals as goal

pub returns-then-runs-eq0 : goal.returns-then-runs-eq0
returns-then-runs-eq0 c = (after_evenly c.args.first c.args.runs.now).0 (omega (arith, c.if-runs-eq0.true))

pub returns-else-runs-eq0 : goal.returns-else-runs-eq0
returns-else-runs-eq0 c = (after_evenly c.args.first c.args.runs.now).1 (omega (arith, c.if-runs-eq0.false))
