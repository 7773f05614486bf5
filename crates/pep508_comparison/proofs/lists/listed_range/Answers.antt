use Rattle.pep508_comparison.specs.Comparisons.{listed}
use Rattle.pep508_comparison.proofs.Unions.{rest_listed}
use Rattle.pep508_comparison.proofs.lists.listed_range.Goals as goal

pub returns-then-negated : goal.returns-then-negated
returns-then-negated c =
    rest_listed c.args.negated (listed c.args.versions.now) c.in_ok-listed.listed c.complement.result
    c.if-negated.true c.in_ok-listed.ensures c.complement.ensures
