use Rattle.pep440_range.proofs.Agreeing.{agrees}
use Rattle.pep440_range.proofs.laws.ranges_agree_with_matching.Goals as goal

pub returns : goal.returns
returns c = λ specifier candidate range built said other_said plain apart e.
    agrees specifier.operator specifier.version candidate range built.local said other_said plain apart e
