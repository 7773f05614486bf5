use Rattle.pep508_marker.proofs.NotIn.{behind_not_is}
use Rattle.pep508_marker.proofs.operators.behind_not.Goals as goal

pub returns : goal.returns
returns c = behind_not_is c.args.text.now c.strip_prefix.result c.strip_prefix.ensures.cases
