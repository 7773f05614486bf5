use Rattle.reqs_assuming.proofs.Texts.{is_condition}
use Rattle.reqs_assuming.proofs.condition.read_condition.Goals as goal

pub returns : goal.returns
returns c = is_condition _ _ _ c.args.text.now c.parse_formula.result c.parse_formula.ensures.read
