use Rattle.pep440_text.proofs.Whole.{one_pattern}
use Rattle.pep440_text.proofs.laws.text_has_one_pattern.Goals as goal

pub returns : goal.returns
returns c = one_pattern
