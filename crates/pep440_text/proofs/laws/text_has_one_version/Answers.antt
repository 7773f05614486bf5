use Rattle.pep440_text.proofs.Whole.{one_version}
use Rattle.pep440_text.proofs.laws.text_has_one_version.Goals as goal

pub returns : goal.returns
returns c = one_version
