use Rattle.pep440_text.proofs.Whole.{version_read}
use Rattle.pep440_text.proofs.laws.version_text_is_read.Goals as goal

pub returns : goal.returns
returns c = version_read
