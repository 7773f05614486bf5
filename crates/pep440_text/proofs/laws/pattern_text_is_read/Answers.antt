use Rattle.pep440_text.proofs.Whole.{pattern_read}
use Rattle.pep440_text.proofs.laws.pattern_text_is_read.Goals as goal

pub returns : goal.returns
returns c = pattern_read
