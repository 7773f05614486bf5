use Rattle.std.proofs.Common.{length}
use Rattle.pep440_text.proofs.reading.suffix.+strip_word.Given as goal

abbrev pub decreases-strip_word : goal.decreases-strip_word
decreases-strip_word l = length l.word.now
