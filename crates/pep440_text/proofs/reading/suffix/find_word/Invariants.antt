use Rattle.std.proofs.Common.{◌≡◌, drop}
use Rattle.pep440_text.specs.Reading.{word_at}
use Rattle.pep440_text.proofs.Words.{table}
use Rattle.pep440_text.proofs.reading.suffix.find_word.Given as goal

abbrev pub invariant-loop-word : goal.invariant-loop-word
invariant-loop-word g l = word_at (table (drop l.word-index l.words)) l.bytes ≡ word_at (table l.words) l.bytes
