use Rattle.std.proofs.Common.{◌≡◌, drop}
use Rattle.pep508_clauses.specs.Words.{word_behind}
use Rattle.pep508_clauses.proofs.term.text_word.Given as goal

abbrev pub invariant-loop-byte : goal.invariant-loop-byte
invariant-loop-byte l = word_behind l.word (drop l.byte-index l.byte-items) ≡ word_behind l.key l.text
