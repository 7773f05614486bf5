use Rattle.std.proofs.Common.{◌≡◌, drop}
use Rattle.pep508_clauses.specs.Words.{word_behind}
use Rattle.pep508_clauses.proofs.term.numbers_word.Given as goal

abbrev pub invariant-loop-number : goal.invariant-loop-number
invariant-loop-number l = word_behind l.word (drop l.number-index l.numbers) ≡ word_behind l.key l.numbers
