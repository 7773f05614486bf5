use Rattle.std.specs.Str.Iter.{chars_rest}
use Rattle.pep508_questions.proofs.Quotes.{IsPast}
use Rattle.pep508_questions.proofs.kinds.is_quoted.Given as goal

abbrev pub invariant-loop-c : goal.invariant-loop-c
invariant-loop-c l = IsPast l.text (chars_rest l.c-iterator)
