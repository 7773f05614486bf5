use Rattle.std.specs.Str.Iter.{chars_rest}
use Rattle.underline.proofs.Widths.{IsCounted}
use Rattle.underline.proofs.columns.Given as goal

abbrev pub invariant-loop-c : goal.invariant-loop-c
invariant-loop-c l = IsCounted l.text (chars_rest l.c-iterator) l.total
