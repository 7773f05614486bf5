use Rattle.std.proofs.Common.{string_bytes}
use Rattle.std.specs.Str.Iter.{chars_rest}
use Rattle.reqs_messages.specs.Shown.{shown_in_lines}
use Rattle.reqs_messages.proofs.Told.{IsTold}
use Rattle.reqs_messages.proofs.shown.shown_lines.Given as goal

abbrev pub invariant-loop-c : goal.invariant-loop-c
invariant-loop-c l = IsTold shown_in_lines l.text (chars_rest l.c-iterator) (string_bytes l.shown)
