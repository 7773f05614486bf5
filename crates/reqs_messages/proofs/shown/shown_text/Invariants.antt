use Rattle.std.proofs.Common.{string_bytes}
use Rattle.std.specs.Str.Iter.{chars_rest}
use Rattle.reqs_messages.specs.Shown.{shown_char}
use Rattle.reqs_messages.proofs.Told.{IsTold}
use Rattle.reqs_messages.proofs.shown.shown_text.Given as goal

abbrev pub invariant-loop-c : goal.invariant-loop-c
invariant-loop-c l = IsTold shown_char l.text (chars_rest l.c-iterator) (string_bytes l.shown)
