use Rattle.std.proofs.Common.{◌≡◌, ◌++◌, ◌≤◌, string_bytes, encode_utf8_all}
use Rattle.std.specs.Char.Escape.{escape_unicode}
use Rattle.std.specs.Char.Iter.{escape_rest, escape_end}
use Rattle.reqs_messages.proofs.shown.push_shown.Given as goal

abbrev pub invariant-loop-part : goal.invariant-loop-part
invariant-loop-part l = record {
  tells :
      string_bytes l.shown ++ encode_utf8_all (escape_rest l.part-iterator)
      ≡ string_bytes l.initial.shown ++ encode_utf8_all (escape_unicode l.fn.c);
  ends : escape_end l.part-iterator ≤ 10;
}
