use Rattle.std.proofs.Common.{◌≡◌, ◌++◌, drop}
use Rattle.std.specs.String.{string_bytes}
use Rattle.pep440_text.specs.Reading.{leading_digits}
use Rattle.pep440_version.proofs.parse_error.digits_of.Given as goal

abbrev pub invariant-loop-byte : goal.invariant-loop-byte
invariant-loop-byte l = string_bytes l.digits ++ leading_digits (drop l.byte-index l.bytes) ≡ leading_digits l.bytes
