use Rattle.std.proofs.Common.{◌≡◌, ◌-◌, ◌≤◌, ◌++◌, true, length, take, drop}
use Rattle.std.specs.List.{list_all}
use Rattle.std.specs.Str.Parse.{digits_value}
use Rattle.pep440_version.specs.Reading.{leading_digits, behind_digits}
use Rattle.reqtable_streaming.specs.PlainLines.{is_plain_byte}
use Rattle.reqtable_streaming.proofs.words.number.Given as goal

abbrev pub invariant-loop-count : goal.invariant-loop-count
invariant-loop-count l = record {
  within : l.count ≤ length l.bytes;
  digits : take l.count l.bytes ++ leading_digits (drop l.count l.bytes) ≡ leading_digits l.bytes;
  rest : behind_digits (drop l.count l.bytes) ≡ behind_digits l.bytes;
  so_far : l.total ≡ digits_value 10 (take l.count l.bytes);
  fits : l.total ≤ 100245;
  plain : list_all is_plain_byte (drop l.count l.bytes) ≡ true → list_all is_plain_byte l.bytes ≡ true;
}

abbrev pub decreases-loop-count : goal.decreases-loop-count
decreases-loop-count l = length l.bytes - l.count
