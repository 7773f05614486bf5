use Rattle.std.proofs.Common.{◌++◌, take}
use Rattle.std.specs.Fmt.{HasWritten, IsPlainFormatter, decimal}
use Rattle.std.specs.List.{flat_map}
use Rattle.pep440_text.specs.Print.{dotted_number}
use Rattle.pep440_version.proofs.print.write_numbers.Given as goal

abbrev pub invariant-loop-number : goal.invariant-loop-number
invariant-loop-number g l =
    IsPlainFormatter l.fn.f
    → HasWritten g.W.Write.write_str_gives l.fn.f
    (decimal l.fn.first ++ flat_map dotted_number (take l.number-index l.others)) l.f
