use Rattle.std.proofs.Common.{◌++◌, take, map}
use Rattle.std.specs.Prelude.{codes}
use Rattle.std.specs.Fmt.{HasWritten, IsPlainFormatter}
use Rattle.std.specs.List.{flat_map}
use Rattle.pep440_text.specs.Record.{segment_of}
use Rattle.pep440_text.specs.Print.{segment_text, dotted_segment}
use Rattle.pep440_version.proofs.print.write_segments.Given as goal

abbrev pub invariant-loop-segment : goal.invariant-loop-segment
invariant-loop-segment g l =
    IsPlainFormatter l.fn.f
    → HasWritten g.W.Write.write_str_gives l.fn.f
    (codes "+" ++ (segment_text (segment_of l.fn.first)
    ++ flat_map dotted_segment (map segment_of (take l.segment-index l.others)))) l.f
