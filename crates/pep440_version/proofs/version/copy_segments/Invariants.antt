use Rattle.std.proofs.Common.{◌≡◌, take, map}
use Rattle.pep440_text.specs.Record.{segment_of}
use Rattle.pep440_version.proofs.version.copy_segments.Given as goal

abbrev pub invariant-loop-segment : goal.invariant-loop-segment
invariant-loop-segment l = map segment_of l.copies.items ≡ map segment_of (take l.segment-index l.segments)
