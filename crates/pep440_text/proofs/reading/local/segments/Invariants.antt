use Rattle.std.proofs.Common.{◌≡◌, ◌-◌, length, map}
use Rattle.pep440_text.specs.Record.{segment_of}
use Rattle.pep440_text.specs.Reading.{with_front, segments_at}
use Rattle.pep440_text.proofs.reading.local.segments.Given as goal

abbrev pub invariant-loop : goal.invariant-loop
invariant-loop l = with_front (map segment_of l.segments.items) (segments_at (length l.bytes - l.counter) l.rest) ≡ segments_at (length l.bytes) l.bytes
