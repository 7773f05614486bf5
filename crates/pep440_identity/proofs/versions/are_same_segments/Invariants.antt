use Rattle.std.proofs.Common.{◌≡◌, map, take}
use Rattle.pep440_version.specs.Record.{segment_of}
use Rattle.pep440_identity.proofs.versions.are_same_segments.Given as goal

abbrev pub invariant-loop-place : goal.invariant-loop-place
invariant-loop-place l = map segment_of (take l.place l.ours) ≡ map segment_of (take l.place l.theirs)
