use Rattle.std.proofs.Common.{◌≡◌, take}
use Rattle.pep440_identity.proofs.specifiers.are_identical_specifiers.Given as goal

abbrev pub invariant-loop-place : goal.invariant-loop-place
invariant-loop-place l = take l.place l.ours ≡ take l.place l.theirs
