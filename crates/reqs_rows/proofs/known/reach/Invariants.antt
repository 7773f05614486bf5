use Rattle.std.proofs.Common.{◌≡◌, ◌+◌, ◌-◌, ℕ, [], get_or, vec_len}
use Rattle.reqs_rows.specs.Seen.{pieces_of}
use Rattle.reqs_rows.proofs.known.reach.Given as goal

abbrev pub invariant-loop-alloc : goal.invariant-loop-alloc
invariant-loop-alloc l = (at : ℕ) → get_or (pieces_of l.known.items) at [] ≡ get_or (pieces_of l.fn.known.items) at []

abbrev pub decreases-loop-alloc : goal.decreases-loop-alloc
decreases-loop-alloc l = (l.index + 1) - vec_len l.known
