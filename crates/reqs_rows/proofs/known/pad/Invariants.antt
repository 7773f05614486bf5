use Rattle.std.proofs.Common.{◌≡◌, ◌+◌, ◌-◌, ℕ, None, get_or, vec_len}
use Rattle.reqs_rows.proofs.known.pad.Given as goal

abbrev pub invariant-loop-pieces : goal.invariant-loop-pieces
invariant-loop-pieces l = (at : ℕ) → get_or l.pieces.items at None ≡ get_or l.fn.pieces.items at None

abbrev pub decreases-loop-pieces : goal.decreases-loop-pieces
decreases-loop-pieces l = (l.place + 1) - vec_len l.pieces
