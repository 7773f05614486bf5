use Rattle.std.proofs.Common.{◌≡◌, map, take, Ok}
use Rattle.reqs_io_faults.specs.Inputs.{extras_of}
use Rattle.reqs_io_faults.proofs.input.read_extras.Given as goal

abbrev pub invariant-loop-extra : goal.invariant-loop-extra
invariant-loop-extra l = extras_of (map (λ e. e.now) (take l.extra-index l.extras)) ≡ Ok l.names.items
