use Rattle.std.proofs.Common.{◌≡◌, map, take, Ok}
use Rattle.reqs_c_algebra.specs.Arguments.{names_of}
use Rattle.reqs_c_algebra.proofs.names.names_of_lines.Given as goal

abbrev pub invariant-loop-line : goal.invariant-loop-line
invariant-loop-line l = names_of (map (λ line. line.now) (take l.line-index l.lines)) ≡ Ok l.names.items
