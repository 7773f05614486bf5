use Rattle.std.proofs.Common.{◌≡◌, ◌++◌, map, drop, string_bytes}
use Rattle.reqs_command.specs.Variables.{pairs_in}
use Rattle.reqs_command.proofs.variables.pairs.Given as goal

abbrev pub invariant-loop-entry : goal.invariant-loop-entry
invariant-loop-entry l =
    map (λ pair. (pair.0.now, pair.1.now)) l.pairs.items ++ pairs_in (map string_bytes (drop l.entry-index l.entries))
    ≡ pairs_in (map string_bytes l.entries)
