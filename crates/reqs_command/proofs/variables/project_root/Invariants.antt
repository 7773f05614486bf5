use Rattle.std.proofs.Common.{◌≡◌, map, drop}
use Rattle.reqs_command.specs.Variables.{root_in}
use Rattle.reqs_command.proofs.variables.project_root.Given as goal

abbrev pub invariant-loop-name : goal.invariant-loop-name
invariant-loop-name l =
    root_in (map (λ pair. (pair.0.now, pair.1.now)) (drop l.name-index l.pairs))
    ≡ root_in (map (λ pair. (pair.0.now, pair.1.now)) l.pairs)
