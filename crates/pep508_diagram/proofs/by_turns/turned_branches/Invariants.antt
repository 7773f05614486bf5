use Rattle.std.proofs.Common.{◌≡◌, ◌++◌, drop}
use Rattle.pep508_diagram.specs.Branches.{by_turns}
use Rattle.pep508_diagram.proofs.by_turns.turned_branches.Given as goal

abbrev pub invariant-loop-boundary : goal.invariant-loop-boundary
invariant-loop-boundary g l =
    by_turns l.starts_held l.boundaries
    ≡ l.branches.items ++ by_turns l.child (drop l.boundary-index l.boundaries)
