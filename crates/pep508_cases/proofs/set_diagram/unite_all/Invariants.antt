use Rattle.std.proofs.Common.{◌≡◌, map, take}
use Rattle.pep508_cases.specs.Marked.{united}
use Rattle.pep508_cases.proofs.set_diagram.unite_all.Given as goal

abbrev pub invariant-loop-places : goal.invariant-loop-places
invariant-loop-places l = l.all.items ≡ map (united l.first.sets.items l.second.sets.items) (take l.places-index l.leaves)
