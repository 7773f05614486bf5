use Rattle.std.proofs.Common.{◌≡◌, ◌++◌}
use Rattle.std.specs.Vec.Iter.{into_iter_items}
use Rattle.pep508_clauses.specs.Terms.{lists_of}
use Rattle.pep508_clauses.proofs.simplify.as_clauses.Given as goal

abbrev pub invariant-loop-list : goal.invariant-loop-list
invariant-loop-list g l =
    l.clauses.items ++ lists_of (into_iter_items l.list-iterator) ≡ lists_of l.fn.lists.items
