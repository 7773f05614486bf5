use Rattle.std.proofs.Common.{◌≡◌, ◌++◌}
use Rattle.std.specs.Vec.Iter.{into_iter_items}
use Rattle.pep508_clauses.specs.Terms.{lists_of}
use Rattle.pep508_clauses.proofs.simplify.as_lists.Given as goal

abbrev pub invariant-loop-clause : goal.invariant-loop-clause
invariant-loop-clause g l =
    lists_of l.lists.items ++ into_iter_items l.clause-iterator ≡ l.fn.clauses.items
