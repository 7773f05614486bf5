use Rattle.std.proofs.Common.{◌≡◌, [], length}
use Rattle.std.specs.Prelude.{reverse}
use Rattle.pep508_marker_text_laws.specs.Simplified.{shortened_behind}
use Rattle.pep508_clauses.proofs.simplify.shortened.Given as goal

abbrev pub invariant-loop-clause : goal.invariant-loop-clause
invariant-loop-clause g l =
    shortened_behind g.T.Term.same g.T.Term.opposite [] l.fn.clauses.items
    ≡ shortened_behind g.T.Term.same g.T.Term.opposite l.done.items (reverse l.later.items)

abbrev pub decreases-loop-clause : goal.decreases-loop-clause
decreases-loop-clause g l = length l.later.items
