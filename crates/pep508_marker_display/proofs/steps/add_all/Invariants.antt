use Rattle.std.proofs.Common.{◌≡◌, ◌++◌}
use Rattle.std.specs.Vec.Iter.{into_iter_items}
use Rattle.pep508_clauses.specs.Terms.{clauses_shown}
use Rattle.pep508_marker_display.specs.Steps.{steps_shown, steps_to}
use Rattle.pep508_marker_display.proofs.steps.add_all.Given as goal

abbrev pub invariant-loop-terms : goal.invariant-loop-terms
invariant-loop-terms l =
    steps_shown l.steps.items ++ steps_to l.tree (clauses_shown (into_iter_items l.terms-iterator))
    ≡ steps_shown l.fn.steps.items ++ steps_to l.tree (clauses_shown l.fn.clauses.items)
