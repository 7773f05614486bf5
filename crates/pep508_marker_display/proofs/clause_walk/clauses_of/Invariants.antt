use Rattle.std.specs.List.{filter}
use Rattle.pep508_clauses.specs.Terms.{clause_of, clauses_shown}
use Rattle.pep508_marker_text_laws.specs.Clauses.{clauses_of}
use Rattle.pep508_marker_text_laws.specs.Simplified.{has_some}
use Rattle.pep508_tree.specs.Meaning.{diagram_of}
use Rattle.pep508_marker_display.specs.Pending.{waits_shown}
use Rattle.pep508_marker_display.proofs.Walking.{IsWalk, work}
use Rattle.pep508_marker_display.proofs.clause_walk.clauses_of.Given as goal

abbrev pub invariant-loop-next : goal.invariant-loop-next
invariant-loop-next l =
    IsWalk l.interner.nodes (filter has_some (clauses_of (diagram_of l.interner.nodes l.fn.tree)))
    (clause_of l.path.items) (waits_shown l.waiting.items) (clauses_shown l.clauses.items)

abbrev pub decreases-loop-next : goal.decreases-loop-next
decreases-loop-next l = work l.interner.nodes (waits_shown l.waiting.items)
