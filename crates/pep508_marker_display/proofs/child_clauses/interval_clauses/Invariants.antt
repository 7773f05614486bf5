use Rattle.std.proofs.Common.{◌≡◌, ◌+◌, ◌++◌, false, cond, map, length}
use Rattle.pep508_clauses.specs.Terms.{clauses_shown}
use Rattle.pep508_marker_text_laws.specs.Saying.{interval_clause}
use Rattle.pep508_marker_display.specs.Spans.{spans}
use Rattle.pep508_marker_display.proofs.child_clauses.interval_clauses.Given as goal

abbrev pub invariant-loop-lower : goal.invariant-loop-lower
invariant-loop-lower g l =
    clauses_shown l.clauses.items
    ++ map (interval_clause (g.S.Says.saying l.says)) (spans l.tree false l.held l.left)
    ≡ map (interval_clause (g.S.Says.saying l.says)) (spans l.tree false l.fn.held l.later)

abbrev pub decreases-loop-lower : goal.decreases-loop-lower
decreases-loop-lower g l = length l.left + cond l.held 1 0
