use Rattle.std.proofs.Common.{◌≡◌, true, false, length}
use Rattle.pep508_clauses.specs.Terms.{clause_of}
use Rattle.pep508_marker_display.specs.Spans.{spans, differs_from}
use Rattle.pep508_marker_display.proofs.Adding.{with_front}
use Rattle.pep508_marker_display.proofs.child_clauses.differs_from.Given as goal

abbrev pub invariant-loop-lower : goal.invariant-loop-lower
invariant-loop-lower g l =
    with_front (clause_of l.terms.items) (differs_from (g.S.Says.saying l.says) (spans l.tree true false l.left))
    ≡ differs_from (g.S.Says.saying l.says) (spans l.tree true false l.later)

abbrev pub decreases-loop-lower : goal.decreases-loop-lower
decreases-loop-lower g l = length l.left
