use Rattle.pep508_tree.specs.Meaning.{diagram_of}
use Rattle.pep508_marker_display.specs.Counted.{clause_count}
use Rattle.pep508_marker_display.proofs.Counting.{IsCount, weigh}
use Rattle.pep508_marker_display.proofs.clause_count.has_more_clauses.Given as goal

abbrev pub invariant-loop-end : goal.invariant-loop-end
invariant-loop-end l =
    IsCount l.interner.nodes (clause_count (diagram_of l.interner.nodes l.fn.tree)) l.most l.waiting.items l.found

abbrev pub decreases-loop-end : goal.decreases-loop-end
decreases-loop-end l = weigh l.interner.nodes l.waiting.items
