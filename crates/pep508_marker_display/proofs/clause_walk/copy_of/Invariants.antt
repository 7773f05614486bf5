use Rattle.std.proofs.Common.{◌≡◌, take}
use Rattle.pep508_clauses.specs.Terms.{clause_of}
use Rattle.pep508_marker_display.proofs.clause_walk.copy_of.Given as goal

abbrev pub invariant-loop-term : goal.invariant-loop-term
invariant-loop-term l = clause_of l.copies.items ≡ clause_of (take l.term-index l.terms)
