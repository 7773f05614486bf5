use Rattle.std.proofs.Common.{◌≡◌, drop}
use Rattle.pep508_clauses.specs.Terms.{clause_of}
use Rattle.pep508_marker_display.specs.TopExtra.{first_extra}
use Rattle.pep508_marker_display.proofs.required_extra.first_extra.Given as goal

abbrev pub invariant-loop-term : goal.invariant-loop-term
invariant-loop-term l = first_extra (clause_of (drop l.term-index l.clause)) ≡ first_extra (clause_of l.clause)
