use Rattle.std.proofs.Common.{◌≡◌, drop}
use Rattle.pep508_marker_text_laws.specs.Simplified.{is_covered}
use Rattle.pep508_clauses.proofs.simplify.is_covered.Given as goal

abbrev pub invariant-loop-other : goal.invariant-loop-other
invariant-loop-other g l =
    is_covered g.T.Term.same g.T.Term.opposite l.clause (drop l.other-index l.others)
    ≡ is_covered g.T.Term.same g.T.Term.opposite l.clause l.others
