use Rattle.std.proofs.Common.{◌≡◌, drop}
use Rattle.pep508_marker_text_laws.specs.Simplified.{stands_in}
use Rattle.pep508_clauses.proofs.simplify.stands_in.Given as goal

abbrev pub invariant-loop-other : goal.invariant-loop-other
invariant-loop-other g l =
    stands_in g.T.Term.same g.T.Term.opposite (drop l.other-index l.clause) l.term
    ≡ stands_in g.T.Term.same g.T.Term.opposite l.clause l.term
