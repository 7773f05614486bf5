use Rattle.std.proofs.Common.{◌≡◌, ◌++◌, drop}
use Rattle.pep508_marker_text_laws.specs.Simplified.{spares}
use Rattle.pep508_clauses.proofs.simplify.spares.Given as goal

abbrev pub invariant-loop-other : goal.invariant-loop-other
invariant-loop-other g l =
    spares g.T.Term.same g.T.Term.opposite l.term (l.front ++ l.behind) (drop l.other-index l.clause)
    ≡ spares g.T.Term.same g.T.Term.opposite l.term (l.front ++ l.behind) l.clause
