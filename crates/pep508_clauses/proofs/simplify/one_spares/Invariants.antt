use Rattle.std.proofs.Common.{◌≡◌, ◌++◌, drop}
use Rattle.std.specs.List.{list_any}
use Rattle.pep508_clauses.specs.Sparing.{is_spared_by}
use Rattle.pep508_clauses.proofs.simplify.one_spares.Given as goal

abbrev pub invariant-loop-candidate : goal.invariant-loop-candidate
invariant-loop-candidate g l =
    list_any (is_spared_by g.T.Term.same g.T.Term.opposite l.term (l.front ++ l.behind) (g.T.Term.negation l.term))
    (drop l.candidate-index l.candidates)
    ≡ list_any
    (is_spared_by g.T.Term.same g.T.Term.opposite l.term (l.front ++ l.behind) (g.T.Term.negation l.term))
    l.candidates
