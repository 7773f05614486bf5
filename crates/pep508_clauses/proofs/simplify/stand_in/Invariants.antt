use Rattle.std.proofs.Common.{◌≡◌, drop}
use Rattle.std.specs.List.{list_all}
use Rattle.pep508_marker_text_laws.specs.Simplified.{stands_in}
use Rattle.pep508_clauses.proofs.simplify.stand_in.Given as goal

abbrev pub invariant-loop-term : goal.invariant-loop-term
invariant-loop-term g l =
    list_all (stands_in g.T.Term.same g.T.Term.opposite l.clause) (drop l.term-index l.terms)
    ≡ list_all (stands_in g.T.Term.same g.T.Term.opposite l.clause) l.terms
