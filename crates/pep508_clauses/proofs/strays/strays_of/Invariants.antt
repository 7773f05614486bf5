use Rattle.std.proofs.Common.{◌≡◌, length}
use Rattle.pep508_clauses.specs.Sparing.{has, strays_before, strays_of}
use Rattle.pep508_clauses.proofs.strays.strays_of.Given as goal

abbrev pub invariant-loop-front : goal.invariant-loop-front
invariant-loop-front g l =
    strays_before g.T.Term.literal (has l.words.keys) l.strays l.front
    ≡ strays_of g.T.Term.literal (has l.words.keys) l.terms

abbrev pub decreases-loop-front : goal.decreases-loop-front
decreases-loop-front g l = length l.front
