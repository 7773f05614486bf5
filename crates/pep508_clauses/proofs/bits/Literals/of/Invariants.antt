use Rattle.std.proofs.Common.{◌≡◌, drop}
use Rattle.pep508_clauses.proofs.Joined.{joined_behind}
use Rattle.pep508_clauses.specs.Near.{joined}
use Rattle.pep508_clauses.specs.Words.{literal_bit}
use Rattle.pep508_clauses.proofs.bits.Literals.of.Given as goal

abbrev pub invariant-loop-term : goal.invariant-loop-term
invariant-loop-term g l =
    (joined_behind (λ term. literal_bit (g.T.Term.literal term) 58) l.literals.first
    (drop l.term-index l.terms) ≡ joined (λ term. literal_bit (g.T.Term.literal term) 58) l.terms)
    × (joined_behind (λ term. literal_bit (g.T.Term.literal term) 52) l.literals.second
    (drop l.term-index l.terms) ≡ joined (λ term. literal_bit (g.T.Term.literal term) 52) l.terms)
