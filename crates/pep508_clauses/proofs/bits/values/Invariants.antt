use Rattle.std.proofs.Common.{◌≡◌, fold, drop}
use Rattle.std.specs.Int.Bits.{bit_or}
use Rattle.pep508_clauses.specs.Words.{value_bits}
use Rattle.pep508_clauses.proofs.bits.values.Given as goal

abbrev pub invariant-loop-term : goal.invariant-loop-term
invariant-loop-term g l =
    fold (λ all term. bit_or all (value_bits (g.T.Term.word term) l.from)) l.bits (drop l.term-index l.terms)
    ≡ fold (λ all term. bit_or all (value_bits (g.T.Term.word term) l.from)) 0 l.terms
