use Rattle.std.proofs.Common.{◌≡◌, fold, drop}
use Rattle.std.specs.BTreeSet.{insert_key}
use Rattle.std.specs.Ordering.{nat_cmp}
use Rattle.pep508_clauses.specs.Sparing.{words_of}
use Rattle.pep508_clauses.proofs.strays.words.Given as goal

abbrev pub invariant-loop-term : goal.invariant-loop-term
invariant-loop-term g l =
    fold (λ words term. insert_key nat_cmp words (g.T.Term.literal term)) l.words.keys
    (drop l.term-index l.terms)
    ≡ words_of g.T.Term.literal l.terms
