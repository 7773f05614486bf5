use Rattle.std.proofs.Common.{rules, arith, ◌++◌}
use Rattle.std.proofs.lemmas.Grind.{common_steps}
use Rattle.pep508_clauses.proofs.Near.{alone, shortened_by_candidates}
use Rattle.pep508_clauses.proofs.simplify.shortened_clause.Goals as goal

pub returns-then-terms-lt2 : goal.returns-then-terms-lt2
returns-then-terms-lt2 g c =
    alone g.T.Term.same g.T.Term.opposite g.T.Term.word g.T.Term.literal g.T.Term.negation
    g.T.Term.word_of_same g.T.Term.word_of_opposite g.T.Term.literal_of_same g.T.Term.literal_of_opposite
    (c.args.done.now ++ c.args.later.now) c.args.clause (grind (arith, common_steps))

pub returns : goal.returns
returns g c =
    shortened_by_candidates g.T.Term.same g.T.Term.opposite g.T.Term.word g.T.Term.literal g.T.Term.negation
    g.T.Term.word_of_same g.T.Term.word_of_opposite g.T.Term.literal_of_same g.T.Term.literal_of_opposite
    c.in_ok-words.words.keys (c.args.done.now ++ c.args.later.now) c.deref.result.now c.args.clause
    c.new.result (search rules) (search rules) (search rules)
