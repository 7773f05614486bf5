use Rattle.std.proofs.Common.{rules, ◌∙◌}
use Rattle.pep508_clauses.proofs.Near.{far_covers}
use Rattle.pep508_clauses.proofs.simplify.covers.Goals as goal

pub returns-else-may_be_covered : goal.returns-else-may_be_covered
returns-else-may_be_covered g c =
    c.if-may_be_covered.false
    ∙ far_covers g.T.Term.same g.T.Term.opposite g.T.Term.word g.T.Term.literal g.T.Term.negation
    g.T.Term.word_of_same g.T.Term.word_of_opposite g.T.Term.literal_of_same g.T.Term.literal_of_opposite
    c.args.clause.now c.args.other.now (search rules)
