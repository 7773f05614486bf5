use Rattle.std.proofs.Common.{rules, not, sym, ap, ◌∙◌}
use Rattle.pep508_clauses.specs.Sparing.{has}
use Rattle.pep508_clauses.proofs.Beginning.{apart_covered}
use Rattle.pep508_clauses.proofs.simplify.is_covered_beside.Goals as goal

pub returns-else-not-stands_apart : goal.returns-else-not-stands_apart
returns-else-not-stands_apart g c =
    ap (λ b. not b) c.if-not-stands_apart.false
    ∙ sym
    (apart_covered g.T.Term.literal g.T.Term.same g.T.Term.opposite g.T.Term.literal_of_same
    (λ words. has words.keys) c.args.common.now c.args.kept.now c.args.clause.now c.args.later.now c.requires
    (search rules))
