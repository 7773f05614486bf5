use Rattle.pep440_specifier.specs.Bounds.{lent_bound}
use Rattle.pep508_simplification.specs.Simplified.{between}
use Rattle.pep508_simplification.proofs.Simplifying.{recalled_at, recalled_more}
use Rattle.pep508_simplification.proofs.narrowed.narrowed_once.Goals as goal

pub returns-in-Some-clause-simpler : goal.returns-in-Some-clause-simpler
returns-in-Some-clause-simpler c =
    recalled_at (between (lent_bound c.args.lower) (lent_bound c.args.upper)) c.args.interner.now.nodes
    c.args.known.now (c.place.result, c.is_negated.result) c.args.tree c.in-Some.simple.now c.requires.known
    c.place.ensures c.is_negated.ensures c.in-Some.ensures.value

pub returns-clause-known : goal.returns-clause-known
returns-clause-known c =
    recalled_more (between (lent_bound c.args.lower) (lent_bound c.args.upper)) c.args.interner.now.nodes
    c.narrowed.new.interner.nodes c.args.known.now c.insert.new.self (c.place.result, c.is_negated.result)
    c.args.tree c.in_ok-simple.simple c.in_ok-simple.ensures.keeps c.requires.made c.place.ensures
    c.is_negated.ensures c.requires.known c.in_ok-simple.ensures.simpler c.in_ok-insert.ensures.updates.0
