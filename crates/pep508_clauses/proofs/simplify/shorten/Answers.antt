use Rattle.std.proofs.Common.{rules}
use Rattle.pep508_clauses.proofs.Sifting.{drop_term, keep_term}
use Rattle.pep508_clauses.proofs.simplify.shorten.Goals as goal

pub loop-term-preserved-in-Continue-1 : goal.loop-term-preserved-in-Continue-1
loop-term-preserved-in-Continue-1 g c =
    keep_term g.T.Term.same g.T.Term.opposite g.T.Term.negation c.args.candidates.now _ c.loop-term.later.items
    c.loop-term.kept.items c.pop.new.self.items c.in-Some.term c.loop-term.invariant (search rules)
    c.push.new.self.items (search rules) (search rules)

pub loop-term-preserved : goal.loop-term-preserved
loop-term-preserved g c =
    drop_term g.T.Term.same g.T.Term.opposite g.T.Term.negation c.args.candidates.now _ c.loop-term.later.items
    c.loop-term.kept.items c.pop.new.self.items c.in-Some.term c.loop-term.invariant (search rules)
    (search rules)
