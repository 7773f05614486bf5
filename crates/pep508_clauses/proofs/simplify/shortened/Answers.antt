use Rattle.std.proofs.Common.{rules}
use Rattle.pep508_clauses.proofs.Sifting.{shorten_step}
use Rattle.pep508_clauses.proofs.simplify.shortened.Goals as goal

pub loop-clause-preserved : goal.loop-clause-preserved
loop-clause-preserved g c =
    shorten_step g.T.Term.same g.T.Term.opposite _ c.loop-clause.later.items c.loop-clause.done.items
    c.pop.new.self.items c.in-Some.clause c.in_ok-short.short c.push.new.self.items c.loop-clause.invariant
    (search rules) (search rules) (search rules)
