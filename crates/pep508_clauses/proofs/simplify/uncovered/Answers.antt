use Rattle.std.proofs.Common.{rules}
use Rattle.pep508_clauses.specs.Sparing.{has}
use Rattle.pep508_clauses.proofs.Beginning.{kept_apart, dropped_apart}
use Rattle.pep508_clauses.proofs.Sifting.{drop_step, keep_step}
use Rattle.pep508_clauses.proofs.simplify.uncovered.Goals as goal

pub loop-clause-preserved-in-Continue-branch-2 : goal.loop-clause-preserved-in-Continue-branch-2
loop-clause-preserved-in-Continue-branch-2 g c = (
  keep_step g.T.Term.same g.T.Term.opposite _ c.loop-clause.later.items c.loop-clause.kept.items
      c.pop.new.self.items c.in-Some.clause c.loop-clause.invariant.0 (search rules) c.push.new.self.items
      (search rules) (search rules),
  kept_apart g.T.Term.literal g.T.Term.same g.T.Term.opposite g.T.Term.literal_of_same
      (λ words. has words.keys) _ c.loop-clause.kept.items c.loop-clause.later.items c.pop.new.self.items
      c.in-Some.clause (search rules) c.loop-clause.invariant.1 c.push.new.self.items (search rules),
)

pub loop-clause-preserved : goal.loop-clause-preserved
loop-clause-preserved g c = (
  drop_step g.T.Term.same g.T.Term.opposite _ c.loop-clause.later.items c.loop-clause.kept.items
      c.pop.new.self.items c.in-Some.clause c.loop-clause.invariant.0 (search rules) (search rules),
  dropped_apart g.T.Term.literal g.T.Term.same g.T.Term.opposite g.T.Term.literal_of_same
      (λ words. has words.keys) _ c.loop-clause.kept.items c.loop-clause.later.items c.pop.new.self.items
      c.in-Some.clause (search rules) c.loop-clause.invariant.1,
)
