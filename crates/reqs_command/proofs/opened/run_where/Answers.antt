use Rattle.reqs_command.proofs.opened.run_where.Goals as goal

pub returns-in-Same : goal.returns-in-Same
returns-in-Same g c = rw c.in-Same.is (c.same_where.new.interner.nodes, c.same_where.ensures.runs)

pub returns-in-Covers : goal.returns-in-Covers
returns-in-Covers g c = rw c.in-Covers.is (c.covers_where.new.interner.nodes, c.covers_where.ensures.runs)

pub returns-in-Conflicts : goal.returns-in-Conflicts
returns-in-Conflicts g c = rw c.in-Conflicts.is (c.conflicts_where.new.interner.nodes, c.conflicts_where.ensures.runs)
