use Rattle.reqs_command.proofs.opened.run_within.Goals as goal

pub returns-in-Matrix : goal.returns-in-Matrix
returns-in-Matrix g c = rw c.in-Matrix.is (c.matrix_within.new.interner.nodes, c.matrix_within.ensures.runs)

pub returns-in-Same : goal.returns-in-Same
returns-in-Same g c = rw c.in-Same.is (c.same_within.new.interner.nodes, c.same_within.ensures.runs)

pub returns-in-Covers : goal.returns-in-Covers
returns-in-Covers g c = rw c.in-Covers.is (c.covers_within.new.interner.nodes, c.covers_within.ensures.runs)

pub returns-in-Conflicts : goal.returns-in-Conflicts
returns-in-Conflicts g c = rw c.in-Conflicts.is (c.conflicts_within.new.interner.nodes, c.conflicts_within.ensures.runs)

pub returns : goal.returns
returns g c = rw c.in-Normal.is (c.normal_within.new.interner.nodes, c.normal_within.ensures.runs)
