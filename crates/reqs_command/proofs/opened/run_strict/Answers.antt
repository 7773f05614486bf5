use Rattle.reqs_command.proofs.opened.run_strict.Goals as goal

pub returns-in-Matrix : goal.returns-in-Matrix
returns-in-Matrix g c = rw c.in-Matrix.is (c.matrix_strict.new.interner.nodes, c.matrix_strict.ensures.runs)

pub returns-in-Conflicts : goal.returns-in-Conflicts
returns-in-Conflicts g c = rw c.in-Conflicts.is (c.conflicts_strict.new.interner.nodes, c.conflicts_strict.ensures.runs)
