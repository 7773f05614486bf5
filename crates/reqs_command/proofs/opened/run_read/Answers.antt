use Rattle.reqs_command.proofs.opened.run_read.Goals as goal

pub returns-then-options : goal.returns-then-options
returns-then-options g c =
    rw (c.in_default.is, c.if-options.true) (rw c.bounds_or_greatest-bounds.ensures at c.run_strict.ensures)
