use Rattle.reqtable_tests.proofs.tables.tested.Goals as goal

pub build-requires : goal.build-requires
build-requires c = record { trees = c.lines_that_were_read_are_of_the_nodes.ensures _ _ _ c.in-Ok.ensures.answered.0 c.in-Ok.ensures.answered.2 }
