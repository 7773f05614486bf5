use Rattle.reqtable_tests.proofs.tables.built_within.Goals as goal

pub build_within-requires : goal.build_within-requires
build_within-requires c = record { trees = c.lines_that_were_read_are_of_the_nodes.ensures _ _ _ c.in-Ok.ensures.answered.0 c.in-Ok.ensures.answered.2 }
