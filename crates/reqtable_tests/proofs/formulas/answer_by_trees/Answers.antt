use Rattle.std.proofs.Common.{rules, true}
use Rattle.reqtable_tests.proofs.formulas.answer_by_trees.Goals as goal

pub new-admission-requires-clause-lawful : goal.new-admission-requires-clause-lawful
new-admission-requires-clause-lawful c = ((λ version named. true), λ version named answer is. search rules)

pub judge-requires-clause-trees : goal.judge-requires-clause-trees
judge-requires-clause-trees c = c.lines_that_were_read_are_of_the_nodes.ensures _ _ _ c.in-Ok.ensures.answered.0 c.in-Ok.ensures.answered.2
