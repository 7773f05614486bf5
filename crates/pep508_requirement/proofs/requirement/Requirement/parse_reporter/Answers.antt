use Rattle.pep508_requirement.proofs.WithTree.{read_with_tree, memory_refused}
use Rattle.pep508_requirement.proofs.requirement.Requirement.parse_reporter.Goals as goal

pub returns-in-Ok-with_tree-clause-answered : goal.returns-in-Ok-with_tree-clause-answered
returns-in-Ok-with_tree-clause-answered g c =
    read_with_tree _ _ c.args.text.now c.in-Ok.read c.in-Ok-with_tree.requirement c.in-Ok.ensures.answered
    c.in-Ok-with_tree.ensures.tree c.in-Ok-with_tree.ensures.same

pub returns-in-Err-with_tree-clause-answered : goal.returns-in-Err-with_tree-clause-answered
returns-in-Err-with_tree-clause-answered g c =
    memory_refused _ g.T.Pep508Url.lacks_memory c.args.vars.now c.args.text.now c.memory.result c.memory.ensures
