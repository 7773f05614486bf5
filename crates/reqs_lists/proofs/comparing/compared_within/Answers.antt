use Rattle.reqtable_requirements.proofs.Asked.{are_of_nodes}
use Rattle.reqs_lists.proofs.comparing.compared_within.Goals as goal

pub same_within-compared-requires-clause-left : goal.same_within-compared-requires-clause-left
same_within-compared-requires-clause-left c = are_of_nodes c.requires.vars _ _ c.requires.said c.requires.reads_left

pub same_within-compared-requires-clause-right : goal.same_within-compared-requires-clause-right
same_within-compared-requires-clause-right c = are_of_nodes c.requires.vars _ _ c.requires.others c.requires.reads_right
