use Rattle.reqtable_requirements.proofs.Asked.{are_of_nodes}
use Rattle.reqs_lists.proofs.covering.found_within.Goals as goal

pub covers_within-found-requires-clause-lock : goal.covers_within-found-requires-clause-lock
covers_within-found-requires-clause-lock c = are_of_nodes c.requires.vars _ _ c.requires.said c.requires.reads_left

pub covers_within-found-requires-clause-requirements : goal.covers_within-found-requires-clause-requirements
covers_within-found-requires-clause-requirements c = are_of_nodes c.requires.vars _ _ c.requires.others c.requires.reads_right
