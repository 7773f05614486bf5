use Rattle.std.proofs.lemmas.Result.{IfOk-weaker}
use Rattle.pep508_tree.proofs.Conjoining.{extends_itself, in_either}
use Rattle.pep508_tree.proofs.conjunction_walk.conjunction.Goals as goal

pub returns-in-Ok-clause-keeps : goal.returns-in-Ok-clause-keeps
returns-in-Ok-clause-keeps c = extends_itself c.args.table.now

pub returns-in-Err-clause-made : goal.returns-in-Err-clause-made
returns-in-Err-clause-made c =
    IfOk-weaker c.walked.result _ _
    (λ tree is. in_either c.args.table.now c.walked.new.table c.args.a c.args.b tree
    (c.in-Err.asked.first, c.in-Err.asked.second) c.in-Err.ensures.asked.0 is)
    c.walked.ensures.made
