use Rattle.pep508_tree.specs.Meaning.{holds}
use Rattle.reqs_c_algebra.specs.Relations.{Implies}
use Rattle.reqs_c_algebra.proofs.Saying.{says_of_two, whether}
use Rattle.reqs_c_algebra.proofs.pairs.implied.Goals as goal

pub returns-in-Ok : goal.returns-in-Ok
returns-in-Ok c =
    let nodes = c.read_two.new.interner.nodes in
    let trees = c.in-Ok.trees in
    says_of_two c.args.nodes nodes c.args.left.now c.args.right.now trees.0 trees.1 Implies _ c.in-Ok.ensures.few
    c.in-Ok.ensures.first c.in-Ok.ensures.second
    (whether (Implies (holds nodes trees.0) (holds nodes trees.1)) c.implies.result _ c.implies.ensures
    c.said_whether.ensures)
