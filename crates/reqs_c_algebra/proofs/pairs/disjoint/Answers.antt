use Rattle.pep508_tree.specs.Meaning.{holds}
use Rattle.reqs_c_algebra.specs.Relations.{AreDisjoint}
use Rattle.reqs_c_algebra.proofs.Saying.{says_of_two, whether}
use Rattle.reqs_c_algebra.proofs.pairs.disjoint.Goals as goal

pub returns-in-Ok : goal.returns-in-Ok
returns-in-Ok c =
    let nodes = c.read_two.new.interner.nodes in
    let trees = c.in-Ok.trees in
    says_of_two c.args.nodes nodes c.args.left.now c.args.right.now trees.0 trees.1 AreDisjoint _ c.in-Ok.ensures.few
    c.in-Ok.ensures.first c.in-Ok.ensures.second
    (whether (AreDisjoint (holds nodes trees.0) (holds nodes trees.1)) c.is_disjoint.result _ c.is_disjoint.ensures
    c.said_whether.ensures)
