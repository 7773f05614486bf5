use Rattle.std.proofs.Common.{◌≡◌, ◌∙◌, IfOk, subst}
use Rattle.pep508_tree.specs.Forms.{record_of}
use Rattle.pep508_tree.specs.Nodes.{counterpart, Paired}
use Rattle.pep508_tree.proofs.Pairs.{counterpart_same}
use Rattle.pep508_tree.proofs.node.Node.with_node.Goals as goal

pub returns : goal.returns
returns c =
    let a = c.args.self.now in
    let same : counterpart a c.first.result c.versions.result.now c.texts.result.now c.second.result ≡
    c.args.other.now =
    (λ i. counterpart a (c.first.ensures i) (c.versions.ensures i) (c.texts.ensures i) (c.second.ensures i))
    ∙ counterpart_same a c.args.other.now c.requires.same in
    subst (λ other. IfOk c.paired.result (λ pairs. Paired a other (record_of pairs))) same c.paired.ensures
