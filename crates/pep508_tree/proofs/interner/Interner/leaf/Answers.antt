use Rattle.std.proofs.Common.{sym, subst}
use Rattle.std.proofs.lemmas.Result.{IfOk-weaker}
use Rattle.pep508_tree.specs.Meaning.{IsTree}
use Rattle.pep508_tree.specs.Forms.{record_of}
use Rattle.pep508_tree.specs.Nodes.{AllChildren, Above, IsRising, IsJoined, Made, node_place}
use Rattle.pep508_tree.proofs.Leaves.{leaf_made, leaf_above, leaf_rises, leaf_joined, leaf_holds}
use Rattle.pep508_tree.proofs.interner.Interner.leaf.Goals as goal

pub stored-requires-clause-made : goal.stored-requires-clause-made
stored-requires-clause-made c =
    subst (AllChildren (IsTree c.args.self.now.nodes)) (sym c.in_ok-form.ensures)
    (leaf_made c.args.self.now.nodes (record_of c.args.form))

pub stored-requires-clause-above : goal.stored-requires-clause-above
stored-requires-clause-above c =
    subst (AllChildren (Above c.args.self.now.nodes (node_place (record_of c.in_ok-form.form))))
    (sym c.in_ok-form.ensures)
    (leaf_above c.args.self.now.nodes (node_place (record_of c.in_ok-form.form)) (record_of c.args.form))

pub stored-requires-clause-rises : goal.stored-requires-clause-rises
stored-requires-clause-rises c =
    subst IsRising (sym c.in_ok-form.ensures) (leaf_rises (record_of c.args.form) c.requires.rises)

pub stored-requires-clause-joined : goal.stored-requires-clause-joined
stored-requires-clause-joined c =
    subst IsJoined (sym c.in_ok-form.ensures) (leaf_joined (record_of c.args.form) c.requires.joined)

pub returns-clause-truth : goal.returns-clause-truth
returns-clause-truth c =
    IfOk-weaker c.stored.result _ _
    (λ tree made. leaf_holds c.args.self.now.nodes c.stored.new.self.nodes (record_of c.args.form) tree
    (subst (λ n. Made c.args.self.now.nodes c.stored.new.self.nodes n tree) c.in_ok-form.ensures made))
    c.stored.ensures.made
