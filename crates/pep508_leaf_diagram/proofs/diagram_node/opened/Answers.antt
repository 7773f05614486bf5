use Rattle.std.proofs.Common.{◌∙◌, sym, subst, rules}
use Rattle.pep508_leaf_diagram.specs.Forms.{record_of}
use Rattle.std.proofs.lemmas.List.{get_or_default}
use Rattle.pep508_leaf_diagram.specs.Leaves.{IsOpened, no_node}
use Rattle.pep508_leaf_diagram.specs.Pairing.{MadeIn}
use Rattle.pep508_leaf_diagram.proofs.Leaves.{node_opened}
use Rattle.pep508_leaf_diagram.proofs.diagram_node.opened.Goals as goal

pub returns-in-Node : goal.returns-in-Node
returns-in-Node c =
    let inner = c.args.interner.now.nodes in
    let d = c.args.diagram.now in
    subst (λ child. IsOpened inner d.leaves d.nodes.items child (record_of c.form.result.now))
    (sym c.in-Node.is)
    (node_opened inner d.leaves d.nodes.items c.in-Node.place (record_of c.form.result.now)
    c.requires.diagram.graph (search rules)
    (c.form.ensures ∙ c.index.ensures
    ∙ get_or_default d.nodes.items c.in-Node.place c.index.result.now no_node (search rules)))

pub returns-in-Some : goal.returns-in-Some
returns-in-Some c =
    let inner = c.args.interner.now.nodes in
    let d = c.args.diagram.now in
    let made = subst (MadeIn inner d) c.in-Whole.is c.requires.made in
    subst (λ child. IsOpened inner d.leaves d.nodes.items child (record_of c.in-Some.form))
    (sym c.in-Whole.is) (rw c.in-Some.is at c.in_ok-form_of_tree-in-Whole.ensures d.leaves d.nodes.items made.1)
