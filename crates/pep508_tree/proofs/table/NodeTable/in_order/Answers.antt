use Rattle.std.proofs.Common.{◌∙◌, ap, sym, is_gt}
use Rattle.pep508_diagram.specs.Text.{text_cmp}
use Rattle.pep508_tree.specs.Nodes.{first_place, node_place}
use Rattle.pep508_tree.proofs.Splitting.{node_is, turned_round}
use Rattle.pep508_tree.proofs.table.NodeTable.in_order.Goals as goal

pub returns-then-is_gt-clause-ordered : goal.returns-then-is_gt-clause-ordered
returns-then-is_gt-clause-ordered c =
    let ns = c.args.self.now in
    let owners = c.self.inside.nodes.items in
    let na = c.deref-first.result.now in
    let nb = c.deref-second.result.now in
    let first = node_is owners ns c.args.a c.place.result c.index.result.now na c.self.view_is
    c.place.ensures c.requires.a_node c.requires.a c.index.ensures c.deref-first.ensures in
    let second = node_is owners ns c.args.b c.place-2.result c.index-2.result.now nb c.self.view_is
    c.place-2.ensures c.requires.b_node c.requires.b c.index-2.ensures c.deref-second.ensures in
    turned_round (first_place ns c.args.a) (first_place ns c.args.b)
    (sym (λ i. is_gt (text_cmp (node_place (first i)) (node_place (second i))))
    ∙ sym (ap is_gt c.cmp_variable.ensures) ∙ sym c.is_gt.ensures ∙ c.if-is_gt.true)

pub returns-else-is_gt-clause-ordered : goal.returns-else-is_gt-clause-ordered
returns-else-is_gt-clause-ordered c =
    let ns = c.args.self.now in
    let owners = c.self.inside.nodes.items in
    let na = c.deref-first.result.now in
    let nb = c.deref-second.result.now in
    let first = node_is owners ns c.args.a c.place.result c.index.result.now na c.self.view_is
    c.place.ensures c.requires.a_node c.requires.a c.index.ensures c.deref-first.ensures in
    let second = node_is owners ns c.args.b c.place-2.result c.index-2.result.now nb c.self.view_is
    c.place-2.ensures c.requires.b_node c.requires.b c.index-2.ensures c.deref-second.ensures in
    sym (λ i. is_gt (text_cmp (node_place (first i)) (node_place (second i))))
    ∙ sym (ap is_gt c.cmp_variable.ensures) ∙ sym c.is_gt.ensures ∙ c.if-is_gt.false
