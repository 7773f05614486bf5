use Rattle.std.proofs.Common.{◌≡◌, ◌∙◌, ◌-◌, [], false, Less, is_eq, is_gt, ap, sym, subst, arith}
use Rattle.std.proofs.lemmas.Result.{IfOk-weaker}
use Rattle.pep508_diagram.specs.Text.{text_cmp}
use Rattle.pep508_tree.specs.Forms.{record_of}
use Rattle.pep508_tree.specs.Nodes.{AreSound, IsRising, Paired, counterpart, node_place, turned}
use Rattle.pep508_tree.proofs.Splitting.{node_is, equal_of, less_of, split_same, split_before}
use Rattle.pep508_tree.proofs.table.NodeTable.split.Goals as goal

pub with_node-requires-clause-rising : goal.with_node-requires-clause-rising
with_node-requires-clause-rising c =
    let sound = subst AreSound c.self.view_is c.self.invariant.0 in
    subst IsRising (sym (node_is c.self.inside.nodes.items c.args.self.now c.args.a c.place.result
    c.index.result.now
    c.deref-first.result.now c.self.view_is c.place.ensures c.requires.a_node c.requires.a c.index.ensures
    c.deref-first.ensures))
    (sound.each (c.args.a.place - 1) (omega arith)).rises

pub with_node-requires-clause-other_rising : goal.with_node-requires-clause-other_rising
with_node-requires-clause-other_rising c =
    let sound = subst AreSound c.self.view_is c.self.invariant.0 in
    subst IsRising (sym (node_is c.self.inside.nodes.items c.args.self.now c.args.b c.place-2.result
    c.index-2.result.now
    c.deref-second.result.now c.self.view_is c.place-2.ensures c.requires.b_node c.requires.b
    c.index-2.ensures c.deref-second.ensures))
    (sound.each (c.args.b.place - 1) (omega arith)).rises

pub with_tree-requires : goal.with_tree-requires
with_tree-requires c =
    let sound = subst AreSound c.self.view_is c.self.invariant.0 in
    subst IsRising (sym (node_is c.self.inside.nodes.items c.args.self.now c.args.a c.place.result
    c.index.result.now
    c.deref-first.result.now c.self.view_is c.place.ensures c.requires.a_node c.requires.a c.index.ensures
    c.deref-first.ensures))
    (sound.each (c.args.a.place - 1) (omega arith)).rises

pub returns-then-is_eq : goal.returns-then-is_eq
returns-then-is_eq c =
    let ns = c.args.self.now in
    let sound = subst AreSound c.self.view_is c.self.invariant.0 in
    let owners = c.self.inside.nodes.items in
    let first = node_is owners ns c.args.a c.place.result c.index.result.now c.deref-first.result.now
    c.self.view_is
    c.place.ensures c.requires.a_node c.requires.a c.index.ensures c.deref-first.ensures in
    let second = node_is owners ns c.args.b c.place-2.result c.index-2.result.now c.deref-second.result.now
    c.self.view_is
    c.place-2.ensures c.requires.b_node c.requires.b c.index-2.ensures c.deref-second.ensures in
    let same = sym c.cmp_variable.ensures ∙ equal_of c.cmp_variable.result
    (sym c.is_eq.ensures ∙ c.if-is_eq.true) in
    IfOk-weaker c.with_node.result _ _
    (λ pairs is. split_same ns sound c.args.a c.args.b c.deref-first.result.now c.deref-second.result.now
    (record_of pairs)
    c.requires.a c.requires.b c.requires.a_node c.requires.b_node first second same is)
    c.with_node.ensures

pub returns-else-is_eq : goal.returns-else-is_eq
returns-else-is_eq c =
    let ns = c.args.self.now in
    let sound = subst AreSound c.self.view_is c.self.invariant.0 in
    let owners = c.self.inside.nodes.items in
    let na = c.deref-first.result.now in
    let nb = c.deref-second.result.now in
    let first = node_is owners ns c.args.a c.place.result c.index.result.now na c.self.view_is
    c.place.ensures c.requires.a_node c.requires.a c.index.ensures c.deref-first.ensures in
    let second = node_is owners ns c.args.b c.place-2.result c.index-2.result.now nb c.self.view_is
    c.place-2.ensures c.requires.b_node c.requires.b c.index-2.ensures c.deref-second.ensures in
    let ordered : is_gt (text_cmp (node_place na) (node_place nb)) ≡ false =
    (λ i. is_gt (text_cmp (node_place (first i)) (node_place (second i)))) ∙ c.requires.ordered in
    let less : text_cmp (node_place na) (node_place nb) ≡ Less =
    less_of (text_cmp (node_place na) (node_place nb)) ordered
    (ap is_eq (sym c.cmp_variable.ensures) ∙ sym c.is_eq.ensures ∙ c.if-is_eq.false) in
    let unsigned : c.turned.result ≡ turned c.args.b.negated c.args.b =
    c.turned.ensures ∙ ap (λ s. turned s c.args.b) c.is_negated.ensures in
    IfOk-weaker c.with_tree.result _ _
    (λ pairs is. split_before ns sound c.args.a c.args.b na nb (record_of pairs)
    c.requires.a c.requires.b c.requires.a_node c.requires.b_node first second less
    (subst (λ u. Paired na (counterpart na u [] [] u) (record_of pairs)) unsigned is))
    c.with_tree.ensures
