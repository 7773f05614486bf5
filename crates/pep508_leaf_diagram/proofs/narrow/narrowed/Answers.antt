use Rattle.std.proofs.Common.{◌≡◌, ◌∙◌, [], length, sym, subst, arith}
use Rattle.std.proofs.lemmas.List.{get_or_default}
use Rattle.pep508_leaf_diagram.specs.declared.child.Child.TheVariants.{Leaf}
use Rattle.pep508_leaf_diagram.specs.Forms.{record_of}
use Rattle.pep508_leaf_diagram.specs.Leaves.{IsFit, IsPut, IsSound, child_node, no_node}
use Rattle.pep508_leaf_diagram.specs.Trees.{IsPart}
use Rattle.pep508_leaf_diagram.proofs.Passes.{Each, Narrows, each_more, each_weaker, narrow_at, narrow_more, narrow_fits}
use Rattle.pep508_leaf_diagram.proofs.Passes.{narrow_put}
use Rattle.pep508_leaf_diagram.proofs.narrow.narrowed.Goals as goal

pub loop-node-preserved : goal.loop-node-preserved
loop-node-preserved c =
    let nodes = c.args.nodes.now in
    let count = c.args.count in
    let leaves = c.args.leaves in
    let i = c.loop-node.node-index in
    let narrow = c.loop-node.narrow.items in
    let new = c.placed.new.nodes.items in
    let child = c.in_ok-child.child in
    let found = c.deref.result.now in
    let node = record_of c.form.result.now in
    let is : node ≡ child_node nodes i =
    c.form.ensures ∙ c.node-item.is ∙ get_or_default nodes i c.node-item.result no_node c.loop-node-test.true in
    let sound = subst (IsSound [] count nodes i) (sym is) (c.requires.graph i c.loop-node-test.true) in
    let e = subst (Each (Narrows count nodes narrow leaves) (Leaf leaves.other) i) (sym c.deref.ensures.value)
    c.loop-node.invariant.each in
    let put = c.in_ok-child.ensures [] count c.loop-node.invariant.graph
    (subst (IsFit [] count narrow (length narrow)) (sym c.in_ok-form.ensures)
    (narrow_fits count i nodes narrow leaves found _ c.equal_children.ensures node c.requires.other e sound)) in
    record {
      graph = put.graph;
      each = each_more (Narrows count nodes new leaves) (Leaf leaves.other) i c.loop-node.children.items
          c.push.new.self.items child
          (each_weaker (Narrows count nodes narrow leaves) (Narrows count nodes new leaves)
          (λ a d n. subst (λ ns. Narrows count nodes ns leaves a d) (sym put.keeps.1)
          (narrow_more count nodes narrow put.keeps.0 leaves a d n)) (Leaf leaves.other) i c.loop-node.children.items
          c.loop-node.invariant.each)
          (narrow_put count i nodes narrow leaves found _ c.equal_children.ensures node c.requires.other e sound new child
          (subst (λ n. IsPut [] count narrow new n child) c.in_ok-form.ensures put) is)
          c.in_ok-push.ensures.items;
    }

pub returns : goal.returns
returns c =
    let nodes = c.args.nodes.now in
    let count = c.args.count in
    let leaves = c.args.leaves in
    let narrow = c.loop-node.narrow.items in
    let found = c.deref-2.result.now in
    let all : c.loop-node.node-index ≡ length nodes = omega (arith, c.loop-node-test.false, c.loop-node.auto.node-index-end) in
    let e = subst (λ n. Each (Narrows count nodes narrow leaves) (Leaf leaves.other) n found) all
    (subst (Each (Narrows count nodes narrow leaves) (Leaf leaves.other) c.loop-node.node-index)
    (sym c.deref-2.ensures.value) c.loop-node.invariant.each) in
    let n = narrow_at count (length nodes) nodes narrow leaves found c.requires.other e c.args.root.now c.requires.root in
    subst (λ d. IsPart count nodes c.args.root.now leaves (record { nodes = c.loop-node.narrow; root = d }))
    (sym c.narrow_child-root.ensures)
    (record { graph = c.loop-node.invariant.graph; stands = n.stands; leaf = n.leaf })
