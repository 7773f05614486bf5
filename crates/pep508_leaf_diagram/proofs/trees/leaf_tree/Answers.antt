use Rattle.std.proofs.Common.{◌≡◌, ◌∙◌, [], length, sym, subst, arith}
use Rattle.std.proofs.lemmas.List.{get_or_default}
use Rattle.pep508_tree.specs.Tree.{never}
use Rattle.pep508_tree.specs.Meaning.{IsTree}
use Rattle.pep508_tree.specs.Nodes.{AllChildren, Above, IsRising, IsJoined, Made, node_place}
use Rattle.pep508_tree.specs.Truths.{IsTreeOf}
use Rattle.pep508_tree.proofs.Conjoining.{extends_on}
use Rattle.pep508_leaf_diagram.specs.Forms.{record_of}
use Rattle.pep508_leaf_diagram.specs.Leaves.{IsSound, child_node, no_node, leaf_at}
use Rattle.pep508_leaf_diagram.specs.Trees.{leaf_is}
use Rattle.pep508_leaf_diagram.proofs.Passes.{Each, Says, each_more, each_weaker, says_at, says_kept, tree_made, tree_above}
use Rattle.pep508_leaf_diagram.proofs.Passes.{tree_rises, tree_joined, tree_says}
use Rattle.pep508_leaf_diagram.proofs.trees.leaf_tree.Goals as goal

pub stored-requires-clause-made : goal.stored-requires-clause-made
stored-requires-clause-made c =
    let nodes = c.args.nodes.now in
    let i = c.loop-node.node-index in
    let inner = c.loop-node.interner.nodes in
    let node = record_of c.form.result.now in
    let is : node ≡ child_node nodes i =
    c.form.ensures ∙ c.node-item.is ∙ get_or_default nodes i c.node-item.result no_node c.loop-node-test.true in
    let sound = subst (IsSound [] c.args.count nodes i) (sym is) (c.requires.graph i c.loop-node-test.true) in
    let e = subst (Each (Says inner nodes c.args.leaf) never i) (sym c.deref.ensures.value) c.loop-node.invariant.each in
    subst (AllChildren (IsTree inner)) (sym c.in_ok-form.ensures)
    (tree_made c.args.count i inner nodes c.args.leaf c.deref.result.now _ c.equal_trees.ensures node e sound)

pub stored-requires-clause-above : goal.stored-requires-clause-above
stored-requires-clause-above c =
    let nodes = c.args.nodes.now in
    let i = c.loop-node.node-index in
    let inner = c.loop-node.interner.nodes in
    let node = record_of c.form.result.now in
    let is : node ≡ child_node nodes i =
    c.form.ensures ∙ c.node-item.is ∙ get_or_default nodes i c.node-item.result no_node c.loop-node-test.true in
    let sound = subst (IsSound [] c.args.count nodes i) (sym is) (c.requires.graph i c.loop-node-test.true) in
    let e = subst (Each (Says inner nodes c.args.leaf) never i) (sym c.deref.ensures.value) c.loop-node.invariant.each in
    subst (λ n. AllChildren (Above inner (node_place n)) n) (sym c.in_ok-form.ensures)
    (tree_above c.args.count i inner nodes c.args.leaf c.deref.result.now _ c.equal_trees.ensures node e sound)

pub stored-requires-clause-rises : goal.stored-requires-clause-rises
stored-requires-clause-rises c =
    let nodes = c.args.nodes.now in
    let i = c.loop-node.node-index in
    let inner = c.loop-node.interner.nodes in
    let node = record_of c.form.result.now in
    let is : node ≡ child_node nodes i =
    c.form.ensures ∙ c.node-item.is ∙ get_or_default nodes i c.node-item.result no_node c.loop-node-test.true in
    let sound = subst (IsSound [] c.args.count nodes i) (sym is) (c.requires.graph i c.loop-node-test.true) in
    let e = subst (Each (Says inner nodes c.args.leaf) never i) (sym c.deref.ensures.value) c.loop-node.invariant.each in
    subst IsRising (sym c.in_ok-form.ensures)
    (tree_rises c.args.count i inner nodes c.args.leaf c.deref.result.now _ c.equal_trees.ensures node e sound)

pub stored-requires-clause-joined : goal.stored-requires-clause-joined
stored-requires-clause-joined c =
    let nodes = c.args.nodes.now in
    let i = c.loop-node.node-index in
    let inner = c.loop-node.interner.nodes in
    let node = record_of c.form.result.now in
    let is : node ≡ child_node nodes i =
    c.form.ensures ∙ c.node-item.is ∙ get_or_default nodes i c.node-item.result no_node c.loop-node-test.true in
    let sound = subst (IsSound [] c.args.count nodes i) (sym is) (c.requires.graph i c.loop-node-test.true) in
    let e = subst (Each (Says inner nodes c.args.leaf) never i) (sym c.deref.ensures.value) c.loop-node.invariant.each in
    subst IsJoined (sym c.in_ok-form.ensures)
    (tree_joined c.args.count i inner nodes c.args.leaf c.deref.result.now _ c.equal_trees.ensures node e sound)

pub loop-node-preserved : goal.loop-node-preserved
loop-node-preserved c =
    let nodes = c.args.nodes.now in
    let i = c.loop-node.node-index in
    let leaf = c.args.leaf in
    let inner = c.loop-node.interner.nodes in
    let new = c.stored.new.interner.nodes in
    let tree = c.in_ok-tree.tree in
    let keeps = c.in_ok-tree.ensures.keeps in
    let node = record_of c.form.result.now in
    let is : node ≡ child_node nodes i =
    c.form.ensures ∙ c.node-item.is ∙ get_or_default nodes i c.node-item.result no_node c.loop-node-test.true in
    let sound = subst (IsSound [] c.args.count nodes i) (sym is) (c.requires.graph i c.loop-node-test.true) in
    let e = subst (Each (Says inner nodes leaf) never i) (sym c.deref.ensures.value) c.loop-node.invariant.each in
    record {
      keeps = extends_on c.args.interner.now.nodes inner new c.loop-node.invariant.keeps keeps;
      counts = c.in_ok-tree.ensures.counts ∙ c.loop-node.invariant.counts;
      each = each_more (Says new nodes leaf) never i c.loop-node.trees.items c.push.new.self.items tree
          (each_weaker (Says inner nodes leaf) (Says new nodes leaf) (says_kept inner new keeps nodes leaf) never i
          c.loop-node.trees.items c.loop-node.invariant.each)
          (tree_says c.args.count i inner nodes leaf c.deref.result.now _ c.equal_trees.ensures node e sound new tree
          (subst (λ n. Made inner new n tree) c.in_ok-form.ensures c.in_ok-tree.ensures.made) is)
          c.in_ok-push.ensures.items;
    }

pub returns-clause-tree : goal.returns-clause-tree
returns-clause-tree c =
    let nodes = c.args.nodes.now in
    let leaf = c.args.leaf in
    let inner = c.loop-node.interner.nodes in
    let found = c.deref-2.result.now in
    let all : c.loop-node.node-index ≡ length nodes = omega (arith, c.loop-node-test.false, c.loop-node.auto.node-index-end) in
    let e = subst (λ n. Each (Says inner nodes leaf) never n found) all
    (subst (Each (Says inner nodes leaf) never c.loop-node.node-index) (sym c.deref-2.ensures.value)
    c.loop-node.invariant.each) in
    let s = says_at c.args.count (length nodes) inner nodes leaf found e c.args.root.now c.requires.root in
    subst (IsTreeOf inner (leaf_is (leaf_at [] nodes c.args.root.now) leaf)) (sym c.tree_of.ensures)
    (record { made = s.made; truth = s.truth })
