use Rattle.std.proofs.Common.{◌≡◌, ◌≢◌, ◌∙◌, ◌||◌, ◌&&◌, ◌+◌, IfSome, ap, sym, subst, arith}
use Rattle.std.specs.BTreeMap.{is_at}
use Rattle.std.specs.Map.{lookup}
use Rattle.pep508_tree.specs.Tree.{never}
use Rattle.pep508_tree.specs.Meaning.{IsTree, holds}
use Rattle.pep508_tree.specs.Truths.{IsTreeOf}
use Rattle.pep508_tree.proofs.Conjoining.{extends_on}
use Rattle.pep508_leaf_diagram.specs.Pairing.{leaf_in}
use Rattle.pep508_leaf_diagram.specs.Trees.{leaf_is}
use Rattle.pep508_leaf_diagram.proofs.LeafTrees.{trees_kept}
use Rattle.pep508_cases.specs.Cases.{same_marks, marks_cmp}
use Rattle.pep508_cases.specs.Marked.{set_at}
use Rattle.pep508_cases.specs.Collecting.{or_never}
use Rattle.pep508_cases.proofs.SetTrees.{leaf_tree_at, reached_more, never_holds}
use Rattle.pep508_cases.proofs.collecting.found_trees.Goals as goal

pub add_tree-requires-clause-tree : goal.add_tree-requires-clause-tree
add_tree-requires-clause-tree c =
    let m = c.args.marked.now in
    (leaf_tree_at c.loop-leaf.interner.nodes (leaf_in c.args.interner.now.nodes m.diagram m.diagram.root) 0
    c.loop-leaf.leaf c.in_ok-trees.trees.items c.index-tree.result.now c.loop-leaf.invariant.trees (omega (arith, c.loop-leaf-test.true, c.len-leaf-end.ensures))
    c.index-tree.ensures).made

pub loop-leaf-preserved : goal.loop-leaf-preserved
loop-leaf-preserved c =
    let m = c.args.marked.now in
    let start = c.args.interner.now.nodes in
    let now = c.loop-leaf.interner.nodes in
    let new = c.add_tree.new.interner.nodes in
    let k = c.loop-leaf.leaf in
    let f = leaf_in start m.diagram m.diagram.root in
    let sets = m.sets.items in
    let tree = c.index-tree.result.now in
    let one : 0 + k ≡ k = omega arith in
    let set = ap (λ those. set_at those k) c.deref.ensures.value in
    let is = subst (λ n. IsTreeOf now (leaf_is f n) tree) one
    (leaf_tree_at now f 0 k c.in_ok-trees.trees.items tree c.loop-leaf.invariant.trees
    (omega (arith, c.loop-leaf-test.true, c.len-leaf-end.ensures)) c.index-tree.ensures) in
    record {
      keeps = extends_on start now new c.loop-leaf.invariant.keeps c.in_ok-add_tree.ensures.keeps;
      counts = c.in_ok-add_tree.ensures.counts ∙ c.loop-leaf.invariant.counts;
      made = c.in_ok-add_tree.ensures.made;
      truth = λ q v.
          c.in_ok-add_tree.ensures.truth q v
          ∙ (λ i. c.loop-leaf.invariant.truth q v i
          || (same_marks q (set i) && is.truth v i))
          ∙ sym (reached_more sets (f v) q k);
      trees = trees_kept now new c.in_ok-add_tree.ensures.keeps f 0 c.in_ok-trees.trees.items
          c.loop-leaf.invariant.trees;
    }

pub loop-leaf-init : goal.loop-leaf-init
loop-leaf-init c =
    let new = c.leaf_trees.new.interner.nodes in
    let empty = c.new-found.ensures.empty in
    record {
      keeps = c.in_ok-trees.ensures.keeps;
      counts = c.in_ok-trees.ensures.counts;
      made = λ q. subst (λ es. IfSome (lookup (is_at (marks_cmp q)) es) (λ tree. IsTree new tree × (tree ≢ never)))
          (sym empty) tt;
      truth = λ q v. ap (λ es. holds new (or_never (lookup (is_at (marks_cmp q)) es)) v) empty ∙ never_holds new v;
      trees = c.in_ok-trees.ensures.each;
    }
