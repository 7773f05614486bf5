use Rattle.std.proofs.Common.{◌∙◌}
use Rattle.pep440_specifier.specs.Bounds.{lent_bound}
use Rattle.pep508_tree.specs.Meaning.{IsTree}
use Rattle.pep508_tree.specs.Nodes.{Above}
use Rattle.pep508_tree.proofs.Conjoining.{each_of_list}
use Rattle.pep508_tree.proofs.Storing.{above_kept}
use Rattle.pep508_simplification.specs.Simplified.{between}
use Rattle.pep508_simplification.specs.Narrowed.{implementation_place}
use Rattle.pep508_simplification.proofs.Simplifying.{simpler_more}
use Rattle.pep508_simplification.proofs.narrowed.all_narrowed.Goals as goal

pub narrowed_once-requires-clause-above : goal.narrowed_once-requires-clause-above
narrowed_once-requires-clause-above c =
    let old = c.args.interner.now.nodes in
    let tree = c.tree-item.result in
    above_kept old c.loop-tree.interner.nodes c.loop-tree.invariant.0.keeps implementation_place tree
    (each_of_list (IsTree old) c.args.trees.now c.loop-tree.tree-index tree c.requires.made c.loop-tree-test.true
    c.tree-item.is)
    (each_of_list (Above old implementation_place) c.args.trees.now c.loop-tree.tree-index tree c.requires.above
    c.loop-tree-test.true c.tree-item.is)

pub loop-tree-preserved : goal.loop-tree-preserved
loop-tree-preserved c =
    let old = c.args.interner.now.nodes in
    let tree = c.tree-item.result in (
      simpler_more (between (lent_bound c.args.lower) (lent_bound c.args.upper)) old c.loop-tree.interner.nodes
          c.narrowed_once.new.interner.nodes c.args.trees.now c.loop-tree.simple.items c.push.new.self.items
          c.loop-tree.known c.narrowed_once.new.known c.loop-tree.tree-index tree c.in_ok-narrowed_once.field-0
          c.loop-tree.invariant.0 c.loop-tree-test.true c.tree-item.is
          (each_of_list (IsTree old) c.args.trees.now c.loop-tree.tree-index tree c.requires.made
          c.loop-tree-test.true c.tree-item.is)
          c.in_ok-narrowed_once.ensures.keeps c.in_ok-narrowed_once.ensures.simpler
          c.in_ok-narrowed_once.ensures.known c.in_ok-push.ensures.items,
      c.in_ok-narrowed_once.ensures.counts ∙ c.loop-tree.invariant.1,
    )
