use Rattle.pep440_version.specs.Order.{version_cmp}
use Rattle.pep508_conjunctions.specs.Sources.{IsSource}
use Rattle.pep508_conjunctions.proofs.Sources.{sources_more}
use Rattle.pep508_conjunctions.proofs.borrowed_nodes.version_sources.Goals as goal

pub loop-tree-preserved : goal.loop-tree-preserved
loop-tree-preserved c =
    sources_more (IsSource version_cmp (λ v. v.version c.args.key) c.args.interner.now.nodes c.args.negated) c.args.trees.now c.loop-tree.tree-index
    c.tree-item.result c.loop-tree.sources.items c.push.new.self.items c.in-Some.source c.loop-tree.invariant
    c.in-Some.ensures c.loop-tree-test.true c.tree-item.is c.in_ok-push.ensures.items
