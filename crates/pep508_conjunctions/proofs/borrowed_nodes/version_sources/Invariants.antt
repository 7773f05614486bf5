use Rattle.std.proofs.Common.{take}
use Rattle.pep440_version.specs.Order.{version_cmp}
use Rattle.pep508_tree.specs.Conjunctions.{Meet}
use Rattle.pep508_conjunctions.specs.Sources.{IsSource}
use Rattle.pep508_conjunctions.proofs.borrowed_nodes.version_sources.Given as goal

abbrev pub invariant-loop-tree : goal.invariant-loop-tree
invariant-loop-tree l =
    Meet (IsSource version_cmp (λ v. v.version l.fn.key) l.fn.interner.nodes l.fn.negated) (take l.tree-index l.fn.trees) l.sources.items
