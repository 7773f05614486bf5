use Rattle.std.proofs.Common.{take}
use Rattle.pep508_diagram.specs.Text.{text_cmp}
use Rattle.pep508_tree.specs.Conjunctions.{Meet}
use Rattle.pep508_conjunctions.specs.Sources.{IsSource}
use Rattle.pep508_conjunctions.proofs.borrowed_nodes.text_sources.Given as goal

abbrev pub invariant-loop-tree : goal.invariant-loop-tree
invariant-loop-tree l =
    Meet (IsSource text_cmp (λ v. v.text l.fn.key) l.fn.interner.nodes l.fn.negated) (take l.tree-index l.fn.trees) l.sources.items
