use Rattle.std.proofs.Common.{List, take}
use Rattle.pep508_tree.specs.Meaning.{NodeRecord}
use Rattle.pep508_leaf_diagram.specs.declared.diagram.Diagram.{Diagram}
use Rattle.pep508_leaf_diagram.specs.Walks.{IsWalk, AreBoth}
use Rattle.pep508_leaf_diagram.proofs.merge_walk.Walk.get_all.Given as goal

abbrev pub invariant-loop-pair : goal.invariant-loop-pair
invariant-loop-pair l =
    (inner : List NodeRecord) (a b : Diagram) → IsWalk inner a b l.self →
    AreBoth inner a b l.self.nodes.items l.self.leaves.items (take l.pair-index l.pairs) l.children.items
