use Rattle.std.proofs.Common.{List}
use Rattle.pep508_tree.specs.Meaning.{NodeRecord}
use Rattle.pep508_leaf_diagram.specs.declared.diagram.Diagram.{Diagram}
use Rattle.pep508_leaf_diagram.specs.Walks.{IsWalk}
use Rattle.pep508_leaf_diagram.proofs.merge.next_missing.Given as goal

abbrev pub invariant-loop-place : goal.invariant-loop-place
invariant-loop-place l = (inner : List NodeRecord) (a b : Diagram) → IsWalk inner a b l.fn.walk → IsWalk inner a b l.walk
