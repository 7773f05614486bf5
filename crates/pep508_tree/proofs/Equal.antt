-- Trees that are named alike and trees that mean the same.
use Rattle.std.proofs.Common.{◌≡◌, ◌↔◌, ◌==◌, ◌&&◌, IsTrue, List}
use mathlib.Core.Bool.{beq}
use Rattle.pep508_diagram.specs.Question.{Valuation}
use Rattle.pep508_tree.specs.Tree.{Tree}
use Rattle.pep508_tree.specs.Meaning.{NodeRecord, holds, IsTree}
use Rattle.pep508_tree.specs.Nodes.{AreSound}
use Rattle.pep508_tree.proofs.OneTree.{same_tree}
use Rattle.pep508_tree.proofs.Same.{same_trees}

-- trees of one interner are named alike exactly where they mean the same
pub equal_means : (nodes : List NodeRecord) → AreSound nodes → (a b : Tree) → IsTree nodes a →
    IsTree nodes b →
    IsTrue ((a.place == b.place) && beq a.negated b.negated)
    ↔ ((v : Valuation) → holds nodes a v ≡ holds nodes b v)
equal_means nodes sound a b made other_made =
    let named = same_trees a b in
    let meant = same_tree nodes sound a b made other_made in
    (λ alike. meant.0 (named.0 alike), λ agree. named.1 (meant.1 agree))
