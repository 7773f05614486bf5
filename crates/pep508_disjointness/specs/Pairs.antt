-- Pairs of the children of two trees.
use Rattle.std.specs.Prelude.{◌↔◌, ◌+◌, ◌<◌, Bool, List}
use Rattle.std.specs.List.{AllByRecursion}
use Rattle.pep508_tree.specs.Tree.{Tree}
use Rattle.pep508_tree.specs.Meaning.{NodeRecord, IsTree}
use Rattle.pep508_tree.specs.Nodes.{turned}
use Rattle.pep508_tree.specs.Disjoint.{AreDisjoint}

-- the trees of a pair, each negated where its flag is set
abbrev pub turned_pair : Bool → Bool → Tree × Tree → Tree × Tree
turned_pair first second pair = (turned first pair.0, turned second pair.1)

-- pairs of the children of two trees: they are trees that were made earlier, and the two trees are disjoint
-- exactly where those of each pair are
pub record ArePaired (nodes : List NodeRecord) (a b : Tree) (pairs : List (Tree × Tree)) : Type 0 where
  pub made : AllByRecursion (λ pair. IsTree nodes pair.0 × IsTree nodes pair.1) pairs
  pub falls : AllByRecursion (λ pair. pair.0.place + pair.1.place < a.place + b.place) pairs
  pub apart : AreDisjoint nodes a b ↔ AllByRecursion (λ pair. AreDisjoint nodes pair.0 pair.1) pairs
