-- What an interner remembers of trees that were combined.
use Rattle.std.specs.Prelude.{List, IfSome}
use Rattle.std.specs.BTreeMap.{BTreeMap, get}
use Rattle.pep508_tree.specs.declared.tree_pair.TreePair.{TreePair}
use Rattle.pep508_tree.specs.Tree.{Tree}
use Rattle.pep508_tree.specs.Meaning.{NodeRecord, IsTree}
use Rattle.pep508_tree.specs.PairOrder.{pair_cmp}
use Rattle.pep508_tree.specs.Conjunctions.{Conjunction}

-- a tree is known as the conjunction of two
pub record IsKnown (nodes : List NodeRecord) (pair : TreePair) (tree : Tree) : Type 0 where
  pub first : IsTree nodes pair.first
  pub second : IsTree nodes pair.second
  pub conjunction : Conjunction nodes nodes pair.first pair.second tree

-- all that is remembered is so
abbrev pub AreKnown : List NodeRecord → BTreeMap TreePair Tree → Type 0
AreKnown nodes known = (pair : TreePair) → IfSome (get pair_cmp known pair) (λ tree. IsKnown nodes pair tree)
