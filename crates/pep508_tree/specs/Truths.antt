-- What trees hold as.
use Rattle.std.specs.Prelude.{◌≡◌, Bool, List}
use Rattle.pep508_diagram.specs.Question.{Valuation}
use Rattle.pep508_tree.specs.Tree.{Tree}
use Rattle.pep508_tree.specs.Meaning.{NodeRecord, IsTree, holds}

-- a tree of these nodes that holds where this does
pub record IsTreeOf (nodes : List NodeRecord) (says : Valuation → Bool) (tree : Tree) : Type 0 where
  pub made : IsTree nodes tree
  pub truth : (v : Valuation) → holds nodes tree v ≡ says v
