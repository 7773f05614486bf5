-- The conjunction of two trees.
use Rattle.std.specs.Prelude.{◌≡◌, ℕ, ◌&&◌, List, [], ◌∷◌}
use Rattle.pep508_diagram.specs.Question.{Valuation}
use Rattle.pep508_tree.specs.Tree.{Tree}
use Rattle.pep508_tree.specs.Meaning.{NodeRecord, holds, IsTree}
use Rattle.pep508_tree.specs.Nodes.{Above, turned}

-- the conjunction of two trees
pub record Conjunction (old new : List NodeRecord) (a b tree : Tree) : Type 0 where
  pub made : IsTree new tree
  pub truth_is : (v : Valuation) → holds new tree v ≡ (holds old a v && holds old b v)
  pub above : (place : List ℕ) → Above old place a → Above old place b → Above new place tree

-- the tree is the conjunction of a pair, with the signs of two trees
abbrev pub ArePairs : List NodeRecord → List NodeRecord → Tree → Tree → Tree × Tree → Tree → Type 0
ArePairs old new a b pair tree = Conjunction old new (turned a.negated pair.0) (turned b.negated pair.1) tree

-- equally many elements, each of which meets the condition with its counterpart
abbrev pub Meet : {C D : Type 0} → (C → D → Type 0) → List C → List D → Type 0
Meet R [] [] = Unit {0}
Meet R [] (y ∷ ys) = ⊥
Meet R (x ∷ xs) [] = ⊥
Meet R (x ∷ xs) (y ∷ ys) = R x y × Meet R xs ys
