-- Chains of trees that wait to be joined, the last first, as the tree of a formula is made.
use Rattle.std.specs.Prelude.{◌≡◌, Bool, List, [], ◌∷◌, map, Option}
use Rattle.std.specs.List.{AllByRecursion}
use Rattle.pep508_diagram.specs.Question.{Valuation}
use Rattle.pep508_tree.specs.Tree.{Tree}
use Rattle.pep508_tree.specs.Meaning.{NodeRecord, IsTree, holds}
use Rattle.pep508_marker_parser.specs.declared.formula_tree.TreeChain.{TreeChain}
use Rattle.pep508_marker_parser.specs.TreeReading.{connective, chain_truth, listed}

-- the trees are of these nodes
abbrev pub IsChain : List NodeRecord → TreeChain → Type 0
IsChain nodes chain = AllByRecursion (IsTree nodes) chain.trees.items

-- the truth of the trees with the word between each two, if there are any
abbrev pub truth_of : List NodeRecord → TreeChain → Valuation → Option Bool
truth_of nodes chain v = chain_truth (connective chain.word) (map (λ t. holds nodes t v) chain.trees.items)

abbrev pub truths_of : List NodeRecord → List TreeChain → Valuation → List (Option Bool)
truths_of nodes chains v = map (λ chain. truth_of nodes chain v) chains

-- the last chain is removed; one without trees where there is none
abbrev pub TakesOff : List TreeChain → TreeChain → List TreeChain → Type 0
TakesOff [] chain others = (chain.trees.items ≡ []) × (others ≡ [])
TakesOff (last ∷ chains) chain others = (chain ≡ last) × (others ≡ chains)

-- one more chain, of the tree, where there is one
abbrev pub Puts : Option Tree → List TreeChain → List TreeChain → Type 0
Puts tree old new = (chain : TreeChain) × (chain.trees.items ≡ listed tree) × (new ≡ chain ∷ old)

-- chains of these nodes were made from others, and hold as a step on the truths of those does
pub record Steps (nodes now : List NodeRecord) (step : Valuation → List (Option Bool) → List (Option Bool))
    (old new : List TreeChain) : Type 0 where
  pub made : AllByRecursion (IsChain now) new
  pub truths : (v : Valuation) → truths_of now new v ≡ step v (truths_of nodes old v)
