-- Trees in which the named extras are assumed to be present, and what is remembered of them.
use Rattle.std.specs.Prelude.{◌≡◌, ℕ, ◌<◌, Bool, false, List, IfSome}
use Rattle.std.specs.Borrow.{Bor}
use Rattle.std.specs.BTreeMap.{BTreeMap, get}
use Rattle.std.specs.Ordering.{nat_cmp}
use Rattle.pep508_diagram.specs.Question.{Valuation}
use Rattle.pep508_tree.specs.Tree.{Tree}
use Rattle.pep508_tree.specs.Meaning.{NodeRecord, holds, IsTree}
use Rattle.pep508_tree.specs.Nodes.{AllChildren, IsRising, Above, chosen, node_place, first_place}
use Rattle.pep508_simplification.specs.Simplified.{with_named}

-- the test's results depend on the name alone
abbrev pub AnswersBy : (Bor (List ℕ) → Bool → Type 0) → (List ℕ → Bool) → Type 0
AnswersBy returns says = (name : Bor (List ℕ)) (answer : Bool) → returns name answer → answer ≡ says name.now

-- a tree without its sign
abbrev pub plain : ℕ → Tree
plain place = record { place = place; negated = false }

module _ (returns : Bor (List ℕ) → Bool → Type 0) where
  -- a tree holds where the other one does with the named extras present
  pub record IsNamed (old new : List NodeRecord) (tree simple : Tree) : Type 0 where
    pub made : IsTree new simple
    pub truth_is : (says : List ℕ → Bool) → AnswersBy returns says → (v : Valuation) →
        holds new simple v ≡ holds old tree (with_named says v)
    pub above : (place : List ℕ) → Above old place tree → Above new place simple

  pub record IsKnown (nodes : List NodeRecord) (place : ℕ) (simple : Tree) : Type 0 where
    pub made : IsTree nodes (plain place)
    pub named : IsNamed nodes nodes (plain place) simple

  -- all that is remembered is so
  abbrev pub AreKnown : List NodeRecord → BTreeMap ℕ Tree → Type 0
  AreKnown nodes known = (place : ℕ) → IfSome (get nat_cmp known place) (IsKnown nodes place)

  -- the node's child at a valuation holds where the tree does, with the named extras present
  pub record IsAsked (nodes : List NodeRecord) (t : Tree) (n : NodeRecord) : Type 0 where
    pub made : AllChildren (IsTree nodes) n
    pub falls : AllChildren (λ child. child.place < t.place) n
    pub above : AllChildren (Above nodes (node_place n)) n
    pub place_is : node_place n ≡ first_place nodes t
    pub rises : IsRising n
    pub holds_is : (says : List ℕ → Bool) → AnswersBy returns says → (v : Valuation) →
        holds nodes t (with_named says v) ≡ holds nodes (chosen n v) (with_named says v)
