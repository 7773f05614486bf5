-- Two diagrams that are merged.
use Rattle.std.specs.Prelude.{◌≡◌, ℕ, ◌<◌, List, ◌∷◌, length, get_or}
use Rattle.std.specs.List.{AllByRecursion}
use Rattle.pep508_diagram.specs.Question.{Valuation}
use Rattle.pep508_tree.specs.Meaning.{NodeOf, NodeRecord}
use Rattle.pep508_tree.specs.Nodes.{first_child}
use Rattle.pep508_tree.specs.Conjunctions.{Meet}
use Rattle.pep508_leaf_diagram.specs.declared.child.Child.{Child}
use Rattle.pep508_leaf_diagram.specs.declared.diagram.Diagram.{Diagram}
use Rattle.pep508_leaf_diagram.specs.declared.merge.Merged.{Merged}
use Rattle.pep508_leaf_diagram.specs.declared.merge.Waiting.{Waiting}
use Rattle.pep508_leaf_diagram.specs.declared.merge_walk.Asked.{Asked}
use Rattle.pep508_leaf_diagram.specs.declared.merge_walk.Done.{Done}
use Rattle.pep508_leaf_diagram.specs.declared.merge_walk.Walk.{Walk}
use Rattle.pep508_leaf_diagram.specs.Leaves.{leaf_at, Stands, IsAbove, IsGraph}
use Rattle.pep508_leaf_diagram.specs.Pairing.{leaf_in, AboveIn, AreSplit}
use Rattle.pep508_leaf_diagram.specs.Forms.{record_of, others}

-- what stands for children of two diagrams in nodes whose leaves are these pairs of leaves
pub record IsBoth (inner : List NodeRecord) (a b : Diagram) (nodes : List (NodeOf Child))
    (leaves : List (ℕ × ℕ))
    (first second child : Child) : Type 0 where
  pub stands : Stands (length leaves) (length nodes) child
  pub above : (place : List ℕ) → AboveIn inner a place first → AboveIn inner b place second →
      IsAbove inner nodes place child
  pub leaf : (v : Valuation) → get_or leaves (leaf_at inner nodes child v) (0, 0)
      ≡ (leaf_in inner a first v, leaf_in inner b second v)

abbrev pub IsDone : List NodeRecord → Diagram → Diagram → List (NodeOf Child) → List (ℕ × ℕ) → Done → Type 0
IsDone inner a b nodes leaves done =
    IsBoth inner a b nodes leaves done.asked.first done.asked.second done.child

abbrev pub AreBoth : List NodeRecord → Diagram → Diagram → List (NodeOf Child) → List (ℕ × ℕ) →
    List (Child × Child) → List Child → Type 0
AreBoth inner a b nodes leaves pairs children =
    Meet (λ pair child. IsBoth inner a b nodes leaves pair.0 pair.1 child) pairs children

-- the child stands in the list for what is asked
abbrev pub IsFound : Asked → Child → List Done → Type 0
IsFound asked child done =
    (k : ℕ) × (k < length done) × (record { asked = asked; child = child }
    ≡ get_or done k (record { asked = asked; child = child }))

-- where a walk stands
pub record IsWalk (inner : List NodeRecord) (a b : Diagram) (walk : Walk) : Type 0 where
  pub graph : IsGraph inner (length walk.leaves.items) walk.nodes.items
  pub each : AllByRecursion (IsDone inner a b walk.nodes.items walk.leaves.items) walk.done.items

-- what waits: the pairs that stand in two children
pub record IsWaiting (inner : List NodeRecord) (a b : Diagram) (waiting : Waiting) : Type 0 where
  pub split : AreSplit inner a b waiting.first waiting.second (record_of waiting.form)
  pub pairs_are : waiting.pairs.items ≡ first_child (record_of waiting.form) ∷ others (record_of waiting.form)

-- two diagrams as one
pub record AreMerged (inner : List NodeRecord) (a b : Diagram) (merged : Merged) : Type 0 where
  pub graph : IsGraph inner merged.diagram.leaves merged.diagram.nodes.items
  pub root : Stands merged.diagram.leaves (length merged.diagram.nodes.items) merged.diagram.root
  pub count : length merged.leaves.items ≡ merged.diagram.leaves
  pub leaf : (v : Valuation) →
      get_or merged.leaves.items (leaf_in inner merged.diagram merged.diagram.root v) (0, 0)
      ≡ (leaf_in inner a a.root v, leaf_in inner b b.root v)
