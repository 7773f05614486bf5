-- Trees of sets that are put together from trees of leaves.
use Rattle.std.specs.Prelude.{◌≡◌, ◌≢◌, ℕ, zero, suc, ◌||◌, ◌&&◌, ◌==◌, Bool, false, List, Option, Some, None}
use Rattle.std.specs.Prelude.{IfSome}
use Rattle.std.specs.BTreeMap.{BTreeMap, get}
use Rattle.pep508_diagram.specs.Question.{Valuation}
use Rattle.pep508_tree.specs.Tree.{Tree, never}
use Rattle.pep508_tree.specs.Meaning.{NodeRecord, IsTree, holds}
use Rattle.pep508_leaf_diagram.specs.Pairing.{leaf_in}
use Rattle.pep508_cases.specs.Cases.{Marks, marks_cmp, same_marks}
use Rattle.pep508_cases.specs.Marked.{set_at}
use Rattle.pep508_cases.specs.declared.set_diagram.Marked.{Marked}

abbrev pub or_never : Option Tree → Tree
or_never None = never
or_never (Some tree) = tree

-- the tree of a set, or the one that never holds
abbrev pub tree_at : BTreeMap Marks Tree → Marks → Tree
tree_at found set = or_never (get marks_cmp found set)

-- the trees are of these nodes, and none is the one that never holds
abbrev pub AllMade : List NodeRecord → BTreeMap Marks Tree → Type 0
AllMade nodes found =
    (set : Marks) → IfSome (get marks_cmp found set) (λ tree. IsTree nodes tree × (tree ≢ never))

-- whether one of the first so many leaves is reached, and its set is this one
abbrev pub reached_by : List Marks → ℕ → Marks → ℕ → Bool
reached_by sets leaf set zero = false
reached_by sets leaf set (suc k) =
    reached_by sets leaf set k || (same_marks set (set_at sets k) && (leaf == k))

-- for each set the tree that holds where it is reached
pub record AreFound (start nodes : List NodeRecord) (m : Marked) (found : BTreeMap Marks Tree) : Type 0 where
  pub made : AllMade nodes found
  pub truth : (set : Marks) (v : Valuation) → holds nodes (tree_at found set) v
      ≡ reached_by m.sets.items (leaf_in start m.diagram m.diagram.root v) set m.diagram.leaves
