-- The questions of a borrowed node, and the trees that are left to look at.
use Rattle.std.specs.Prelude.{◌≡◌, ℕ, ◌<◌, ◌||◌, Bool, false, List, [], ◌∷◌, map}
use Rattle.std.specs.List.{AllByRecursion, list_any}
use Rattle.std.specs.Ordering.{nat_cmp}
use Rattle.std.specs.BTreeMap.{insert_entry}
use Rattle.pep508_diagram.specs.Question.{Question, VersionBelow, TextBelow, IsSet}
use Rattle.pep508_tree.specs.declared.root.TreeNode.{TreeNode}
use Rattle.pep508_tree.specs.declared.root.TreeNode.TheVariants as lent
use Rattle.pep508_tree.specs.Tree.{Tree}
use Rattle.pep508_tree.specs.Meaning.{NodeRecord, diagram_of, IsTree}
use Rattle.pep508_questions.specs.declared.questions.Asked.{Asked}
use Rattle.pep508_questions.specs.Asks.{asks_any, asked_by, has_quote, is_of_deprecated_key, is_other_bound}

-- ---- kinds of questions

abbrev pub nothing : Asked
nothing = record { single_quote = false; deprecated_key = false; other_bound = false }

-- the kinds of questions in either of two
abbrev pub either : Asked → Asked → Asked
either a b =
    record {
      single_quote = a.single_quote || b.single_quote;
      deprecated_key = a.deprecated_key || b.deprecated_key;
      other_bound = a.other_bound || b.other_bound;
    }

-- of what kinds some questions are
abbrev pub asked_among : List Question → Asked
asked_among questions =
    record {
      single_quote = list_any has_quote questions;
      deprecated_key = list_any is_of_deprecated_key questions;
      other_bound = list_any is_other_bound questions;
    }

-- ---- a borrowed node

-- its questions, in order
abbrev pub lent_questions : TreeNode → List Question
lent_questions (lent.Constant truth) = []
lent_questions (lent.Versions key children) =
    map (λ branch. VersionBelow key branch.boundary) children.later.now
lent_questions (lent.Texts key children) =
    map (λ branch. TextBelow key branch.boundary) children.later.now
lent_questions (lent.Flagged flag set unset) = IsSet flag.now ∷ []

-- its children, in order, without the node's negation
abbrev pub lent_children : TreeNode → List Tree
lent_children (lent.Constant truth) = []
lent_children (lent.Versions key children) =
    children.first ∷ map (λ branch. branch.child) children.later.now
lent_children (lent.Texts key children) =
    children.first ∷ map (λ branch. branch.child) children.later.now
lent_children (lent.Flagged flag set unset) = set ∷ unset ∷ []

-- ---- trees that are left to look at, by their places

-- one is a tree of the interner and at its place
abbrev pub IsLeft : List NodeRecord → ℕ × Tree → Type 0
IsLeft nodes entry = IsTree nodes entry.1 × (entry.0 ≡ entry.1.place)

-- the tree has such a question
abbrev pub tree_asks : List NodeRecord → (Question → Bool) → Tree → Bool
tree_asks nodes test tree = asks_any test (diagram_of nodes tree)

-- the kinds of the questions of the trees that are left
abbrev pub asked_left : List NodeRecord → List (ℕ × Tree) → Asked
asked_left nodes entries =
    record {
      single_quote = list_any (λ entry. tree_asks nodes has_quote entry.1) entries;
      deprecated_key = list_any (λ entry. tree_asks nodes is_of_deprecated_key entry.1) entries;
      other_bound = list_any (λ entry. tree_asks nodes is_other_bound entry.1) entries;
    }

-- with further trees, each at its place
abbrev pub with_trees : List (ℕ × Tree) → List Tree → List (ℕ × Tree)
with_trees entries [] = entries
with_trees entries (tree ∷ trees) = with_trees (insert_entry nat_cmp entries tree.place tree) trees

-- the trees that are left after a tree's node was looked at, and the kinds of its questions: they are trees
-- of the interner and come before the tree, where those did that were left; and they have the remaining
-- questions
pub record Looked (nodes : List NodeRecord) (tree : Tree) (old new : List (ℕ × Tree)) (asked : Asked)
    : Type 0 where
  pub left : AllByRecursion (IsLeft nodes) old → AllByRecursion (IsLeft nodes) new
  pub below : AllByRecursion (λ entry. entry.0 < tree.place) old →
      AllByRecursion (λ entry. entry.0 < tree.place) new
  pub asked_is : AllByRecursion (IsLeft nodes) old →
      either (asked_by (diagram_of nodes tree)) (asked_left nodes old) ≡ either asked (asked_left nodes new)
