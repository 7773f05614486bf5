-- Plain trees that wait for the results of their nodes' children.
use Rattle.std.specs.Prelude.{◌≡◌, ℕ, ◌<◌, Bool, List, None, MatchOption, length, take}
use Rattle.std.specs.Borrow.{Bor}
use Rattle.std.specs.BTreeMap.{BTreeMap, get}
use Rattle.std.specs.Ordering.{nat_cmp}
use Rattle.pep508_simplification.specs.declared.extras_walk.Pending.{Pending}
use Rattle.pep508_tree.specs.Tree.{Tree}
use Rattle.pep508_tree.specs.Meaning.{NodeRecord, IsTree}
use Rattle.pep508_tree.specs.Conjunctions.{Meet}
use Rattle.pep508_simplification.specs.Parts.{record_of, children_of}
use Rattle.pep508_simplification.specs.Named.{IsNamed, IsAsked, plain}

-- a plain tree below a place of which nothing is known
pub record IsUnknown (nodes : List NodeRecord) (known : BTreeMap ℕ Tree) (place : ℕ) (tree : Tree)
    : Type 0 where
  pub made : IsTree nodes tree
  pub plain_is : tree ≡ plain tree.place
  pub absent : get nat_cmp known tree.place ≡ None
  pub falls : tree.place < place

-- a waiting tree has its node's children, and the results of the first of them
pub record IsPending (returns : Bor (List ℕ) → Bool → Type 0) (nodes : List NodeRecord) (pending : Pending)
    : Type 0 where
  pub made : IsTree nodes pending.tree
  pub plain_is : pending.tree ≡ plain pending.tree.place
  pub asked : MatchOption (record_of pending.root) (pending.tree.place ≡ 0)
      (IsAsked returns nodes pending.tree)
  pub children_are : pending.children.items ≡ children_of (record_of pending.root)
  pub met : Meet (IsNamed returns nodes nodes) (take (length pending.trees.items) pending.children.items)
      pending.trees.items
