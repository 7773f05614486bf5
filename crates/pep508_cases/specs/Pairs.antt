-- Pairs of places in two lists of trees.
use Rattle.std.specs.Prelude.{◌≡◌, ℕ, ◌<◌, ◌==◌, ◌&&◌, Bool, false, List, length, get_or}
use Rattle.std.specs.List.{list_any, AllByRecursion}
use Rattle.std.specs.List.Sorted.{IsStrictlySortedBy}
use Rattle.std.specs.Ordering.{nat_cmp, ordering_then}
use Rattle.std.specs.declared.cmp.Ordering.{Ordering}
use Rattle.std.specs.BTreeMap.{is_at}
use Rattle.pep508_tree.specs.Tree.{Tree, never}
use Rattle.pep508_tree.specs.Meaning.{NodeRecord}
use Rattle.pep508_tree.specs.Disjoint.{AreDisjoint}
use Rattle.pep508_cases.specs.Cases.{Marks}
use Rattle.pep508_cases.specs.Sets.{places_of}
use Rattle.pep508_cases.specs.Marked.{set_at}

-- by the first place, and then by the second
abbrev pub pair_cmp : ℕ × ℕ → ℕ × ℕ → Ordering
pair_cmp a b = ordering_then (nat_cmp a.0 b.0) (nat_cmp a.1 b.1)

abbrev pub is_listed : List (ℕ × ℕ) → ℕ × ℕ → Bool
is_listed pairs pair = list_any (is_at (pair_cmp pair)) pairs

abbrev pub has_place : List ℕ → ℕ → Bool
has_place places place = list_any (λ other. other == place) places

-- a pair of members of the sets at two leaves
abbrev pub is_of_leaves : List Marks → List Marks → ℕ × ℕ → ℕ × ℕ → Bool
is_of_leaves sets others pair leaves =
    has_place (places_of (set_at sets leaves.0)) pair.0
    && has_place (places_of (set_at others leaves.1)) pair.1

-- the tree at a place, or the one that never holds
abbrev pub tree_or_never : List Tree → ℕ → Tree
tree_or_never trees place = get_or trees place never

-- pairs of places in two lists, each once and in order; the trees of each other pair never hold together
pub record AreMeeting (nodes : List NodeRecord) (left right : List Tree) (pairs : List (ℕ × ℕ)) : Type 0 where
  pub rising : IsStrictlySortedBy pair_cmp pairs
  pub within : AllByRecursion (λ pair. (pair.0 < length left) × (pair.1 < length right)) pairs
  pub others : (pair : ℕ × ℕ) → is_listed pairs pair ≡ false →
      AreDisjoint nodes (tree_or_never left pair.0) (tree_or_never right pair.1)
