-- Pairs of trees that are left to look at, as the rising list of them.
use Rattle.std.specs.Prelude.{◌≡◌, ◌↔◌, List, [], ◌∷◌}
use Rattle.std.specs.List.{AllByRecursion}
use Rattle.std.specs.BTreeSet.{insert_key}
use Rattle.std.specs.declared.cmp.Ordering.TheVariants.{Less}
use Rattle.pep508_tree.specs.Tree.{Tree}
use Rattle.pep508_tree.specs.Meaning.{NodeRecord, IsTree}
use Rattle.pep508_tree.specs.Disjoint.{AreDisjoint}
use Rattle.pep508_tree.specs.declared.tree_pair.TreePair.{TreePair}
use Rattle.pep508_tree.specs.PairOrder.{pair_cmp}

-- the two trees of a pair are trees of the interner
abbrev pub IsAsked : List NodeRecord → TreePair → Type 0
IsAsked nodes asked = IsTree nodes asked.first × IsTree nodes asked.second

-- they never hold together
abbrev pub IsApart : List NodeRecord → TreePair → Type 0
IsApart nodes asked = AreDisjoint nodes asked.first asked.second

abbrev pub asked_of : Tree × Tree → TreePair
asked_of pair = record { first = pair.0; second = pair.1 }

-- the list with further pairs at their places
abbrev pub with_pairs : List TreePair → List (Tree × Tree) → List TreePair
with_pairs left [] = left
with_pairs left (pair ∷ pairs) = with_pairs (insert_key pair_cmp left (asked_of pair)) pairs

-- the pairs that are left after one was removed and the pairs of its children were added: they are the
-- interner's, they come before it where those did that were left, and they are disjoint exactly where these
-- and the pair are
pub record Replaced (nodes : List NodeRecord) (asked : TreePair) (old new : List TreePair) : Type 0 where
  pub made : AllByRecursion (IsAsked nodes) old → AllByRecursion (IsAsked nodes) new
  pub apart : (IsApart nodes asked × AllByRecursion (IsApart nodes) old) ↔ AllByRecursion (IsApart nodes) new
  pub below : AllByRecursion (λ other. pair_cmp other asked ≡ Less) old →
      AllByRecursion (λ other. pair_cmp other asked ≡ Less) new
