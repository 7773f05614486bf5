-- One pair after another, the last first.
use Rattle.std.proofs.Common.{◌≡◌, ◌↔◌, ◌<◌, List, [], ◌∷◌, ◌++◌, ◌≤◌, suc, length, ap, sym, subst, arith}
use Rattle.std.specs.declared.cmp.Ordering.TheVariants.{Less}
use Rattle.std.specs.List.{AllByRecursion, All}
use Rattle.pep508_tree.specs.Tree.{Tree}
use Rattle.pep508_tree.specs.Meaning.{NodeRecord}
use Rattle.pep508_tree.specs.Disjoint.{AreDisjoint}
use Rattle.pep508_tree.specs.declared.tree_pair.TreePair.{TreePair}
use Rattle.pep508_tree.specs.PairOrder.{pair_cmp}
use Rattle.pep508_disjointness.specs.Pairs.{ArePaired}
use Rattle.pep508_disjointness.specs.Left.{IsAsked, IsApart, Replaced, with_pairs}
use Rattle.pep508_disjointness.proofs.Ranks.{less_places, top, top_last, top_below}
use Rattle.pep508_disjointness.proofs.Putting.{with_all, from_with, before_last, to_last, all_to}

-- a pair that is disjoint, in whose place nothing is put
pub replaced_by_none : (nodes : List NodeRecord) (asked : TreePair) (left : List TreePair) → IsApart nodes asked →
    Replaced nodes asked left left
replaced_by_none nodes asked left apart = record {
  made = λ all. all;
  apart = (λ both. both.1, λ all. (apart, all));
  below = λ all. all;
}

-- a pair in whose place stands what stands in it
pub replaced_by_pairs : (nodes : List NodeRecord) (asked : TreePair) (old new : List TreePair) (pairs : List (Tree × Tree)) →
    ArePaired nodes asked.first asked.second pairs → new ≡ with_pairs old pairs → Replaced nodes asked old new
replaced_by_pairs nodes asked old new pairs paired e = subst (Replaced nodes asked old) (sym e) (record {
  made = λ all. with_all (IsAsked nodes) old pairs all paired.made;
  apart = (
    λ both. with_all (IsApart nodes) old pairs both.1 (paired.apart.0 both.0),
    λ all. let parts = from_with (IsApart nodes) old pairs all in (paired.apart.1 parts.1, parts.0),
  );
  below = λ all.
      with_all (λ other. pair_cmp other asked ≡ Less) old pairs all
      (all_to (λ pair less. less_places (record { first = pair.0; second = pair.1 }) asked less) pairs
      paired.falls);
})

-- what is left to look at of two trees: they are disjoint exactly where all that is left is
pub record AreLeft (nodes : List NodeRecord) (a b : Tree) (left : List TreePair) : Type 0 where
  pub made : AllByRecursion (IsAsked nodes) left
  pub apart : AreDisjoint nodes a b ↔ AllByRecursion (IsApart nodes) left

module _ (nodes : List NodeRecord) (a b : Tree) (whole left : List TreePair) (asked : TreePair)
    (last : whole ≡ left ++ asked ∷ []) (are : AreLeft nodes a b whole) where
  made_parts : AllByRecursion (IsAsked nodes) left × IsAsked nodes asked
  made_parts = before_last (IsAsked nodes) left asked (subst (AllByRecursion (IsAsked nodes)) last are.made)

  pub last_made : IsAsked nodes asked
  last_made = made_parts.1

  pub last_apart : AreDisjoint nodes a b → IsApart nodes asked
  last_apart d =
      (before_last (IsApart nodes) left asked (subst (AllByRecursion (IsApart nodes)) last (are.apart.0 d))).1

  pub left_on : (new : List TreePair) → Replaced nodes asked left new → AreLeft nodes a b new
  left_on new replaced = record {
    made = replaced.made made_parts.0;
    apart = (
      λ d.
          let parts = before_last (IsApart nodes) left asked
          (subst (AllByRecursion (IsApart nodes)) last (are.apart.0 d)) in
          replaced.apart.0 (parts.1, parts.0),
      λ all.
          let parts = replaced.apart.1 all in
          are.apart.1 (subst (AllByRecursion (IsApart nodes)) (sym last)
          (to_last (IsApart nodes) left asked parts.1 parts.0)),
    );
  }

  pub left_falls : AllByRecursion (λ other. pair_cmp other asked ≡ Less) left → (new : List TreePair) →
      Replaced nodes asked left new → top (length nodes) new < top (length nodes) whole
  left_falls below new replaced =
      let inside = all_to {Q = λ other. other.first.place ≤ length nodes} (λ other made. made.0) new
      (replaced.made made_parts.0) in
      let less = top_below (length nodes) new asked inside (replaced.below below) in
      let end = top_last (length nodes) left asked in
      let is = ap (top (length nodes)) last in
      omega (arith, less, end, is)

pub all_by_index : (P : TreePair → Type 0) (xs : List TreePair) → All P xs → AllByRecursion P xs
all_by_index P [] all = tt
all_by_index P (x ∷ xs) all = (
  all 0 x (omega arith),
  all_by_index P xs (λ k d inside. all (suc k) d (omega (arith, inside))),
)
