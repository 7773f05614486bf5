-- Equal nodes have one number, so the order by numbers first has the same equality.
use Rattle.std.proofs.Common.{◌≡◌, ◌∙◌, ℕ, true, false, List, [], ◌∷◌, refl, ap, sym, Ordering, Less, Equal}
use Rattle.std.proofs.Common.{Greater, is_eq, is_gt, true≢false, inl, inr}
use Rattle.std.specs.Ordering.{nat_cmp, ordering_then}
use Rattle.std.specs.Cmp.{tied_itself, nat_cmp_total}
use Rattle.std.specs.Cmp.Lexicographic.{slice_cmp}
use Rattle.std.proofs.lemmas.Bool.{cases_Bool}
use Rattle.version_ranges.specs.declared.boundary.Boundary.{Boundary}
use Rattle.version_ranges.specs.declared.boundary.Boundary.TheVariants as boundary
use Rattle.version_ranges.specs.Boundaries.{boundary_cmp}
use Rattle.pep508_diagram.specs.declared.branch.Branch.{Branch}
use Rattle.pep508_diagram.proofs.Places.{not_less, texts_same, equal_from}
use Rattle.pep508_node_hash.specs.Tags.{mixed, text_tag, version_tag}
use Rattle.pep508_node_hash.proofs.Tags.{equal_versions}
use Rattle.pep508_tree.specs.Tree.{Tree}
use Rattle.pep508_tree.specs.Meaning.{NodeRecord}
use Rattle.pep508_tree.specs.Nodes.{node_rank, node_text, node_place, version_branches, text_branches}
use Rattle.pep508_tree.specs.Nodes.{branch_cmp, tree_cmp, node_cmp}
use Rattle.pep508_tree.specs.Tags.{boundary_tag, branches_tag, node_tag, tagged_cmp}
use Rattle.pep508_tree.proofs.Storing.{trees_same, alike_parts}

both_equal : (o p : Ordering) → ordering_then o p ≡ Equal → (o ≡ Equal) × (p ≡ Equal)
both_equal Less p e = absurd (not_less (sym e))
both_equal Equal p e = (refl, e)
both_equal Greater p e = absurd (true≢false (ap is_gt e))

module _ {T : Type 0} {cmp : T → T → Ordering} (tag : T → ℕ) (one : (v w : T) → cmp v w ≡ Equal → tag v ≡ tag w) where
  one_boundary : (a b : Boundary T) → boundary_cmp cmp a b ≡ Equal → boundary_tag tag a ≡ boundary_tag tag b
  one_boundary (boundary.At v) (boundary.At w) e = one v w e
  one_boundary (boundary.JustAbove v) (boundary.JustAbove w) e = one v w e
  one_boundary (boundary.At v) (boundary.JustAbove w) e = absurd (not_less (sym (both_equal (cmp v w) Less e).1))
  one_boundary (boundary.JustAbove v) (boundary.At w) e =
      absurd (true≢false (ap is_gt (both_equal (cmp v w) Greater e).1))

  pub one_branches : (xs ys : List (Branch T Tree)) → slice_cmp (branch_cmp cmp) xs ys ≡ Equal
      → branches_tag tag xs ≡ branches_tag tag ys
  one_branches [] [] e = refl
  one_branches [] (y ∷ ys) e = absurd (not_less (sym e))
  one_branches (x ∷ xs) [] e = absurd (true≢false (ap is_gt e))
  one_branches (x ∷ xs) (y ∷ ys) e =
      let first = (both_equal (branch_cmp cmp x y) (slice_cmp (branch_cmp cmp) xs ys) e).0 in
      let parts = both_equal (boundary_cmp cmp x.boundary y.boundary) (tree_cmp x.child y.child) first in
      let bound = one_boundary x.boundary y.boundary parts.0 in
      let child = trees_same x.child y.child parts.1 in
      λ i. mixed (child i).place (bound i)

abbrev rank_of : List ℕ → ℕ
rank_of [] = 0
rank_of (x ∷ xs) = x

abbrev text_of : List ℕ → List ℕ
text_of [] = []
text_of (x ∷ xs) = xs

pub one_tag : (n m : NodeRecord) → node_cmp n m ≡ Equal → node_tag n ≡ node_tag m
one_tag n m e =
    let a = alike_parts n m e in
    let place = texts_same (node_place n) (node_place m) a.place in
    let rank : node_rank n ≡ node_rank m = ap rank_of place in
    let text : node_text n ≡ node_text m = ap text_of place in
    let versions = one_branches version_tag equal_versions (version_branches n) (version_branches m) a.versions in
    let texts = one_branches text_tag (λ v w same. ap text_tag (texts_same v w same)) (text_branches n) (text_branches m)
    a.texts in
    λ i. mixed
    (mixed (mixed (mixed (mixed (text_tag (text i)) (rank i)) (a.first i).place) (a.second i).place) (versions i))
    (texts i)

no_equal : (o p : Ordering) → is_eq p ≡ false → is_eq (ordering_then o p) ≡ false
no_equal Less p e = refl
no_equal Equal p e = e
no_equal Greater p e = refl

both_are : (o p : Ordering) → o ≡ Equal → p ≡ Equal → is_eq (ordering_then o p) ≡ true
both_are o p e f = ap (λ x. is_eq (ordering_then x p)) e ∙ ap is_eq f

-- the order by numbers first ties where that of nodes does
pub tagged_ties : (n m : NodeRecord) → is_eq (tagged_cmp n m) ≡ is_eq (node_cmp n m)
unfolding tagged_cmp
tagged_ties n m = elim (cases_Bool (is_eq (node_cmp n m))) [
  | inl same ↦
      let equal = equal_from (node_cmp n m) same in
      both_are (nat_cmp (node_tag n) (node_tag m)) (node_cmp n m)
      (ap (nat_cmp (node_tag n)) (sym (one_tag n m equal)) ∙ tied_itself nat_cmp_total (node_tag n)) equal
      ∙ sym same
  | inr other ↦ no_equal (nat_cmp (node_tag n) (node_tag m)) (node_cmp n m) other ∙ sym other
]
