-- Pairs that are put at their places in a list.
use Rattle.std.proofs.Common.{◌≡◌, List, [], ◌∷◌, ◌++◌, refl, sym, subst, Ordering}
use Rattle.std.specs.declared.cmp.Ordering.TheVariants.{Less, Equal, Greater}
use Rattle.std.specs.List.{AllByRecursion}
use Rattle.std.specs.Ordering.{match_ordering}
use Rattle.std.specs.BTreeSet.{insert_key}
use Rattle.pep508_tree.specs.Tree.{Tree}
use Rattle.pep508_tree.specs.declared.tree_pair.TreePair.{TreePair}
use Rattle.pep508_tree.specs.PairOrder.{pair_cmp}
use Rattle.pep508_disjointness.specs.Left.{asked_of, with_pairs}
use Rattle.pep508_disjointness.proofs.Ranks.{same_asked}

module _ (P : TreePair → Type 0) where
  put_by : (o : Ordering) (k x : TreePair) (xs : List TreePair) → P k → P x → AllByRecursion P xs →
      AllByRecursion P (insert_key pair_cmp xs k) →
      AllByRecursion P (match_ordering o (k ∷ x ∷ xs) (x ∷ xs) (x ∷ insert_key pair_cmp xs k))
  put_by Less k x xs one p all later = (one, (p, all))
  put_by Equal k x xs one p all later = (p, all)
  put_by Greater k x xs one p all later = (p, later)

  put_all : (xs : List TreePair) (k : TreePair) → P k → AllByRecursion P xs →
      AllByRecursion P (insert_key pair_cmp xs k)
  put_all [] k one all = (one, tt)
  put_all (x ∷ xs) k one all = put_by (pair_cmp k x) k x xs one all.0 all.1 (put_all xs k one all.1)

  from_by : (o : Ordering) (k x : TreePair) (xs : List TreePair) → pair_cmp k x ≡ o →
      (AllByRecursion P (insert_key pair_cmp xs k) → P k × AllByRecursion P xs) →
      AllByRecursion P (match_ordering o (k ∷ x ∷ xs) (x ∷ xs) (x ∷ insert_key pair_cmp xs k)) →
      P k × AllByRecursion P (x ∷ xs)
  from_by Less k x xs is later all = all
  from_by Equal k x xs is later all = (subst P (sym (same_asked k x is)) all.0, all)
  from_by Greater k x xs is later all = let rest = later all.1 in (rest.0, (all.0, rest.1))

  from_put : (xs : List TreePair) (k : TreePair) → AllByRecursion P (insert_key pair_cmp xs k) →
      P k × AllByRecursion P xs
  from_put [] k all = all
  from_put (x ∷ xs) k all = from_by (pair_cmp k x) k x xs refl (from_put xs k) all

  pub with_all : (left : List TreePair) (pairs : List (Tree × Tree)) → AllByRecursion P left →
      AllByRecursion (λ pair. P (asked_of pair)) pairs → AllByRecursion P (with_pairs left pairs)
  with_all left [] all each = all
  with_all left (pair ∷ pairs) all each =
      with_all (insert_key pair_cmp left (asked_of pair)) pairs (put_all left (asked_of pair) each.0 all) each.1

  pub from_with : (left : List TreePair) (pairs : List (Tree × Tree)) → AllByRecursion P (with_pairs left pairs) →
      AllByRecursion P left × AllByRecursion (λ pair. P (asked_of pair)) pairs
  from_with left [] all = (all, tt)
  from_with left (pair ∷ pairs) all =
      let later = from_with (insert_key pair_cmp left (asked_of pair)) pairs all in
      let here = from_put left (asked_of pair) later.0 in (here.1, (here.0, later.1))

  -- the last of a list
  pub before_last : (xs : List TreePair) (k : TreePair) → AllByRecursion P (xs ++ k ∷ []) → AllByRecursion P xs × P k
  before_last [] k all = (tt, all.0)
  before_last (x ∷ xs) k all = let later = before_last xs k all.1 in ((all.0, later.0), later.1)

  pub to_last : (xs : List TreePair) (k : TreePair) → AllByRecursion P xs → P k → AllByRecursion P (xs ++ k ∷ [])
  to_last [] k all one = (one, tt)
  to_last (x ∷ xs) k all one = (all.0, to_last xs k all.1 one)

pub all_to : {C : Type 0} {P Q : C → Type 0} → ((x : C) → P x → Q x) → (xs : List C) → AllByRecursion P xs →
    AllByRecursion Q xs
all_to f [] all = tt
all_to f (x ∷ xs) all = (f x all.0, all_to f xs all.1)
