-- A walk over trees that wait, of whose nodes old names are told.
use Rattle.std.proofs.Common.{◌≡◌, ℕ, zero, suc, ◌+◌, ◌<◌, ◌≤◌, List, [], ◌∷◌, ◌++◌, drop, reverse}
use Rattle.std.proofs.Common.{refl, sym, ap, subst, ◌∙◌, append_assoc, append-nil, arith, Option, Some, None}
use Rattle.std.specs.Prelude.{IfSome}
use Rattle.std.proofs.lemmas.List.{reverse-append}
use Rattle.std.specs.List.{AllByRecursion, FoldsTo, flat_map, slice_get}
use Rattle.pep508_marker.specs.declared.warnings.MarkerWarningKind.{MarkerWarningKind}
use Rattle.pep508_tree.specs.Tree.{Tree}
use Rattle.pep508_tree.specs.Meaning.{NodeRecord, diagram_of, IsTree}
use Rattle.pep508_tree.specs.Nodes.{AreSound}
use Rattle.pep508_tree.specs.Roots.{root_of, IsRoot}
use Rattle.pep508_tree.proofs.Conjoining.{children_list}
use Rattle.pep508_tree.proofs.NodeChildren.{both_children}
use Rattle.pep508_evaluation.specs.Edges.{root_names}
use Rattle.pep508_evaluation.specs.Steps.{children_of}
use Rattle.pep508_evaluation.specs.Warned.{old_names}
use Rattle.pep508_evaluation.proofs.CanHold.{known_root}
use Rattle.pep508_evaluation.proofs.Rooted.{names_root}
use Rattle.pep508_evaluation.proofs.Warning.{folds_append}

-- ---- children that are put behind others, the last one first

some_one : {A : Type 0} (x y : A) → Some x ≡ Some y → x ≡ y
some_one x y e = cc

drop_at : (cs : List Tree) (i : ℕ) (c : Tree) → Some c ≡ slice_get cs i → drop i cs ≡ c ∷ drop (suc i) cs
drop_at [] i c e = absurd (cc)
drop_at (x ∷ xs) zero c e = ap (λ y. y ∷ xs) (some_one x c (sym e))
drop_at (x ∷ xs) (suc i) c e = drop_at xs i c e

pub one_before : (cs old before after : List Tree) (n i : ℕ) (c : Tree) → n ≡ suc i → Some c ≡ slice_get cs i →
    before ≡ old ++ reverse (drop n cs) → after ≡ before ++ c ∷ [] → after ≡ old ++ reverse (drop i cs)
one_before cs old before after n i c next at is put =
    put ∙ ap (λ xs. xs ++ c ∷ []) (is ∙ ap (λ k. old ++ reverse (drop k cs)) next)
    ∙ append_assoc old (reverse (drop (suc i) cs)) (c ∷ [])
    ∙ ap (λ xs. old ++ xs) (sym (reverse-append (c ∷ []) (drop (suc i) cs)) ∙ ap reverse (sym (drop_at cs i c at)))

-- ---- lists

module _ {C : Type 0} (P : C → Type 0) where
  all_append : (xs ys : List C) → AllByRecursion P xs → AllByRecursion P ys → AllByRecursion P (xs ++ ys)
  all_append [] ys p q = q
  all_append (x ∷ xs) ys p q = (p.0, all_append xs ys p.1 q)

  all_before : (xs : List C) (x : C) → AllByRecursion P (xs ++ x ∷ []) → AllByRecursion P xs × P x
  all_before [] x all = (tt, all.0)
  all_before (y ∷ xs) x all = let later = all_before xs x all.1 in ((all.0, later.0), later.1)

  all_reverse : (xs : List C) → AllByRecursion P xs → AllByRecursion P (reverse xs)
  all_reverse [] all = tt
  all_reverse (x ∷ xs) all =
      subst (AllByRecursion P) (sym (reverse-append (x ∷ []) xs))
      (all_append (reverse xs) (x ∷ []) (all_reverse xs all.1) (all.0, tt))

module _ (nodes : List NodeRecord) where
  abbrev below : Tree → List Tree
  below tree = children_of (root_of nodes tree)

  abbrev names : Tree → List MarkerWarningKind
  names tree = old_names None (diagram_of nodes tree)

  -- ---- the names in what waits, those of the last tree first

  abbrev pub names_left : List Tree → List MarkerWarningKind
  names_left [] = []
  names_left (tree ∷ trees) = names_left trees ++ names tree

  left_append : (trees more : List Tree) → names_left (trees ++ more) ≡ names_left more ++ names_left trees
  left_append [] more = sym (append-nil (names_left more))
  left_append (tree ∷ trees) more =
      ap (λ front. front ++ names tree) (left_append trees more)
      ∙ append_assoc (names_left more) (names_left trees) (names tree)

  left_reverse : (trees : List Tree) → names_left (reverse trees) ≡ flat_map names trees
  left_reverse [] = refl
  left_reverse (tree ∷ trees) =
      ap names_left (reverse-append (tree ∷ []) trees) ∙ left_append (reverse trees) (tree ∷ [])
      ∙ ap (λ later. names tree ++ later) (left_reverse trees)

  -- ---- the work that is left: how many steps paths have

  abbrev total : (Tree → ℕ) → List Tree → ℕ
  total f [] = 0
  total f (tree ∷ trees) = f tree + total f trees

  size : ℕ → Tree → ℕ
  size zero tree = 1
  size (suc n) tree = suc (total (λ t. size n t) (below tree))

  total_most : (f g : Tree → ℕ) → ((t : Tree) → f t ≤ g t) → (trees : List Tree) → total f trees ≤ total g trees
  total_most f g most [] = omega arith
  total_most f g most (tree ∷ trees) = omega (arith, most tree, total_most f g most trees)

  size_more : (m n : ℕ) (tree : Tree) → m ≤ n → size m tree ≤ size n tree
  unfolding size
  size_more zero zero tree less = omega arith
  size_more zero (suc n) tree less = omega arith
  size_more (suc m) zero tree less = absurd (omega arith)
  size_more (suc m) (suc n) tree less =
      let within : m ≤ n = omega arith in
      omega (arith, total_most (λ t. size m t) (λ t. size n t) (λ t. size_more m n t within) (below tree))

  size_some : (n : ℕ) (tree : Tree) → 0 < size n tree
  unfolding size
  size_some zero tree = omega arith
  size_some (suc n) tree = omega arith

  abbrev weight : Tree → ℕ
  weight tree = size tree.place tree

  below_most : (p : ℕ) (trees : List Tree) → AllByRecursion (λ t. IsTree nodes t × (t.place < suc p)) trees →
      total weight trees ≤ total (λ t. size p t) trees
  below_most p [] all = omega arith
  below_most p (tree ∷ trees) all =
      let within : tree.place ≤ p = omega (arith, all.0.1) in
      omega (arith, size_more tree.place p tree within, below_most p trees all.1)

  children_weigh : (p : ℕ) (tree : Tree) → AllByRecursion (λ t. IsTree nodes t × (t.place < p)) (below tree) →
      total weight (below tree) < size p tree
  unfolding size
  children_weigh zero tree all = omega (arith, none (below tree) all)
    where
      none : (trees : List Tree) → AllByRecursion (λ t. IsTree nodes t × (t.place < 0)) trees → total weight trees ≡ 0
      none [] all = refl
      none (tree ∷ trees) all = absurd (omega (arith, all.0.1))
  children_weigh (suc p) tree all = omega (arith, below_most p (below tree) all)

  pub work : List Tree → ℕ
  work trees = total weight trees

  total_append : (xs ys : List Tree) → total weight (xs ++ ys) ≡ total weight xs + total weight ys
  total_append [] ys = omega arith
  total_append (x ∷ xs) ys = omega (arith, total_append xs ys)

  total_reverse : (xs : List Tree) → total weight (reverse xs) ≡ total weight xs
  total_reverse [] = refl
  total_reverse (x ∷ xs) =
      let cut = ap (total weight) (reverse-append (x ∷ []) xs) ∙ total_append (reverse xs) (x ∷ []) in
      omega (arith, cut, total_reverse xs)

  -- ---- where the walk stands: some names were told, and those in what waits are left

  pub record IsTold {P : Type 0} (R : P → MarkerWarningKind → P → Type 0) (tree : Tree) (start now : P)
      (waiting : List Tree) : Type 0 where
    pub made : AllByRecursion (IsTree nodes) waiting
    pub kinds : List MarkerWarningKind
    pub told : FoldsTo R start kinds now
    pub left : names tree ≡ kinds ++ names_left waiting

  module _ {P : Type 0} (R : P → MarkerWarningKind → P → Type 0) (tree : Tree) (start now : P) where
    pub told_none : (waiting : List Tree) → start ≡ now → IsTree nodes tree → waiting ≡ tree ∷ [] →
        IsTold R tree start now waiting
    told_none waiting same made one =
        subst (IsTold R tree start now) (sym one) (record {
          made = (made, tt);
          kinds = [];
          told = same;
          left = refl;
        })

    module _ (sound : AreSound nodes) (waiting rest : List Tree) (next : Tree)
        (t : IsTold R tree start now waiting) (taken : waiting ≡ rest ++ next ∷ []) where
      made_before : AllByRecursion (IsTree nodes) rest × IsTree nodes next
      made_before = all_before (IsTree nodes) rest next (subst (AllByRecursion (IsTree nodes)) taken t.made)

      pub next_made : IsTree nodes next
      next_made = made_before.1

      below_made : AllByRecursion (λ c. IsTree nodes c × (c.place < next.place)) (below next)
      below_made = at (root_of nodes next) (known_root nodes sound next next_made)
        where
          at : (root : Option NodeRecord) → IfSome root (IsRoot nodes next) →
              AllByRecursion (λ c. IsTree nodes c × (c.place < next.place)) (children_of root)
          at None known = tt
          at (Some n) known =
              children_list (λ (c : Tree). IsTree nodes c × (c.place < next.place)) n
              (both_children (IsTree nodes) (λ (c : Tree). c.place < next.place) n known.made known.falls)

      below_are : AllByRecursion (IsTree nodes) (below next)
      below_are = firsts (below next) below_made
        where
          firsts : (cs : List Tree) → AllByRecursion (λ c. IsTree nodes c × (c.place < next.place)) cs →
              AllByRecursion (IsTree nodes) cs
          firsts [] all = tt
          firsts (c ∷ cs) all = (all.0.0, firsts cs all.1)

      module _ (after : List Tree) (put : after ≡ rest ++ reverse (below next)) where
        pub told_more : (new : P) → FoldsTo R now (root_names (root_of nodes next)) new →
            IsTold R tree start new after
        told_more new folds =
            let here = root_names (root_of nodes next) in
            let cs = flat_map names (below next) in record {
              made = subst (AllByRecursion (IsTree nodes)) (sym put)
                  (all_append (IsTree nodes) rest (reverse (below next)) made_before.0
                  (all_reverse (IsTree nodes) (below next) below_are));
              kinds = t.kinds ++ here;
              told = folds_append R start t.kinds now here new t.told folds;
              left =
                  t.left ∙ ap (λ ts. t.kinds ++ names_left ts) taken
                  ∙ ap (λ ks. t.kinds ++ ks) (left_append rest (next ∷ [])
                  ∙ ap (λ ks. ks ++ names_left rest)
                  (names_root nodes sound next next_made (root_of nodes next) refl (known_root nodes sound next next_made))
                  ∙ append_assoc here cs (names_left rest))
                  ∙ sym (append_assoc t.kinds here (cs ++ names_left rest))
                  ∙ ap (λ ks. (t.kinds ++ here) ++ ks)
                  (ap (λ ks. ks ++ names_left rest) (sym (left_reverse (below next)))
                  ∙ sym (left_append rest (reverse (below next))) ∙ ap names_left (sym put));
            }

        pub work_less : work after < work waiting
        unfolding work
        work_less =
            omega (
              arith,
              ap (total weight) put,
              total_append rest (reverse (below next)),
              total_reverse (below next),
              children_weigh next.place next below_made,
              ap (total weight) taken,
              total_append rest (next ∷ []),
            )
