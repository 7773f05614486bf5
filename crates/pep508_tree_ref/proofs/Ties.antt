-- Pairs of trees that are known to tie.
use Rattle.std.proofs.Common.{◌≡◌, ◌||◌, Bool, true, false, List, [], ◌∷◌, refl, sym, ap₂, subst, ◌∙◌}
use Rattle.std.proofs.Common.{true≢false, Ordering}
use Rattle.std.specs.Prelude.{Result, Ok, Err, OnOk, OnErr}
use Rattle.std.specs.declared.cmp.Ordering.TheVariants.{Less, Equal, Greater}
use Rattle.std.specs.BTreeMap.{is_at}
use Rattle.std.specs.BTreeSet.{insert_key}
use Rattle.std.specs.List.{AllByRecursion, list_any}
use Rattle.std.specs.Ordering.{match_ordering, ordering_then, nat_cmp, bool_cmp, is_eq}
use Rattle.version_ranges.specs.HashingLaws.{then_equal}
use Rattle.pep508_tree.proofs.Storing.{trees_same}
use Rattle.pep508_tree.specs.Meaning.{NodeRecord, diagram_of}
use Rattle.pep508_tree.specs.Tree.{Tree}
use Rattle.pep508_tree_ref.specs.TreeOrder.{diagram_cmp}
use Rattle.pep508_tree_ref.specs.Ties.{Name, named, tree_named, AreTied}

-- the order in which the set keeps pairs
abbrev pub pair_cmp : Name × Name → Name × Name → Ordering
pair_cmp a b =
    ordering_then (ordering_then (nat_cmp a.0.0 b.0.0) (bool_cmp a.0.1 b.0.1))
    (ordering_then (nat_cmp a.1.0 b.1.0) (bool_cmp a.1.1 b.1.1))

pub is_equal : (o : Ordering) → is_eq o ≡ true → o ≡ Equal
is_equal Less e = absurd (true≢false (sym e))
is_equal Equal e = refl
is_equal Greater e = absurd (true≢false (sym e))

module _ (nodes others : List NodeRecord) where
  abbrev pub Ties : Tree → Tree → Type 0
  Ties tree other = diagram_cmp (diagram_of nodes tree) (diagram_of others other) ≡ Equal

  tie_at : (tree other : Tree) (names : Name × Name) →
      pair_cmp (named tree, named other) names ≡ Equal → AreTied nodes others names → Ties tree other
  tie_at tree other names e tied =
      let parts = then_equal _ _ e in
      ap₂ (λ a b. diagram_cmp (diagram_of nodes a) (diagram_of others b))
      (trees_same tree (tree_named names.0) parts.0) (trees_same other (tree_named names.1) parts.1)
      ∙ tied

  tie_by : (tree other : Tree) (names : Name × Name) (here later : Bool) →
      is_eq (pair_cmp (named tree, named other) names) ≡ here → (here || later) ≡ true →
      AreTied nodes others names → (later ≡ true → Ties tree other) → Ties tree other
  tie_by tree other names true later is e tied rest = tie_at tree other names (is_equal _ is) tied
  tie_by tree other names false later is e tied rest = rest e

  pub tie_among : (tree other : Tree) (known : List (Name × Name)) →
      list_any (is_at (pair_cmp (named tree, named other))) known ≡ true →
      AllByRecursion (AreTied nodes others) known → Ties tree other
  tie_among tree other [] e tied = absurd (true≢false (sym e))
  tie_among tree other (names ∷ known) e tied =
      tie_by tree other names (is_eq (pair_cmp (named tree, named other) names))
      (list_any (is_at (pair_cmp (named tree, named other))) known) refl e tied.0
      (λ later. tie_among tree other known later tied.1)

-- ---- what is added

module _ {K : Type 0} (cmp : K → K → Ordering) (P : K → Type 0) where
  with_by : (o : Ordering) (k x : K) (xs : List K) → P k → P x → AllByRecursion P xs →
      AllByRecursion P (insert_key cmp xs k) →
      AllByRecursion P (match_ordering o (k ∷ x ∷ xs) (x ∷ xs) (x ∷ insert_key cmp xs k))
  with_by Less k x xs one p all later = (one, (p, all))
  with_by Equal k x xs one p all later = (p, all)
  with_by Greater k x xs one p all later = (p, later)

  pub all_with : (xs : List K) (k : K) → P k → AllByRecursion P xs → AllByRecursion P (insert_key cmp xs k)
  all_with [] k one all = (one, tt)
  all_with (x ∷ xs) k one all = with_by (cmp k x) k x xs one all.0 all.1 (all_with xs k one all.1)

module _ (nodes others : List NodeRecord) where
  pub tied_with : {E : Type 0} (result : Result Bool E) (old new : List (Name × Name)) (tree other : Tree) →
      OnOk result (new ≡ insert_key pair_cmp old (named tree, named other)) → OnErr result (new ≡ old) →
      AllByRecursion (AreTied nodes others) old →
      Ties nodes others tree other → AllByRecursion (AreTied nodes others) new
  tied_with (Ok added) old new tree other e f all tie =
      subst (AllByRecursion (AreTied nodes others)) (sym e)
      (all_with pair_cmp (AreTied nodes others) old (named tree, named other) tie all)
  tied_with (Err error) old new tree other e f all tie =
      subst (AllByRecursion (AreTied nodes others)) (sym f) all
