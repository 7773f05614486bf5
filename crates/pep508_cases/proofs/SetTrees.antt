-- Trees of sets, put together from trees of leaves, and cases made of them.
use Rattle.std.proofs.Common.{◌≡◌, ◌≢◌, inl, inr, ℕ, zero, suc, ◌+◌, ◌<◌, ◌≤◌, ◌||◌, ◌&&◌, ◌==◌, Bool, true, false, not, cond, List, []}
use Rattle.std.proofs.Common.{◌∷◌, Option, Some, None, IfSome, length, get_or, refl, ap, sym, subst, ◌∙◌, arith, true≢false}
use Rattle.std.proofs.Common.{Less, is_eq, add-one}
use Rattle.std.proofs.lemmas.Bool.{cases_Bool, cases_lt}
use Rattle.std.proofs.lemmas.Bool.Decides.{nat_tests}
use Rattle.std.specs.BTreeMap.{BTreeMap, get, is_at, IsOrdered, Updates}
use Rattle.std.specs.List.{list_any, AllByRecursion}
use Rattle.std.specs.List.Sorted.{IsStrictlySortedBy}
use Rattle.std.specs.Map.{lookup}
use Rattle.pep508_diagram.specs.Question.{Valuation}
use Rattle.pep508_tree.specs.Tree.{Tree, never}
use Rattle.pep508_tree.specs.Meaning.{NodeRecord, IsTree, Extends, holds}
use Rattle.pep508_tree.specs.Truths.{IsTreeOf}
use Rattle.pep508_tree.proofs.Conjoining.{tree_kept}
use Rattle.pep508_tree.proofs.Diagrams.{holds_kept}
use Rattle.pep508_tree.proofs.Roots.{constant_is}
use Rattle.pep508_leaf_diagram.specs.Pairing.{leaf_in}
use Rattle.pep508_leaf_diagram.specs.Trees.{AreLeafTrees, leaf_is}
use Rattle.pep508_leaf_diagram.proofs.Leaves.{leaf_is_below}
use Rattle.pep508_cases.specs.declared.set_diagram.Marked.{Marked}
use Rattle.pep508_cases.specs.Cases.{Marks, same_marks, marks_cmp, marks_of, IsCase, AreCases, sets_of}
use Rattle.pep508_cases.specs.Marked.{set_at, IsMarked}
use Rattle.pep508_cases.specs.Collecting.{or_never, tree_at, AllMade, reached_by, AreFound}
use Rattle.pep508_cases.proofs.Marks.{marks_is}

-- ---- the same sets

pub same_cmp : (a b : Marks) → is_eq (marks_cmp a b) ≡ same_marks b a
same_cmp [] [] = refl
same_cmp [] (y ∷ b) = refl
same_cmp (x ∷ a) [] = refl
same_cmp (true ∷ a) (true ∷ b) = same_cmp a b
same_cmp (true ∷ a) (false ∷ b) = refl
same_cmp (false ∷ a) (true ∷ b) = refl
same_cmp (false ∷ a) (false ∷ b) = same_cmp a b

pub same_turned : (a b : Marks) → same_marks a b ≡ same_marks b a
same_turned [] [] = refl
same_turned [] (y ∷ b) = refl
same_turned (x ∷ a) [] = refl
same_turned (true ∷ a) (true ∷ b) = same_turned a b
same_turned (true ∷ a) (false ∷ b) = refl
same_turned (false ∷ a) (true ∷ b) = refl
same_turned (false ∷ a) (false ∷ b) = same_turned a b

pub same_itself : (a : Marks) → same_marks a a ≡ true
same_itself [] = refl
same_itself (true ∷ a) = same_itself a
same_itself (false ∷ a) = same_itself a

or_false : (b : Bool) → (b || false) ≡ b
or_false true = refl
or_false false = refl

and_false : (b : Bool) → (b && false) ≡ false
and_false true = refl
and_false false = refl

or_true : (b : Bool) → (b || true) ≡ true
or_true true = refl
or_true false = refl

pub neither : (a b : Bool) → not (not a && not b) ≡ (a || b)
neither true b = refl
neither false true = refl
neither false false = refl

-- ---- the tree of a set

pub never_holds : (nodes : List NodeRecord) (v : Valuation) → holds nodes never v ≡ false
never_holds nodes v = (constant_is nodes never refl).holds_is v

made_or_never : (nodes : List NodeRecord) (t : Option Tree) → IfSome t (λ tree. IsTree nodes tree × (tree ≢ never)) →
    IsTree nodes (or_never t)
made_or_never nodes None is = omega arith
made_or_never nodes (Some t) is = is.0

pub tree_made : (nodes : List NodeRecord) (found : BTreeMap Marks Tree) (set : Marks) → AllMade nodes found →
    IsTree nodes (tree_at found set)
tree_made nodes found set all = made_or_never nodes (get marks_cmp found set) (all set)

some_kept : (old new : List NodeRecord) → Extends old new → (t : Option Tree) →
    IfSome t (λ tree. IsTree old tree × (tree ≢ never)) → IfSome t (λ tree. IsTree new tree × (tree ≢ never))
some_kept old new x None is = tt
some_kept old new x (Some t) is = (tree_kept old new x t is.0, is.1)

pub all_kept : (old new : List NodeRecord) (found : BTreeMap Marks Tree) → Extends old new → AllMade old found →
    AllMade new found
all_kept old new found x all set = some_kept old new x (get marks_cmp found set) (all set)

module _ (old new : List NodeRecord) (x : Extends old new) (found : BTreeMap Marks Tree) (all : AllMade old found)
    (set : Marks) (tree both : Tree)
    (truth : (v : Valuation) → holds new both v ≡ (holds old (tree_at found set) v || holds old tree v)) where
  other_set : (q : Marks) (v : Valuation) → same_marks q set ≡ false →
      holds new (tree_at found q) v ≡ (holds old (tree_at found q) v || (same_marks q set && holds old tree v))
  other_set q v e =
      holds_kept old new x (tree_at found q) (tree_made old found q all) v
      ∙ sym (ap (λ b. holds old (tree_at found q) v || (b && holds old tree v)) e ∙ or_false (holds old (tree_at found q) v))

  halves : (a b : Bool) → (a || b) ≡ false → (a ≡ false) × (b ≡ false)
  halves true b e = absurd (true≢false e)
  halves false b e = (refl, e)

  -- neither of two trees holds where both together never do
  pub alone : IsTree old tree → both ≡ never → (v : Valuation) →
      holds new tree v ≡ (holds old (tree_at found set) v || holds old tree v)
  alone made e v =
      let none = halves (holds old (tree_at found set) v) (holds old tree v)
      (sym (truth v) ∙ ap (λ t. holds new t v) e ∙ never_holds new v) in
      holds_kept old new x tree made v ∙ none.1 ∙ sym (λ i. none.0 i || none.1 i)

  module _ (later : BTreeMap Marks Tree)
      (updates : (q : Marks) → get marks_cmp later q
      ≡ cond (is_eq (marks_cmp set q)) (Some both) (get marks_cmp found q)) where
    at : (q : Marks) (b : Bool) → same_marks q set ≡ b → tree_at later q ≡ cond b both (tree_at found q)
    at q true e =
        ap or_never (updates q ∙ ap (λ b. cond b (Some both) (get marks_cmp found q)) (same_cmp set q ∙ e))
    at q false e =
        ap or_never (updates q ∙ ap (λ b. cond b (Some both) (get marks_cmp found q)) (same_cmp set q ∙ e))

    pub added : (q : Marks) (v : Valuation) →
        holds new (tree_at later q) v ≡ (holds old (tree_at found q) v || (same_marks q set && holds old tree v))
    added q v = elim (cases_Bool (same_marks q set)) [
      | inl same ↦
          let one : set ≡ q = sym (marks_is q set same) in
          ap (λ t. holds new t v) (at q true same) ∙ truth v
          ∙ (λ i. holds old (tree_at found (one i)) v || (sym same i && holds old tree v))
      | inr other ↦ ap (λ t. holds new t v) (at q false other) ∙ other_set q v other
    ]

    pub added_made : IsTree new both → (both ≢ never) → AllMade new later
    added_made made some q =
        subst (λ t. IfSome t (λ tree. IsTree new tree × (tree ≢ never))) (sym (updates q))
        (by (is_eq (marks_cmp set q)))
      where
        by : (b : Bool) → IfSome (cond b (Some both) (get marks_cmp found q)) (λ tree. IsTree new tree × (tree ≢ never))
        by true = (made, some)
        by false = all_kept old new found x all q

-- nothing is kept of a tree that never holds
pub added_none : (nodes : List NodeRecord) (found : BTreeMap Marks Tree) (set q : Marks) (tree : Tree) (v : Valuation) →
    tree ≡ never →
    holds nodes (tree_at found q) v ≡ (holds nodes (tree_at found q) v || (same_marks q set && holds nodes tree v))
added_none nodes found set q tree v e =
    sym (ap (λ b. holds nodes (tree_at found q) v || (same_marks q set && b)) (ap (λ t. holds nodes t v) e ∙ never_holds nodes v)
    ∙ ap (λ b. holds nodes (tree_at found q) v || b) (and_false (same_marks q set))
    ∙ or_false (holds nodes (tree_at found q) v))

-- what a map has for each set, once one has another tree
pub renamed : (found later : BTreeMap Marks Tree) (key set : Marks) (tree : Tree) → key ≡ set →
    Updates marks_cmp found later key (Some tree) →
    (q : Marks) → get marks_cmp later q ≡ cond (is_eq (marks_cmp set q)) (Some tree) (get marks_cmp found q)
renamed found later key set tree e updates q =
    updates.0 q ∙ ap (λ s. cond (is_eq (marks_cmp s q)) (Some tree) (get marks_cmp found q)) e

-- the last of two trees stays
pub twice : (t : Bool) (tree both : Tree) (before : Option Tree) →
    cond t (Some both) (cond t (Some tree) before) ≡ cond t (Some both) before
twice true tree both before = refl
twice false tree both before = refl

-- a set had a tree already, which the map gave back
pub tree_before : (old new : List NodeRecord) (found : BTreeMap Marks Tree) (key set : Marks) (other tree both : Tree)
    (given : Option Tree) → key ≡ set → given ≡ Some other → given ≡ get marks_cmp found key →
    ((v : Valuation) → holds new both v ≡ (holds old other v || holds old tree v)) →
    (v : Valuation) → holds new both v ≡ (holds old (tree_at found set) v || holds old tree v)
tree_before old new found key set other tree both given e some is truth v =
    truth v
    ∙ ap (λ o. holds old (or_never o) v || holds old tree v) (sym some ∙ is ∙ ap (get marks_cmp found) e)

-- a set had no tree yet
pub first_tree : (nodes : List NodeRecord) (found : BTreeMap Marks Tree) (set : Marks) (tree : Tree) (v : Valuation) →
    None ≡ get marks_cmp found set → holds nodes tree v ≡ (holds nodes (tree_at found set) v || holds nodes tree v)
first_tree nodes found set tree v e =
    sym (ap (λ o. holds nodes (or_never o) v || holds nodes tree v) (sym e)
    ∙ ap (λ b. b || holds nodes tree v) (never_holds nodes v))

-- ---- leaves that were reached

apart : (a b : ℕ) → (a ≡ b → ⊥) → (a == b) ≡ false
apart a b h = grind (arith, nat_tests, h)

alike : (a b : ℕ) → a ≡ b → (a == b) ≡ true
alike a b e = grind (arith, nat_tests, e)

and_true : (b : Bool) → (b && true) ≡ b
and_true true = refl
and_true false = refl

module _ (sets : List Marks) (leaf : ℕ) (q : Marks) where
  not_yet : (k : ℕ) → k ≤ leaf → reached_by sets leaf q k ≡ false
  not_yet zero h = refl
  not_yet (suc k) h =
      (λ i. not_yet k (omega (arith, h)) i || (same_marks q (set_at sets k) && apart leaf k (λ e. omega (arith, h, e)) i))
      ∙ and_false (same_marks q (set_at sets k))

  pub reached : (k : ℕ) → leaf < k → reached_by sets leaf q k ≡ same_marks q (set_at sets leaf)
  reached zero h = absurd (omega (arith, h))
  reached (suc k) h = elim (cases_lt leaf k) [
    | inl a ↦
        (λ i. reached k a i || (same_marks q (set_at sets k) && apart leaf k (λ e. omega (arith, a, e)) i))
        ∙ ap (λ b. same_marks q (set_at sets leaf) || b) (and_false (same_marks q (set_at sets k)))
        ∙ or_false (same_marks q (set_at sets leaf))
    | inr a ↦
        let e : leaf ≡ k = omega (arith, a, h) in
        (λ i. not_yet k a i || (same_marks q (set_at sets k) && alike leaf k e i))
        ∙ and_true (same_marks q (set_at sets k)) ∙ ap (λ j. same_marks q (set_at sets j)) (sym e)
  ]

  pub reached_more : (k : ℕ) → reached_by sets leaf q (k + 1)
      ≡ (reached_by sets leaf q k || (same_marks q (set_at sets k) && (leaf == k)))
  reached_more k = ap (reached_by sets leaf q) (add-one k)

pub leaf_tree_at : (nodes : List NodeRecord) (f : Valuation → ℕ) (from k : ℕ) (trees : List Tree) (t : Tree) →
    AreLeafTrees nodes f from trees → k < length trees → t ≡ get_or trees k t → IsTreeOf nodes (leaf_is f (from + k)) t
leaf_tree_at nodes f from k [] t are h is = absurd (omega (arith, h))
leaf_tree_at nodes f from zero (u ∷ trees) t are h is =
    subst (λ n. IsTreeOf nodes (leaf_is f n) t) (omega arith) (subst (IsTreeOf nodes (leaf_is f from)) (sym is) are.0)
leaf_tree_at nodes f from (suc k) (u ∷ trees) t are h is =
    subst (λ n. IsTreeOf nodes (leaf_is f n) t) (omega arith)
    (leaf_tree_at nodes f (from + 1) k trees t are.1 (omega (arith, h)) is)

-- ---- entries of a map in order

behind_none : (q : Marks) (es : List (Marks × Tree)) → AllByRecursion (λ y. marks_cmp q y ≡ Less) (sets_of es) →
    lookup (is_at (marks_cmp q)) es ≡ None
behind_none q [] all = refl
behind_none q (e ∷ es) all =
    ap (λ o. cond (is_eq o) (Some e.1) (lookup (is_at (marks_cmp q)) es)) all.0 ∙ behind_none q es all.1

some_none : {A : Type 0} (x : A) → ◌≡◌ {A = Option A} None (Some x) → ⊥
some_none x e = cc

entries_all : (P : Marks × Tree → Type 0) (es : List (Marks × Tree)) → IsStrictlySortedBy marks_cmp (sets_of es) →
    ((q : Marks) (t : Tree) → lookup (is_at (marks_cmp q)) es ≡ Some t → P (q, t)) → AllByRecursion P es
unfolding IsStrictlySortedBy
entries_all P [] s so = tt
entries_all P (e ∷ es) s so = (
  so e.0 e.1 (ap (λ b. cond b (Some e.1) (lookup (is_at (marks_cmp e.0)) es)) (same_cmp e.0 e.0 ∙ same_itself e.0)),
  entries_all P es s.1 (λ q t h. elim (cases_Bool (is_eq (marks_cmp q e.0))) [
    | inl same ↦
        let one : e.0 ≡ q = marks_is e.0 q (sym (same_cmp q e.0) ∙ same) in
        let none = behind_none q es (subst (λ m. AllByRecursion (λ y. marks_cmp m y ≡ Less) (sets_of es)) one s.0) in
        absurd (some_none t (sym none ∙ h))
    | inr other ↦ so q t (ap (λ b. cond b (Some e.1) (lookup (is_at (marks_cmp q)) es)) other ∙ h)
  ]),
)

find_any : (q : Marks) (t : Tree) (es : List (Marks × Tree)) → lookup (is_at (marks_cmp q)) es ≡ Some t →
    list_any (same_marks q) (sets_of es) ≡ true
find_any q t [] h = absurd (some_none t h)
find_any q t (e ∷ es) h = elim (cases_Bool (is_eq (marks_cmp q e.0))) [
  | inl same ↦
      ap (λ b. b || list_any (same_marks q) (sets_of es)) (same_turned q e.0 ∙ sym (same_cmp q e.0) ∙ same)
  | inr other ↦
      ap (λ b. same_marks q e.0 || b)
      (find_any q t es (sym (ap (λ b. cond b (Some e.1) (lookup (is_at (marks_cmp q)) es)) other) ∙ h))
      ∙ or_true (same_marks q e.0)
]

-- ---- cases

module _ (start nodes : List NodeRecord) (m : Marked) (trees : List Tree) (found : BTreeMap Marks Tree)
    (marked : IsMarked start trees m) (are : AreFound start nodes m found)
    (somewhere : (tree : Tree) → IsTree nodes tree → tree ≢ never → (v : Valuation) × (holds nodes tree v ≡ true)) where
  says : (q : Marks) (v : Valuation) → holds nodes (tree_at found q) v ≡ same_marks (marks_of start trees v) q
  says q v =
      let leaf = leaf_in start m.diagram m.diagram.root v in
      are.truth q v
      ∙ reached m.sets.items leaf q m.diagram.leaves
      (leaf_is_below start m.diagram.leaves m.diagram.nodes.items marked.diagram.graph v m.diagram.root marked.diagram.root)
      ∙ ap (same_marks q) (marked.marks v) ∙ same_turned q (marks_of start trees v)

  one_case : (q : Marks) (t : Tree) → get marks_cmp found q ≡ Some t → IsCase (marks_of start trees) nodes (q, t)
  one_case q t h =
      let is = subst (λ o. IfSome o (λ tree. IsTree nodes tree × (tree ≢ never))) h (are.made q) in
      let means : (v : Valuation) → holds nodes t v ≡ same_marks (marks_of start trees v) q =
      λ v. ap (λ o. holds nodes (or_never o) v) (sym h) ∙ says q v in
      let real = somewhere t is.0 is.1 in
      record {
        realised = (real.0, marks_is (marks_of start trees real.0) q (sym (means real.0) ∙ real.1));
        made = is.0;
        means = means;
      }

  some_there : (q : Marks) (v : Valuation) (o : Option Tree) → get marks_cmp found q ≡ o → holds nodes (or_never o) v ≡ true →
      list_any (same_marks q) (sets_of found.entries) ≡ true
  some_there q v None h e = absurd (true≢false (sym e ∙ never_holds nodes v))
  some_there q v (Some t) h e = find_any q t found.entries h

  pub cases_found : (cases : List (Marks × Tree)) → cases ≡ found.entries → IsOrdered marks_cmp found →
      AreCases (marks_of start trees) nodes cases
  cases_found cases e ordered = subst (AreCases (marks_of start trees) nodes) (sym e) (record {
    rising = ordered;
    each = entries_all (IsCase (marks_of start trees) nodes) found.entries ordered one_case;
    all = λ v.
        let q = marks_of start trees v in
        some_there q v (get marks_cmp found q) refl (says q v ∙ same_itself q);
  })
