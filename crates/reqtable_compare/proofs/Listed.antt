-- The first of the listed pairs that fails is the first of all.
use Rattle.std.proofs.Common.{◌≡◌, ◌∙◌, ℕ, zero, suc, ◌+◌, ◌<◌, ◌≤◌, ◌==◌, ◌||◌, ◌&&◌, Bool, true, false, cond, nat_lt, List, [], ◌∷◌, ◌++◌}
use Rattle.std.proofs.Common.{map, take, drop, length, get_or, refl, ap, sym, subst, inl, inr, arith, true≢false, Less, Equal, Greater}
use Rattle.std.proofs.lemmas.Bool.{cases_Bool}
use Rattle.std.proofs.lemmas.Bool.Decides.{nat_tests}
use Rattle.std.proofs.lemmas.Cmp.{tied_itself, nat_cmp_total, then_total, on_total}
use Rattle.std.proofs.lemmas.List.{take_more, take_all}
use Rattle.std.specs.Cmp.{IsTotalOrder}
use Rattle.std.specs.List.{AllByRecursion}
use Rattle.std.specs.List.Sorted.{IsStrictlySortedBy}
use Rattle.std.specs.Ordering.{is_eq, nat_cmp, ordering_then}
use Rattle.pep508_tree.specs.Tree.{Tree}
use Rattle.pep508_tree.specs.Meaning.{NodeRecord, IsTree}
use Rattle.pep508_tree.specs.Disjoint.{AreDisjoint}
use Rattle.pep508_cases.specs.Pairs.{pair_cmp, is_listed, tree_or_never, AreMeeting}
use Rattle.pep508_cases.proofs.Listing.{eq_pair}
use Rattle.reqtable_compare.specs.declared.sides.Relation.{Relation}
use Rattle.reqtable_compare.specs.Summed.{SummaryRecord}
use Rattle.reqtable_compare.specs.Totals.{no_lines}
use Rattle.reqtable_compare.specs.Pairs.{Passes, PassesAll, Fails, IsFirstPair, AreOfTrees, case_trees}
use Rattle.reqtable_compare.proofs.Steps.{all_more, all_at as mapped_at}

-- the case at a place, or one without lines
abbrev pub case_at : List SummaryRecord → ℕ → SummaryRecord
case_at cases place = get_or cases place no_lines

-- the cases at both places of a pair pass
abbrev pub PassAt : Relation → List NodeRecord → List SummaryRecord → List SummaryRecord → ℕ × ℕ → Type 0
PassAt relation nodes left right pair = Passes relation nodes (case_at left pair.0) (case_at right pair.1)

-- ---- places in lists

pub long_mapped : {A B : Type 0} (f : A → B) (xs : List A) → length (map f xs) ≡ length xs
long_mapped f [] = refl
long_mapped f (x ∷ xs) = ap suc (long_mapped f xs)

pub at_mapped : {A B : Type 0} (f : A → B) (xs : List A) (i : ℕ) (x : A) (d : B) → i < length xs → x ≡ get_or xs i x →
    get_or (map f xs) i d ≡ f x
at_mapped f [] i x d less is = absurd (omega (arith, less))
at_mapped f (y ∷ ys) zero x d less is = ap f (sym is)
at_mapped f (y ∷ ys) (suc i) x d less is = at_mapped f ys i x d (omega (arith, less)) is

all_at : {A : Type 0} (P : A → Type 0) (xs : List A) (i : ℕ) (d : A) → i < length xs → AllByRecursion P xs →
    P (get_or xs i d)
all_at P [] i d less all = absurd (omega (arith, less))
all_at P (x ∷ xs) zero d less all = all.0
all_at P (x ∷ xs) (suc i) d less all = all_at P xs i d (omega (arith, less)) all.1

all_of : {A : Type 0} (P : A → Type 0) (xs : List A) (d : A) → ((i : ℕ) → i < length xs → P (get_or xs i d)) →
    AllByRecursion P xs
all_of P [] d each = tt
all_of P (x ∷ xs) d each = (each 0 (omega arith), all_of P xs d (λ i less. each (suc i) (omega (arith, less))))

all_before : {A : Type 0} (P : A → Type 0) (xs : List A) (n : ℕ) (d : A) →
    ((i : ℕ) → i < n → i < length xs → P (get_or xs i d)) → AllByRecursion P (take n xs)
all_before P xs zero d each = tt
all_before P [] (suc n) d each = tt
all_before P (x ∷ xs) (suc n) d each = (
  each 0 (omega arith) (omega arith),
  all_before P xs n d (λ i less less'. each (suc i) (omega (arith, less)) (omega (arith, less'))),
)

parted : {A : Type 0} (xs : List A) (i : ℕ) (d : A) → i < length xs →
    xs ≡ take i xs ++ get_or xs i d ∷ drop (suc i) xs
parted [] i d less = absurd (omega (arith, less))
parted (x ∷ xs) zero d less = refl
parted (x ∷ xs) (suc i) d less = ap (λ l. x ∷ l) (parted xs i d (omega (arith, less)))

tree_is : (cases : List SummaryRecord) (i : ℕ) → i < length cases →
    tree_or_never (case_trees cases) i ≡ (case_at cases i).tree
tree_is [] i less = absurd (omega (arith, less))
tree_is (c ∷ cases) zero less = refl
tree_is (c ∷ cases) (suc i) less = tree_is cases i (omega (arith, less))

-- ---- pairs in their order

or_true : (b : Bool) → (b || true) ≡ true
or_true true = refl
or_true false = refl

halves : (a b : Bool) → (a && b) ≡ true → (a ≡ true) × (b ≡ true)
halves true b e = (refl, e)
halves false b e = absurd (true≢false (sym e))

number_is : (a b : ℕ) → (a == b) ≡ true → a ≡ b
number_is a b e = grind (arith, nat_tests, e)

pair_is : (a b : ℕ × ℕ) → is_eq (pair_cmp a b) ≡ true → a ≡ b
pair_is a b e =
    let both = halves (a.0 == b.0) (a.1 == b.1) (sym (eq_pair a b) ∙ e) in
    (λ i. (number_is a.0 b.0 both.0 i, number_is a.1 b.1 both.1 i))

pair_total : IsTotalOrder pair_cmp
pair_total = then_total (on_total (λ pair. pair.0) nat_cmp_total) (on_total (λ pair. pair.1) nat_cmp_total)

less_number : (x y : ℕ) → x < y → nat_cmp x y ≡ Less
less_number x y less =
    let e : nat_lt x y ≡ true = grind (arith, nat_tests, less) in
    ap (λ b. cond b Less (cond (x == y) Equal Greater)) e

-- a pair of an earlier row comes before, and an earlier one of the same row
earlier_row : (a b : ℕ × ℕ) → a.0 < b.0 → pair_cmp a b ≡ Less
earlier_row a b less = ap (λ order. ordering_then order (nat_cmp a.1 b.1)) (less_number a.0 b.0 less)

earlier_beside : (i : ℕ) (b : ℕ × ℕ) (j : ℕ) → i ≡ b.0 → j < b.1 → pair_cmp (i, j) b ≡ Less
earlier_beside i b j same less =
    (λ k. ordering_then (nat_cmp (same k) b.0) (nat_cmp j b.1))
    ∙ ap (λ order. ordering_then order (nat_cmp j b.1)) (tied_itself nat_cmp_total b.0) ∙ less_number j b.1 less

listed_has : (P : ℕ × ℕ → Type 0) (pairs : List (ℕ × ℕ)) (pair : ℕ × ℕ) → AllByRecursion P pairs →
    is_listed pairs pair ≡ true → P pair
listed_has P [] pair all is = absurd (true≢false (sym is))
listed_has P (x ∷ pairs) pair all is = elim (cases_Bool (is_eq (pair_cmp pair x))) [
  | inl e ↦ subst P (sym (pair_is pair x e)) all.0
  | inr e ↦ listed_has P pairs pair all.1 (sym (ap (λ b. b || is_listed pairs pair) e) ∙ is)
]

-- it comes before itself, so there is none
not_both : (a b : ℕ × ℕ) → pair_cmp a b ≡ Less → pair_cmp b a ≡ Less → ⊥
not_both a b less more =
    let back : pair_cmp a a ≡ Less = pair_total.trans a b a less more in
    let tie : pair_cmp a a ≡ Equal = tied_itself pair_total a in absurd (cc)

not_equal : (a b : ℕ × ℕ) → pair_cmp a b ≡ Less → is_eq (pair_cmp a b) ≡ false
not_equal a b less = ap is_eq less

-- a listed pair that comes before the one at a place stands before that
listed_before : (pairs : List (ℕ × ℕ)) (k : ℕ) (d pair : ℕ × ℕ) → IsStrictlySortedBy pair_cmp pairs → k < length pairs →
    pair_cmp pair (get_or pairs k d) ≡ Less → is_listed pairs pair ≡ true → is_listed (take k pairs) pair ≡ true
unfolding IsStrictlySortedBy
listed_before [] k d pair rising inside less is = absurd (omega (arith, inside))
listed_before (x ∷ pairs) zero d pair rising inside less is =
    let later : is_listed pairs pair ≡ true =
    sym (ap (λ b. b || is_listed pairs pair) (not_equal pair x less)) ∙ is in
    absurd (not_both pair x less (listed_has (λ y. pair_cmp x y ≡ Less) pairs pair rising.0 later))
listed_before (x ∷ pairs) (suc k) d pair rising inside less is = elim (cases_Bool (is_eq (pair_cmp pair x))) [
  | inl e ↦ ap (λ b. b || is_listed (take k pairs) pair) e
  | inr e ↦
      let later : is_listed (take k pairs) pair ≡ true =
      listed_before pairs k d pair rising.1 (omega (arith, inside)) less
      (sym (ap (λ b. b || is_listed pairs pair) e) ∙ is) in
      ap (λ b. is_eq (pair_cmp pair x) || b) later ∙ or_true (is_eq (pair_cmp pair x))
]

-- ---- the walk

module _ (relation : Relation) (nodes : List NodeRecord) (left right : List SummaryRecord) (pairs : List (ℕ × ℕ))
    (are : AreMeeting nodes (case_trees left) (case_trees right) pairs) where
  pub inside : (k : ℕ) (d : ℕ × ℕ) → k < length pairs →
      ((get_or pairs k d).0 < length left) × ((get_or pairs k d).1 < length right)
  inside k d less =
      let within = all_at (λ pair. (pair.0 < length (case_trees left)) × (pair.1 < length (case_trees right))) pairs k d less
      are.within in
      let one = long_mapped (λ s. s.tree) left in
      let two = long_mapped (λ s. s.tree) right in
      (omega (arith, one, within.0), omega (arith, two, within.1))

  unlisted : (pair : ℕ × ℕ) → pair.0 < length left → pair.1 < length right → is_listed pairs pair ≡ false →
      PassAt relation nodes left right pair
  unlisted pair less less' none =
      inr (subst (λ t. AreDisjoint nodes t (case_at right pair.1).tree) (tree_is left pair.0 less)
      (subst (AreDisjoint nodes (tree_or_never (case_trees left) pair.0)) (tree_is right pair.1 less')
      (are.others pair none)))

  pub all_pass : AllByRecursion (PassAt relation nodes left right) pairs → AllByRecursion (PassesAll relation nodes right) left
  all_pass each =
      all_of (PassesAll relation nodes right) left no_lines (λ i less.
      all_of (Passes relation nodes (case_at left i)) right no_lines (λ j less'.
      elim (cases_Bool (is_listed pairs (i, j))) [
        | inl e ↦ listed_has (PassAt relation nodes left right) pairs (i, j) each e
        | inr e ↦ unlisted (i, j) less less' e
      ]))

  module _ (k : ℕ) (d : ℕ × ℕ) (less : k < length pairs)
      (before : AllByRecursion (PassAt relation nodes left right) (take k pairs)) where
    earlier : (pair : ℕ × ℕ) → pair.0 < length left → pair.1 < length right →
        pair_cmp pair (get_or pairs k d) ≡ Less → PassAt relation nodes left right pair
    earlier pair one two first = elim (cases_Bool (is_listed pairs pair)) [
      | inl e ↦
          listed_has (PassAt relation nodes left right) (take k pairs) pair before
          (listed_before pairs k d pair are.rising less first e)
      | inr e ↦ unlisted pair one two e
    ]

    pub first_fails : Fails relation nodes (case_at left (get_or pairs k d).0) (case_at right (get_or pairs k d).1) →
        IsFirstPair relation nodes left right (case_at left (get_or pairs k d).0).tree
        (case_at right (get_or pairs k d).1).tree
    first_fails fails =
        let pair = get_or pairs k d in
        let within = inside k d less in
        record {
          front = take pair.0 left;
          first = case_at left pair.0;
          back = drop (suc pair.0) left;
          split = parted left pair.0 no_lines within.0;
          before = all_before (PassesAll relation nodes right) left pair.0 no_lines (λ i first one.
              all_of (Passes relation nodes (case_at left i)) right no_lines (λ j two.
              earlier (i, j) one two (earlier_row (i, j) pair first)));
          is = refl;
          beside = record {
            front = take pair.1 right;
            other = case_at right pair.1;
            back = drop (suc pair.1) right;
            split = parted right pair.1 no_lines within.1;
            before = all_before (Passes relation nodes (case_at left pair.0)) right pair.1 no_lines (λ j first two.
                earlier (pair.0, j) within.0 two (earlier_beside pair.0 pair j refl first));
            fails = fails;
            is = refl;
          };
        }

    pub one_more : PassAt relation nodes left right (get_or pairs k d) → AllByRecursion (PassAt relation nodes left right) (take (k + 1) pairs)
    one_more passes =
        subst (AllByRecursion (PassAt relation nodes left right)) (sym (take_more pairs k d less))
        (all_more (PassAt relation nodes left right) (take k pairs) (get_or pairs k d) before passes)

made : (nodes : List NodeRecord) (cases : List SummaryRecord) → AreOfTrees nodes cases →
    AllByRecursion (IsTree nodes) (case_trees cases)
made nodes [] all = tt
made nodes (c ∷ cases) all = (all.0, made nodes cases all.1)

pub trees_made : (nodes : List NodeRecord) (cases : List SummaryRecord) (lent trees : List Tree) → lent ≡ trees →
    trees ≡ case_trees cases → AreOfTrees nodes cases → AllByRecursion (IsTree nodes) lent
trees_made nodes cases lent trees same are all =
    subst (AllByRecursion (IsTree nodes)) (sym (same ∙ are)) (made nodes cases all)

-- ---- as a loop over the pairs has it

module _ {A : Type 0} (f : A → SummaryRecord) (relation : Relation) (nodes : List NodeRecord) (left right : List A) (pairs : List (ℕ × ℕ))
    (are : AreMeeting nodes (case_trees (map f left)) (case_trees (map f right)) pairs) where
  pub every : (k : ℕ) → length pairs ≤ k → AllByRecursion (PassAt relation nodes (map f left) (map f right)) (take k pairs) →
      AllByRecursion (PassesAll relation nodes (map f right)) (map f left)
  every k long each =
      all_pass relation nodes (map f left) (map f right) pairs are
      (subst (AllByRecursion (PassAt relation nodes (map f left) (map f right))) (take_all k pairs long) each)

  module _ (k : ℕ) (less : k < length pairs) (one other : A) (one_is : one ≡ get_or left (get_or pairs k (0, 0)).0 one)
      (other_is : other ≡ get_or right (get_or pairs k (0, 0)).1 other) where
    first_inside : (get_or pairs k (0, 0)).0 < length left
    first_inside =
        let within = inside relation nodes (map f left) (map f right) pairs are k (0, 0) less in
        let long = long_mapped f left in
        omega (arith, within.0, long)

    second_inside : (get_or pairs k (0, 0)).1 < length right
    second_inside =
        let within = inside relation nodes (map f left) (map f right) pairs are k (0, 0) less in
        let long = long_mapped f right in
        omega (arith, within.1, long)

    first_at : case_at (map f left) (get_or pairs k (0, 0)).0 ≡ f one
    first_at = at_mapped f left (get_or pairs k (0, 0)).0 one no_lines first_inside one_is

    second_at : case_at (map f right) (get_or pairs k (0, 0)).1 ≡ f other
    second_at = at_mapped f right (get_or pairs k (0, 0)).1 other no_lines second_inside other_is

    pub first_has : (P : SummaryRecord → Type 0) → AllByRecursion P (map f left) → P (f one)
    first_has P = mapped_at f P left (get_or pairs k (0, 0)).0 one first_inside one_is

    pub second_has : (P : SummaryRecord → Type 0) → AllByRecursion P (map f right) → P (f other)
    second_has P = mapped_at f P right (get_or pairs k (0, 0)).1 other second_inside other_is

    pub next : AllByRecursion (PassAt relation nodes (map f left) (map f right)) (take k pairs) → Passes relation nodes (f one) (f other) →
        AllByRecursion (PassAt relation nodes (map f left) (map f right)) (take (k + 1) pairs)
    next before passes =
        one_more relation nodes (map f left) (map f right) pairs are k (0, 0) less before
        (subst (λ s. Passes relation nodes s (case_at (map f right) (get_or pairs k (0, 0)).1)) (sym first_at)
        (subst (Passes relation nodes (f one)) (sym second_at) passes))

    pub stops : AllByRecursion (PassAt relation nodes (map f left) (map f right)) (take k pairs) → Fails relation nodes (f one) (f other) →
        IsFirstPair relation nodes (map f left) (map f right) (f one).tree (f other).tree
    stops before fails =
        let rs = map f right in
        let second = case_at rs (get_or pairs k (0, 0)).1 in
        subst (λ s. IsFirstPair relation nodes (map f left) rs s.tree (f other).tree) first_at
        (subst (λ s. IsFirstPair relation nodes (map f left) rs (case_at (map f left) (get_or pairs k (0, 0)).0).tree s.tree) second_at
        (first_fails relation nodes (map f left) rs pairs are k (0, 0) less before
        (subst (λ s. Fails relation nodes s second) (sym first_at) (subst (Fails relation nodes (f one)) (sym second_at) fails))))
