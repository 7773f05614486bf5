-- Where several sets are true: branches that are joined, and truths of constant children.
use Rattle.std.proofs.Common.{◌≡◌, inl, inr, ◌<◌, Bool, true, false, not, ◌&&◌, List, [], ◌∷◌, ◌++◌, length}
use Rattle.std.proofs.Common.{map, Some, None, refl, ap, ap₂, sym, subst, ◌∙◌, arith, true≢false, Ordering}
use Rattle.std.proofs.Common.{Less, cond}
use Rattle.std.specs.Prelude.{slice_get}
use Rattle.std.specs.Bool.{beq}
use Rattle.std.specs.List.{AllByRecursion}
use Rattle.std.specs.Cmp.{IsTotalOrder}
use Rattle.std.proofs.lemmas.Bool.{cases_Bool}
use Rattle.version_ranges.specs.declared.boundary.Boundary.{Boundary}
use Rattle.version_ranges.specs.Boundaries.{point_of, boundary_cmp}
use Rattle.version_ranges.specs.Point.{Point, point_cmp}
use Rattle.version_ranges.specs.Turns.{Rising, flips, reaches}
use Rattle.pep508_diagram.specs.declared.branch.Branch.{Branch}
use Rattle.pep508_diagram.specs.Branches.{RisingBranches, NeighboursDiffer, AllBranches, branch_at}
use Rattle.pep508_diagram.proofs.Branching.{before_unreached}
use Rattle.pep508_conjunctions.specs.declared.borrowed_nodes.Source.{Source}
use Rattle.pep508_tree.specs.Tree.{Tree}
use Rattle.pep508_conjunctions.specs.declared.meet.Truths.{Truths}
use Rattle.pep508_conjunctions.specs.Meets.{both_true, met, truth_at, truth_in, truth_branch, source_truth}
use Rattle.pep508_conjunctions.specs.Meets.{all_true, AreLent, IsLeaf}

-- ---- branches that are joined

same_from : (a b : Bool) → beq a b ≡ true → a ≡ b
same_from true true e = refl
same_from true false e = absurd (true≢false (sym e))
same_from false true e = absurd (true≢false (sym e))
same_from false false e = refl

same_itself : (a : Bool) → beq a a ≡ true
same_itself true = refl
same_itself false = refl

module _ {T : Type 0} {cmp : T → T → Ordering} (o : IsTotalOrder cmp) where
  met_after : (P : Boundary T → Type 0) (last : Bool) (later : List (Branch T (Bool × Bool)))
      → AllByRecursion P (map (λ branch. branch.boundary) later)
      → AllByRecursion P (map (λ branch. branch.boundary) (met last later))
  met_after P last [] all = tt
  met_after P last (b ∷ later) all = elim (cases_Bool (beq (both_true b.child) last)) [
    | inl same ↦ rw same (met_after P last later all.1)
    | inr other ↦ rw other (all.0, met_after P (both_true b.child) later all.1)
  ]

  pub met_rises : (last : Bool) (later : List (Branch T (Bool × Bool))) → RisingBranches cmp later
      → RisingBranches cmp (met last later)
  met_rises last [] rises = tt
  met_rises last (b ∷ later) rises = elim (cases_Bool (beq (both_true b.child) last)) [
    | inl same ↦ rw same (met_rises last later rises.1)
    | inr other ↦
        rw other (
          met_after (λ c. boundary_cmp cmp b.boundary c ≡ Less) (both_true b.child) later rises.0,
          met_rises (both_true b.child) later rises.1,
        )
  ]

  pub met_differs : (last : Bool) (later : List (Branch T (Bool × Bool))) → NeighboursDiffer last (met last later)
  met_differs last [] = tt
  met_differs last (b ∷ later) = elim (cases_Bool (beq (both_true b.child) last)) [
    | inl same ↦ rw same (met_differs last later)
    | inr other ↦
        rw other (
          λ e. true≢false (sym (same_itself last) ∙ ap (λ x. beq x last) e ∙ other),
          met_differs (both_true b.child) later,
        )
  ]

  -- both of the pair that stands at a point
  pub met_at : (pair : Bool × Bool) (last : Bool) (later : List (Branch T (Bool × Bool))) → last ≡ both_true pair
      → RisingBranches cmp later → (p : Point T)
      → branch_at cmp last (met last later) p ≡ both_true (branch_at cmp pair later p)
  met_at pair last [] e rises p = e
  met_at pair last (b ∷ later) e rises p = elim (cases_Bool (reaches (point_cmp cmp) (point_of b.boundary) p)) [
    | inl up ↦ elim (cases_Bool (beq (both_true b.child) last)) [
      | inl same ↦ rw (up, same) (met_at b.child last later (sym (same_from (both_true b.child) last same)) rises.1 p)
      | inr other ↦ rw (up, other, up) (met_at b.child (both_true b.child) later refl rises.1 p)
    ]
    | inr over ↦ elim (cases_Bool (beq (both_true b.child) last)) [
      | inl same ↦
          let here : branch_at cmp pair later p ≡ pair =
          before_unreached o b.boundary pair later p over rises.0 in
          rw (over, same) (met_at pair last later e rises.1 p ∙ ap both_true here)
      | inr other ↦ rw (over, other, over) e
    ]
  ]

  -- both of two sets
  pub meet_points : (a b : Truths T) (first : Bool) (later : List (Branch T Bool))
      (pairs : List (Branch T (Bool × Bool))) (own other : List (Branch T Bool)) → own ≡ a.later.items
      → other ≡ b.later.items → first ≡ (a.first && b.first) → later ≡ met first pairs
      → RisingBranches cmp pairs
      → ((p : Point T) → branch_at cmp (a.first, b.first) pairs p
      ≡ (branch_at cmp a.first own p, branch_at cmp b.first other p))
      → (p : Point T) → branch_at cmp first later p ≡ (truth_at cmp a p && truth_at cmp b p)
  meet_points a b first later pairs own other own_is other_is first_is later_is rises points p =
      ap (λ l. branch_at cmp first l p) later_is
      ∙ met_at (a.first, b.first) first pairs first_is rises p
      ∙ ap both_true (points p)
      ∙ ap₂ (λ x y. branch_at cmp a.first x p && branch_at cmp b.first y p) own_is other_is

-- ---- constant children

either_truth : (negated b : Bool) (x y : Tree)
    → cond b (truth_in negated x) (truth_in negated y) ≡ truth_in negated (cond b x y)
either_truth negated true x y = refl
either_truth negated false x y = refl

not_same : (a b : Bool) → not a ≡ not b → a ≡ b
not_same true true e = refl
not_same true false e = absurd (true≢false (sym e))
not_same false true e = absurd (true≢false e)
not_same false false e = refl

flips_same : (negated a b : Bool) → flips negated a ≡ flips negated b → a ≡ b
flips_same true a b e = not_same a b e
flips_same false a b e = e

constants_same : (negated : Bool) (x y : Tree) → x.place ≡ 0 → y.place ≡ 0 → truth_in negated x ≡ truth_in negated y
    → x ≡ y
constants_same negated x y here there e =
    let place = here ∙ sym there in
    let sign = not_same x.negated y.negated (flips_same negated (not x.negated) (not y.negated) e) in
    λ i. record { place = place i; negated = sign i }

module _ {T : Type 0} (cmp : T → T → Ordering) (negated : Bool) where
  abbrev Constants : Tree → List (Branch T Tree) → Type 0
  Constants first later = AllBranches (λ child. child.place ≡ 0) first later

  pub truths_at : (first : Tree) (later : List (Branch T Tree)) (p : Point T)
      → branch_at cmp (truth_in negated first) (map (truth_branch negated) later) p
      ≡ truth_in negated (branch_at cmp first later p)
  truths_at first [] p = refl
  truths_at first (b ∷ later) p =
      let up = reaches (point_cmp cmp) (point_of b.boundary) p in
      ap (λ x. cond up x (truth_in negated first)) (truths_at b.child later p)
      ∙ either_truth negated up (branch_at cmp b.child later p) first

  same_boundaries : (later : List (Branch T Tree))
      → map (λ branch. branch.boundary) (map (truth_branch negated) later) ≡ map (λ branch. branch.boundary) later
  same_boundaries [] = refl
  same_boundaries (b ∷ later) = ap (λ bs. b.boundary ∷ bs) (same_boundaries later)

  pub truths_rise : (later : List (Branch T Tree)) → RisingBranches cmp later
      → RisingBranches cmp (map (truth_branch negated) later)
  truths_rise later rises = subst (Rising (boundary_cmp cmp)) (sym (same_boundaries later)) rises

  first_constant : (first : Tree) (later : List (Branch T Tree)) → Constants first later → first.place ≡ 0
  first_constant first [] all = all
  first_constant first (b ∷ later) all = all.0

  pub truths_differ : (first : Tree) (later : List (Branch T Tree)) → Constants first later
      → NeighboursDiffer first later → NeighboursDiffer (truth_in negated first) (map (truth_branch negated) later)
  truths_differ first [] all differ = tt
  truths_differ first (b ∷ later) all differ = (
    λ e. differ.0 (constants_same negated first b.child all.0 (first_constant b.child later all.1) e),
    truths_differ b.child later all.1 differ.1,
  )

-- ---- lists of sets

pub alone : {A : Type 0} (xs : List A) (x : A) → length xs < 2 → Some x ≡ slice_get xs 0 → xs ≡ x ∷ []
alone [] x h e = absurd (cc)
alone (y ∷ []) x h e = cc
alone (y ∷ z ∷ xs) x h e = absurd (omega (arith, h))

pub no_item : {A : Type 0} (xs : List A) → None ≡ slice_get xs 0 → length xs ≡ 0
no_item [] h = refl
no_item (x ∷ xs) h = absurd (cc)

pub and_true : (b : Bool) → (b && true) ≡ b
and_true true = refl
and_true false = refl

and_assoc : (a b c : Bool) → (a && (b && c)) ≡ ((a && b) && c)
and_assoc true b c = refl
and_assoc false b c = refl

pub all_append : (xs ys : List Bool) → all_true (xs ++ ys) ≡ (all_true xs && all_true ys)
all_append [] ys = refl
all_append (x ∷ xs) ys = ap (λ b. x && b) (all_append xs ys) ∙ and_assoc x (all_true xs) (all_true ys)

pub mapped : {A B : Type 0} (f : A → B) (xs ys : List A) → map f (xs ++ ys) ≡ map f xs ++ map f ys
mapped f [] ys = refl
mapped f (x ∷ xs) ys = ap (λ zs. f x ∷ zs) (mapped f xs ys)

pub all_front : {A : Type 0} (P : A → Type 0) (xs ys : List A) → AllByRecursion P (xs ++ ys) → AllByRecursion P xs
all_front P [] ys h = tt
all_front P (x ∷ xs) ys h = (h.0, all_front P xs ys h.1)

pub all_back : {A : Type 0} (P : A → Type 0) (xs ys : List A) → AllByRecursion P (xs ++ ys) → AllByRecursion P ys
all_back P [] ys h = h
all_back P (x ∷ xs) ys h = all_back P xs ys h.1

-- what holds of all of a list, from both halves
pub halves_true : {A : Type 0} (f : A → Bool) (front back xs : List A) → front ++ back ≡ xs
    → (all_true (map f front) && all_true (map f back)) ≡ all_true (map f xs)
halves_true f front back xs e =
    sym (all_append (map f front) (map f back))
    ∙ ap all_true (sym (mapped f front back))
    ∙ ap (λ ys. all_true (map f ys)) e

module _ {T : Type 0} (cmp : T → T → Ordering) (source : Source T) (sources : List (Source T))
    (leaves : AllByRecursion (IsLeaf cmp) sources) (only : sources ≡ source ∷ []) (truths : Truths T)
    (lent : AreLent truths source) where
  its_leaf : IsLeaf cmp source
  its_leaf = (subst (AllByRecursion (IsLeaf cmp)) only leaves).0

  pub alone_points : (p : Point T)
      → truth_at cmp truths p ≡ all_true (map (λ s. source_truth cmp s p) sources)
  alone_points p =
      ap₂ (λ x y. branch_at cmp x y p) lent.first lent.later
      ∙ sym (and_true (source_truth cmp source p))
      ∙ ap (λ xs. all_true (map (λ s. source_truth cmp s p) xs)) (sym only)

  pub alone_rises : RisingBranches cmp truths.later.items
  alone_rises =
      subst (RisingBranches cmp) (sym lent.later)
      (truths_rise cmp source.negated source.later.now its_leaf.rises)

  pub alone_differs : NeighboursDiffer truths.first truths.later.items
  alone_differs = rw (lent.first, lent.later) its_leaf.differ
