-- A stable sort of a list that is in order is that list.
use Rattle.std.proofs.Common.{◌≡◌, ℕ, suc, ◌<◌, ◌≤◌, Bool, true, false, not, ◌&&◌, List, [], ◌∷◌, length}
use Rattle.std.proofs.Common.{slice_index_or, cond, refl, ap, sym, subst, ◌∙◌, arith}
use Rattle.std.specs.List.{filter}
use Rattle.std.specs.List.Sorted.{IsSortedBy, IsStableBy, ties}
use Rattle.std.specs.Cmp.{IsStrictWeakOrder}
use Rattle.std.proofs.lemmas.List.Sorted.{sorted_far, ranks_by}
use Rattle.pep440_specifier.specs.Matching.{SpecifierRecord}
use Rattle.pep440_specifier_list.specs.Lists.{IsByVersion, IsInOrder}
use Rattle.pep440_version.specs.OrderLaws.{version_cmp_total}

module _ {X : Type 0} (lt : X → X → Bool) (order : IsStrictWeakOrder lt) where
  -- no element of the list is less than x
  abbrev NoneBelow : X → List X → Type 0
  NoneBelow x [] = Unit {0}
  NoneBelow x (y ∷ ys) = (lt y x ≡ false) × NoneBelow x ys

  abbrev Rises : List X → Type 0
  Rises [] = Unit {0}
  Rises (x ∷ xs) = NoneBelow x xs × Rises xs

  none_below : (x : X) (xs : List X) → ((k : ℕ) → k < length xs → lt (slice_index_or xs k x) x ≡ false) →
      NoneBelow x xs
  none_below x [] h = tt
  none_below x (y ∷ ys) h = (h 0 (omega arith), none_below x ys (λ k p. h (suc k) (omega arith)))

  rises_by : (xs : List X) →
      ((i j : ℕ) (d : X) → i ≤ j → j < length xs
      → lt (slice_index_or xs j d) (slice_index_or xs i d) ≡ false) → Rises xs
  rises_by [] h = tt
  rises_by (x ∷ xs) h = (
    none_below x xs (λ k p. h 0 (suc k) x (omega arith) (omega arith)),
    rises_by xs (λ i j d p q. h (suc i) (suc j) d (omega arith) (omega arith)),
  )

  rises : (xs : List X) → IsSortedBy lt xs → Rises xs
  rises xs up = rises_by xs (sorted_far lt order xs up)

  -- ---- heads

  by_itself : (b : Bool) → (b ≡ true → b ≡ false) → b ≡ false
  by_itself true h = h refl
  by_itself false h = refl

  not_less : (x : X) → lt x x ≡ false
  not_less x = by_itself (lt x x) (order.one_way x x)

  ties_itself : (x : X) → ties lt x x ≡ true
  ties_itself x = ap (λ b. not b && not b) (not_less x)

  less_too : (y x z : X) (b : Bool) → lt y z ≡ b → lt y x ≡ true → lt z x ≡ false → b ≡ true
  less_too y x z true e h k = refl
  less_too y x z false e h k = sym (order.chain y z x e k) ∙ h

  no_tie : (y x z : X) → lt y x ≡ true → lt z x ≡ false → ties lt y z ≡ false
  no_tie y x z h k = ap (λ b. not b && not (lt z y)) (less_too y x z (lt y z) refl h k)

  -- what is below the least ties with none
  none_tie : (y x : X) (xs : List X) → lt y x ≡ true → NoneBelow x xs → filter (ties lt y) xs ≡ []
  none_tie y x [] h k = refl
  none_tie y x (z ∷ xs) h k =
      ap (λ b. cond b (z ∷ filter (ties lt y) xs) (filter (ties lt y) xs)) (no_tie y x z h k.0)
      ∙ none_tie y x xs h k.1

  itself_kept : (y : X) (ys : List X) → filter (ties lt y) (y ∷ ys) ≡ y ∷ filter (ties lt y) ys
  itself_kept y ys =
      ap (λ b. cond b (y ∷ filter (ties lt y) ys) (filter (ties lt y) ys)) (ties_itself y)

  not_both : {Y : Type 0} (y : Y) (ys zs : List Y) → zs ≡ y ∷ ys → zs ≡ [] → ⊥
  not_both y ys zs e h = cc

  none_less : (b : Bool) (y x : X) (ys xs : List X) → lt y x ≡ b → NoneBelow x xs →
      filter (ties lt y) (y ∷ ys) ≡ filter (ties lt y) (x ∷ xs) → b ≡ false
  none_less false y x ys xs e h same = refl
  none_less true y x ys xs e h same =
      absurd
      (not_both y (filter (ties lt y) ys) (filter (ties lt y) (y ∷ ys)) (itself_kept y ys)
      (same ∙ none_tie y x (x ∷ xs) e (not_less x, h)))

  heads_tie : (x y : X) (xs ys : List X) → NoneBelow x xs → NoneBelow y ys → IsStableBy lt (x ∷ xs) (y ∷ ys) →
      ties lt x y ≡ true
  heads_tie x y xs ys hx hy same =
      let more : lt y x ≡ false = none_less (lt y x) y x ys xs refl hx (same y) in
      let less : lt x y ≡ false = none_less (lt x y) x y xs ys refl hy (sym (same x)) in
      ap (λ b. not b && not (lt y x)) less ∙ ap (λ b. true && not b) more

  first_same : (x y : X) (xs ys : List X) → x ∷ xs ≡ y ∷ ys → x ≡ y
  first_same x y xs ys e = cc

  heads_same : (x y : X) (xs ys : List X) → ties lt x y ≡ true → IsStableBy lt (x ∷ xs) (y ∷ ys) → y ≡ x
  heads_same x y xs ys tie same =
      first_same y x (filter (ties lt x) ys) (filter (ties lt x) xs)
      (sym (ap (λ b. cond b (y ∷ filter (ties lt x) ys) (filter (ties lt x) ys)) tie)
      ∙ same x ∙ itself_kept x xs)

  -- ---- tails

  tails_if : (b : Bool) (x : X) (xs ys : List X) → cond b (x ∷ ys) ys ≡ cond b (x ∷ xs) xs → ys ≡ xs
  tails_if true x xs ys e = cc
  tails_if false x xs ys e = e

  tails_same : (x y : X) (xs ys : List X) → y ≡ x → IsStableBy lt (x ∷ xs) (y ∷ ys) → IsStableBy lt xs ys
  tails_same x y xs ys e same z =
      tails_if (ties lt z x) x (filter (ties lt z) xs) (filter (ties lt z) ys)
      (subst (λ w. filter (ties lt z) (w ∷ ys) ≡ filter (ties lt z) (x ∷ xs)) e (same z))

  one_order : (xs ys : List X) → Rises xs → Rises ys → IsStableBy lt xs ys → ys ≡ xs
  one_order [] [] hx hy same = refl
  one_order [] (y ∷ ys) hx hy same =
      absurd (not_both y (filter (ties lt y) ys) (filter (ties lt y) (y ∷ ys)) (itself_kept y ys) (same y))
  one_order (x ∷ xs) [] hx hy same =
      absurd
      (not_both x (filter (ties lt x) xs) (filter (ties lt x) (x ∷ xs)) (itself_kept x xs) (sym (same x)))
  one_order (x ∷ xs) (y ∷ ys) hx hy same =
      let first : y ≡ x = heads_same x y xs ys (heads_tie x y xs ys hx.0 hy.0 same) same in
      ap (λ l. y ∷ l) (one_order xs ys hx.1 hy.1 (tails_same x y xs ys first same)) ∙ ap (λ w. w ∷ xs) first

  pub some_left : (xs ys : List X) → 0 < length xs → IsStableBy lt xs ys → 0 < length ys
  some_left [] ys some same = absurd (omega arith)
  some_left (x ∷ xs) [] some same =
      absurd
      (not_both x (filter (ties lt x) xs) (filter (ties lt x) (x ∷ xs)) (itself_kept x xs) (sym (same x)))
  some_left (x ∷ xs) (y ∷ ys) some same = omega arith

  pub sorted_again : (xs ys : List X) → IsSortedBy lt xs → IsSortedBy lt ys → IsStableBy lt xs ys → ys ≡ xs
  sorted_again xs ys hx hy same = one_order xs ys (rises xs hx) (rises ys hy) same

pub in_order_again : (given list : List SpecifierRecord) → IsByVersion given → IsInOrder given list →
    list ≡ given
in_order_again given list sorted h =
    sorted_again _ (ranks_by version_cmp_total (λ s. s.version)) given list sorted h.sorted h.stable

pub some_kept : (given list : List SpecifierRecord) → 0 < length given → IsInOrder given list →
    0 < length list
some_kept given list some h =
    some_left _ (ranks_by version_cmp_total (λ s. s.version)) given list some h.stable
