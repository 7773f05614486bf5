-- What turns hold, over a total order.
use Rattle.std.proofs.Common.{◌≡◌, Bool, true, false, not, List, [], ◌∷◌, ◌++◌, refl, ap, sym, ◌∙◌}
use Rattle.std.specs.List.{AllByRecursion}
use Rattle.std.specs.declared.cmp.Ordering.{Ordering}
use Rattle.std.specs.declared.cmp.Ordering.TheVariants.{Less, Equal, Greater}
use Rattle.std.specs.Ordering.{is_gt, ordering_reverse, ordering_then}
use Rattle.std.specs.Cmp.Lexicographic.{slice_cmp}
use Rattle.std.specs.Cmp.{IsTotalOrder, tied_itself, alike_right}
use mathlib.Core.Bool.{beq}
use Rattle.version_ranges.specs.Turns.{flips, reaches, is_held, Rising}
use Rattle.version_ranges.specs.HashingLaws.{then_equal}

-- membership beyond all turns
abbrev pub is_held_beyond : {K : Type 0} → List K → Bool
is_held_beyond [] = false
is_held_beyond (x ∷ xs) = not (is_held_beyond xs)

-- each of xs before each of ys
abbrev pub Below : {K : Type 0} → (K → K → Ordering) → List K → List K → Type 0
Below R xs ys = AllByRecursion (λ y. AllByRecursion (λ x. R x y ≡ Less) xs) ys

pub not_not : (b : Bool) → not (not b) ≡ b
not_not true = refl
not_not false = refl

pub flips_assoc : (a b c : Bool) → flips a (flips b c) ≡ flips (flips a b) c
flips_assoc true true c = not_not c
flips_assoc true false c = refl
flips_assoc false b c = refl

pub flips_false : (a : Bool) → flips a false ≡ a
flips_false true = refl
flips_false false = refl

pub not_flips : (a b : Bool) → not (flips a b) ≡ flips (not a) b
not_flips true b = not_not b
not_flips false b = refl

pub flips_comm : (a b : Bool) → flips a b ≡ flips b a
flips_comm true true = refl
flips_comm true false = refl
flips_comm false true = refl
flips_comm false false = refl

-- one or the other, not both
pub differs : (a b : Bool) → not (beq a b) ≡ flips b a
differs true true = refl
differs true false = refl
differs false true = refl
differs false false = refl

module _ {K : Type 0} where
  pub is_held_beyond-append : (xs ys : List K) →
      is_held_beyond (xs ++ ys) ≡ flips (is_held_beyond xs) (is_held_beyond ys)
  is_held_beyond-append [] ys = refl
  is_held_beyond-append (x ∷ xs) ys =
      ap not (is_held_beyond-append xs ys) ∙ not_flips (is_held_beyond xs) (is_held_beyond ys)

  pub all_append : (P : K → Type 0) (xs ys : List K) → AllByRecursion P xs → AllByRecursion P ys →
      AllByRecursion P (xs ++ ys)
  all_append P [] ys a b = b
  all_append P (x ∷ xs) ys a b = (a.0, all_append P xs ys a.1 b)

  pub all_weaker : (P Q : K → Type 0) → ((x : K) → P x → Q x) → (xs : List K) → AllByRecursion P xs →
      AllByRecursion Q xs
  all_weaker P Q f [] a = tt
  all_weaker P Q f (x ∷ xs) a = (f x a.0, all_weaker P Q f xs a.1)

  module _ (R : K → K → Ordering) where
    pub is_held-append : (xs ys : List K) (p : K) →
        is_held R (xs ++ ys) p ≡ flips (is_held R xs p) (is_held R ys p)
    is_held-append [] ys p = refl
    is_held-append (x ∷ xs) ys p =
        ap (flips (reaches R x p)) (is_held-append xs ys p)
        ∙ flips_assoc (reaches R x p) (is_held R xs p) (is_held R ys p)

    -- each turn reaches the point
    pub held_past : (p : K) (xs : List K) → AllByRecursion (λ x. reaches R x p ≡ true) xs →
        is_held R xs p ≡ is_held_beyond xs
    held_past p [] a = refl
    held_past p (x ∷ xs) a = ap (λ b. flips b (is_held R xs p)) a.0 ∙ ap not (held_past p xs a.1)

    -- no turn does
    pub held_before : (p : K) (xs : List K) → AllByRecursion (λ x. reaches R x p ≡ false) xs →
        is_held R xs p ≡ false
    held_before p [] a = refl
    held_before p (x ∷ xs) a = ap (λ b. flips b (is_held R xs p)) a.0 ∙ held_before p xs a.1

    pub rising_append : (xs ys : List K) → Rising R xs → Rising R ys → Below R xs ys → Rising R (xs ++ ys)
    rising_append [] ys a b c = b
    rising_append (x ∷ xs) ys a b c = (
      all_append (λ later. R x later ≡ Less) xs ys a.0 (all_weaker _ (λ y. R x y ≡ Less) (λ y h. h.0) ys c),
      rising_append xs ys a.1 b
          (all_weaker _ (λ y. AllByRecursion (λ x. R x y ≡ Less) xs) (λ y h. h.1) ys c),
    )

    module _ (o : IsTotalOrder R) where
      -- x before t, and t up to p
      pub past_less : (x t p : K) (r : Ordering) → R t p ≡ r → R x t ≡ Less → is_gt r ≡ false →
          reaches R x p ≡ true
      past_less x t p Less e h g = ap (λ r. not (is_gt r)) (o.trans x t p h e)
      past_less x t p Equal e h g = ap (λ r. not (is_gt r)) (sym (alike_right o t p x e) ∙ h)
      past_less x t p Greater e h g = absurd (cc)

      -- x at t
      pub like : (x t p : K) → R x t ≡ Equal → reaches R x p ≡ reaches R t p
      like x t p h = ap (λ r. not (is_gt r)) (o.congr x t p h)

      -- t before y, and t not up to p
      pub before_less : (y t p : K) → R t p ≡ Greater → R t y ≡ Less → reaches R y p ≡ false
      before_less y t p e h =
          let back : R p t ≡ Less = o.antisymm p t ∙ ap ordering_reverse e in
          ap (λ r. not (is_gt r)) (o.antisymm y p ∙ ap ordering_reverse (o.trans p t y back h))

      pub all_past : (t p : K) → is_gt (R t p) ≡ false → (xs ts : List K) →
          AllByRecursion (λ x. R x t ≡ Less) xs → AllByRecursion (λ x. R x t ≡ Equal) ts →
          is_held R (xs ++ ts) p ≡ is_held_beyond (xs ++ ts)
      all_past t p g xs ts a b =
          held_past p (xs ++ ts)
          (all_append (λ x. reaches R x p ≡ true) xs ts
          (all_weaker _ (λ x. reaches R x p ≡ true) (λ x h. past_less x t p (R t p) refl h g) xs a)
          (all_weaker _ (λ x. reaches R x p ≡ true) (λ x h. like x t p h ∙ ap not g) ts b))

      pub same_before : (t p : K) → is_gt (R t p) ≡ true → (xs ts : List K) →
          AllByRecursion (λ x. R x t ≡ Equal) ts → is_held R (xs ++ ts) p ≡ is_held R xs p
      same_before t p g xs ts b =
          is_held-append xs ts p
          ∙ ap (flips (is_held R xs p))
          (held_before p ts
          (all_weaker _ (λ x. reaches R x p ≡ false) (λ x h. like x t p h ∙ ap not g) ts b))
          ∙ flips_false (is_held R xs p)

      -- one more turn t, or none, behind each of three lists that is_held_beyond before it
      module _ (f : Bool → Bool → Bool) (t : K) (da ta db tb out to : List K) where
        pub step_at : (p : K) (g : Bool) → is_gt (R t p) ≡ g
            → AllByRecursion (λ x. R x t ≡ Less) da → AllByRecursion (λ x. R x t ≡ Equal) ta
            → AllByRecursion (λ x. R x t ≡ Less) db → AllByRecursion (λ x. R x t ≡ Equal) tb
            → AllByRecursion (λ x. R x t ≡ Less) out → AllByRecursion (λ x. R x t ≡ Equal) to
            → is_held_beyond (out ++ to) ≡ f (is_held_beyond (da ++ ta)) (is_held_beyond (db ++ tb))
            → is_held R out p ≡ f (is_held R da p) (is_held R db p)
            → is_held R (out ++ to) p ≡ f (is_held R (da ++ ta) p) (is_held R (db ++ tb) p)
        step_at p true g a ea b eb u eu e h =
            same_before t p g out to eu ∙ h
            ∙ (λ i. f (sym (same_before t p g da ta ea) i) (sym (same_before t p g db tb eb) i))
        step_at p false g a ea b eb u eu e h =
            all_past t p g out to u eu ∙ e
            ∙ (λ i. f (sym (all_past t p g da ta a ea) i) (sym (all_past t p g db tb b eb) i))

      -- what ends before t, and some turns at t, come before what t comes before
      pub below_step : (t : K) (xs ts ys : List K) → AllByRecursion (λ x. R x t ≡ Less) xs →
          AllByRecursion (λ x. R x t ≡ Equal) ts → AllByRecursion (λ y. R t y ≡ Less) ys →
          Below R (xs ++ ts) ys
      below_step t xs ts ys a b c =
          all_weaker (λ y. R t y ≡ Less) (λ y. AllByRecursion (λ x. R x y ≡ Less) (xs ++ ts))
          (λ y h. all_append (λ x. R x y ≡ Less) xs ts
          (all_weaker (λ x. R x t ≡ Less) (λ x. R x y ≡ Less) (λ x k. o.trans x t y k h) xs a)
          (all_weaker (λ x. R x t ≡ Equal) (λ x. R x y ≡ Less) (λ x k. o.congr x t y k ∙ h) ts b))
          ys c

      -- t in place of one like it
      pub below_like : (t u : K) (xs : List K) → R t u ≡ Equal → AllByRecursion (λ x. R x t ≡ Less) xs →
          AllByRecursion (λ x. R x u ≡ Less) xs
      below_like t u xs e a =
          all_weaker (λ x. R x t ≡ Less) (λ x. R x u ≡ Less) (λ x k. sym (alike_right o t u x e) ∙ k) xs a

module _ {K : Type 0} {R : K → K → Ordering} (o : IsTotalOrder R) where
  -- t before the head of a rising list is before all of it
  pub before_head : (t y : K) (ys : List K) → R t y ≡ Less → Rising R (y ∷ ys) →
      AllByRecursion (λ z. R t z ≡ Less) (y ∷ ys)
  before_head t y ys h r =
      (h, all_weaker (λ z. R y z ≡ Less) (λ z. R t z ≡ Less) (λ z k. o.trans t y z h k) ys r.0)

  -- one set of points has one rising list of turns
  pub reached_itself : (x : K) → reaches R x x ≡ true
  reached_itself x = ap (λ r. not (is_gt r)) (tied_itself o x)

  pub not_later : (x y : K) → R x y ≡ Less → reaches R y x ≡ false
  not_later x y h = ap (λ r. not (is_gt r)) (o.antisymm y x ∙ ap ordering_reverse h)

  -- where x comes before all turns of ys, x is not held by them
  pub none_at : (x : K) (ys : List K) → AllByRecursion (λ y. R x y ≡ Less) ys → is_held R ys x ≡ false
  none_at x ys a =
      held_before R x ys
      (all_weaker (λ y. R x y ≡ Less) (λ y. reaches R y x ≡ false) (λ y h. not_later x y h) ys a)

  pub held_at_head : (x : K) (xs : List K) → Rising R (x ∷ xs) → is_held R (x ∷ xs) x ≡ true
  held_at_head x xs r = ap (λ b. flips b (is_held R xs x)) (reached_itself x) ∙ ap not (none_at x xs r.0)

  apart : {A : Type 0} (x y : K) (xs ys : List K) → R x y ≡ Less → Rising R (x ∷ xs) → Rising R (y ∷ ys) →
      ((p : K) → is_held R (x ∷ xs) p ≡ is_held R (y ∷ ys) p) → A
  apart x y xs ys h r s e =
      let l : true ≡ false =
      sym (held_at_head x xs r) ∙ (e x ∙ none_at x (y ∷ ys) (before_head x y ys h s)) in absurd (cc)

  pub flips_same : (a b c : Bool) → flips a b ≡ flips a c → b ≡ c
  flips_same true true true e = refl
  flips_same true true false e = sym e
  flips_same true false true e = sym e
  flips_same true false false e = refl
  flips_same false b c e = e

  same_heads : (x y : K) (xs ys : List K) (c : Ordering) → R x y ≡ c → Rising R (x ∷ xs) →
      Rising R (y ∷ ys) → ((p : K) → is_held R (x ∷ xs) p ≡ is_held R (y ∷ ys) p) → R x y ≡ Equal
  same_heads x y xs ys Less h r s e = apart x y xs ys h r s e
  same_heads x y xs ys Equal h r s e = h
  same_heads x y xs ys Greater h r s e =
      apart y x ys xs (o.antisymm y x ∙ ap ordering_reverse h) s r (λ p. sym (e p))

  pub canonical : (xs ys : List K) → Rising R xs → Rising R ys →
      ((p : K) → is_held R xs p ≡ is_held R ys p) → slice_cmp R xs ys ≡ Equal
  canonical [] [] r s e = refl
  canonical [] (y ∷ ys) r s e = let l : false ≡ true = e y ∙ held_at_head y ys s in absurd (cc)
  canonical (x ∷ xs) [] r s e = let l : false ≡ true = sym (e x) ∙ held_at_head x xs r in absurd (cc)
  canonical (x ∷ xs) (y ∷ ys) r s e =
      let h : R x y ≡ Equal = same_heads x y xs ys (R x y) refl r s e in
      ap (λ c. ordering_then c (slice_cmp R xs ys)) h
      ∙ canonical xs ys r.1 s.1
      (λ p. flips_same (reaches R x p) (is_held R xs p) (is_held R ys p)
      (e p ∙ ap (λ b. flips b (is_held R ys p)) (sym (like R o x y p h))))

  -- equal lists hold the same points
  pub same_points : (xs ys : List K) → slice_cmp R xs ys ≡ Equal → (p : K) → is_held R xs p ≡ is_held R ys p
  same_points [] [] e p = refl
  same_points [] (y ∷ ys) e p = absurd (cc)
  same_points (x ∷ xs) [] e p = absurd (cc)
  same_points (x ∷ xs) (y ∷ ys) e p =
      let both = then_equal (R x y) (slice_cmp R xs ys) e in
      (λ i. flips (like R o x y p both.0 i) (same_points xs ys both.1 p i))

  -- a list that is equal to a rising one rises
  tied_before : (x y : K) (xs ys : List K) → R x y ≡ Equal → slice_cmp R xs ys ≡ Equal →
      AllByRecursion (λ z. R y z ≡ Less) ys → AllByRecursion (λ z. R x z ≡ Less) xs
  tied_before x y [] [] e f a = tt
  tied_before x y [] (w ∷ ys) e f a = absurd (cc)
  tied_before x y (v ∷ xs) [] e f a = absurd (cc)
  tied_before x y (v ∷ xs) (w ∷ ys) e f a =
      let both = then_equal (R v w) (slice_cmp R xs ys) f in
      (alike_right o v w x both.0 ∙ o.congr x y w e ∙ a.0, tied_before x y xs ys e both.1 a.1)

  pub tied_rises : (xs ys : List K) → slice_cmp R xs ys ≡ Equal → Rising R ys → Rising R xs
  tied_rises [] ys e r = tt
  tied_rises (x ∷ xs) [] e r = absurd (cc)
  tied_rises (x ∷ xs) (y ∷ ys) e r =
      let both = then_equal (R x y) (slice_cmp R xs ys) e in
      (tied_before x y xs ys both.0 both.1 r.0, tied_rises xs ys both.1 r.1)
