-- Sifting a list step by step.
use Rattle.std.proofs.Common.{◌≡◌, ℕ, suc, ◌==◌, Bool, true, false, not, ◌&&◌, ◌||◌, cond, List, [], ◌∷◌}
use Rattle.std.proofs.Common.{◌++◌, length, refl, sym, ap, ◌∙◌, arith}
use Rattle.std.specs.Prelude.{reverse}
use Rattle.std.specs.Cmp.{unsigned_Decides}
use Rattle.std.specs.List.{list_any, list_all}
use Rattle.std.proofs.lemmas.List.{reverse-append}
use Rattle.std.proofs.lemmas.List.Folds.{list_any-append}
use Rattle.std.proofs.lemmas.List.Sorted.{list_any-IsPermutation, IsPermutation-reverse}
use Rattle.pep508_marker_text_laws.specs.Simplified.{sifted, has_some, spares, is_needless, is_covered, stands_in}
use Rattle.pep508_marker_text_laws.specs.Simplified.{shortened_behind}
use Rattle.pep508_clauses.specs.declared.strays.Strays.{Strays}
use Rattle.pep508_clauses.specs.Sparing.{are_at_most, is_needless_by}

-- ---- the order of others doesn't matter

module _ {A : Type 0} (done later : List A) where
  pub any_turned : (p : A → Bool) → list_any p (done ++ later) ≡ list_any p (done ++ reverse later)
  any_turned p =
      list_any-append p done later
      ∙ ap (λ b. list_any p done || b)
      (list_any-IsPermutation p later (reverse later) (IsPermutation-reverse later))
      ∙ sym (list_any-append p done (reverse later))

pub popped : {A : Type 0} (xs : List A) (x : A) → reverse (xs ++ x ∷ []) ≡ x ∷ reverse xs
popped xs x = reverse-append xs (x ∷ [])

-- ---- one step: the last of what is left, which lies in reverse, is dropped or kept

module _ {A : Type 0} (drops : A → List A → Bool)
    (turned : (x : A) (kept later : List A) → drops x (kept ++ later) ≡ drops x (kept ++ reverse later))
    (all whole kept later : List A) (x : A) (known : all ≡ sifted drops kept (reverse whole))
    (is : whole ≡ later ++ x ∷ []) where
  abbrev next_by : Bool → List A
  next_by gone =
      cond gone (sifted drops kept (reverse later)) (sifted drops (kept ++ x ∷ []) (reverse later))

  next_is : all ≡ next_by (drops x (kept ++ later))
  next_is =
      known
      ∙ ap (λ w. sifted drops kept (reverse w)) is
      ∙ ap (sifted drops kept) (popped later x)
      ∙ ap next_by (sym (turned x kept later))

  after_drop : drops x (kept ++ later) ≡ true → all ≡ sifted drops kept (reverse later)
  after_drop gone = next_is ∙ ap next_by gone

  after_keep : (new : List A) → drops x (kept ++ later) ≡ false → new ≡ kept ++ x ∷ [] →
      all ≡ sifted drops new (reverse later)
  after_keep new stays pushed =
      next_is ∙ ap next_by stays ∙ ap (λ front. sifted drops front (reverse later)) (sym pushed)

some_is_any : {A : Type 0} (xs : List A) → has_some xs ≡ list_any (λ x. true) xs
some_is_any [] = refl
some_is_any (x ∷ xs) = refl

some_turned : {A : Type 0} (kept later : List A) → has_some (kept ++ later) ≡ has_some (kept ++ reverse later)
some_turned kept later =
    some_is_any (kept ++ later) ∙ any_turned kept later (λ x. true) ∙ sym (some_is_any (kept ++ reverse later))

is_false : (b : Bool) → (b ≡ true → ⊥) → b ≡ false
is_false true h = absurd (h refl)
is_false false h = refl

some_length : (n : ℕ) → (suc n == 0) ≡ false
some_length n = is_false (suc n == 0) (λ e. omega (arith, (unsigned_Decides (suc n) 0).0 e))

-- whether some stand in front or behind
pub some_beside : {A : Type 0} (front behind : List A) →
    has_some (front ++ behind) ≡ (not (length front == 0) || not (length behind == 0))
some_beside [] [] = refl
some_beside [] (x ∷ behind) = ap (λ b. not b) (sym (some_length (length behind)))
some_beside (x ∷ front) behind = ap (λ b. not b || not (length behind == 0)) (sym (some_length (length front)))

-- whether a term stands in front or behind
pub stands_beside : {T : Type 0} (same opposite : T → T → Bool) (front behind : List T) (term : T) →
    stands_in same opposite (front ++ behind) term
    ≡ (stands_in same opposite front term || stands_in same opposite behind term)
stands_beside same opposite front behind term = list_any-append (same term) front behind

module _ {T : Type 0} (same opposite : T → T → Bool) where
  pub covered_beside : (clause : List T) (done later : List (List T)) →
      is_covered same opposite clause (done ++ later)
      ≡ (is_covered same opposite clause done || is_covered same opposite clause later)
  covered_beside clause done later =
      list_any-append (λ other. list_all (stands_in same opposite clause) other) done later

  needless_turned : (done later : List (List T)) →
      is_needless same opposite (done ++ later) ≡ is_needless same opposite (done ++ reverse later)
  needless_turned done later =
      λ i term rest. has_some rest && any_turned done later (spares same opposite term rest) i

  -- one clause is shortened
  pub shorten_step : (all whole done later : List (List T)) (x y : List T) (new : List (List T)) →
      all ≡ shortened_behind same opposite done (reverse whole) → whole ≡ later ++ x ∷ [] →
      y ≡ sifted (is_needless same opposite (done ++ later)) [] x → new ≡ done ++ y ∷ [] →
      all ≡ shortened_behind same opposite new (reverse later)
  shorten_step all whole done later x y new known is short pushed =
      known
      ∙ ap (λ w. shortened_behind same opposite done (reverse w)) is
      ∙ ap (shortened_behind same opposite done) (popped later x)
      ∙ ap (λ terms. shortened_behind same opposite (done ++ terms ∷ []) (reverse later))
      (ap (λ drops. sifted drops [] x) (sym (needless_turned done later)) ∙ sym short)
      ∙ ap (λ w. shortened_behind same opposite w (reverse later)) (sym pushed)

  -- one clause is kept or not
  pub covered_turned : (clause : List T) (kept later : List (List T)) →
      is_covered same opposite clause (kept ++ later) ≡ is_covered same opposite clause (kept ++ reverse later)
  covered_turned clause kept later = any_turned kept later (λ other. list_all (stands_in same opposite clause) other)

  pub drop_step : (all whole kept later : List (List T)) (x : List T) →
      all ≡ sifted (is_covered same opposite) kept (reverse whole) → whole ≡ later ++ x ∷ [] →
      is_covered same opposite x (kept ++ later) ≡ true →
      all ≡ sifted (is_covered same opposite) kept (reverse later)
  drop_step = after_drop (is_covered same opposite) covered_turned

  pub keep_step : (all whole kept later : List (List T)) (x : List T) →
      all ≡ sifted (is_covered same opposite) kept (reverse whole) → whole ≡ later ++ x ∷ [] →
      (new : List (List T)) → is_covered same opposite x (kept ++ later) ≡ false → new ≡ kept ++ x ∷ [] →
      all ≡ sifted (is_covered same opposite) new (reverse later)
  keep_step = after_keep (is_covered same opposite) covered_turned

  -- one term is kept or not
  module _ (negation : T → ℕ) (candidates : List (Strays × List T)) where
    abbrev drops : T → List T → Bool
    drops = is_needless_by same opposite negation candidates

    spared_turned : (term : T) (kept later other : List T) →
        spares same opposite term (kept ++ later) other ≡ spares same opposite term (kept ++ reverse later) other
    spared_turned term kept later other =
        λ i. list_all (λ it. not (same term it) && (opposite term it || any_turned kept later (same it) i)) other

    drops_turned : (term : T) (kept later : List T) → drops term (kept ++ later) ≡ drops term (kept ++ reverse later)
    drops_turned term kept later =
        λ i. some_turned kept later i
        && list_any (λ it. are_at_most (negation term) it.0 && spared_turned term kept later it.1 i) candidates

    pub drop_term : (all whole kept later : List T) (x : T) → all ≡ sifted drops kept (reverse whole) →
        whole ≡ later ++ x ∷ [] → drops x (kept ++ later) ≡ true → all ≡ sifted drops kept (reverse later)
    drop_term = after_drop drops drops_turned

    pub keep_term : (all whole kept later : List T) (x : T) → all ≡ sifted drops kept (reverse whole) →
        whole ≡ later ++ x ∷ [] → (new : List T) → drops x (kept ++ later) ≡ false → new ≡ kept ++ x ∷ [] →
        all ≡ sifted drops new (reverse later)
    keep_term = after_keep drops drops_turned
