-- Simplified clauses: none without a comparison, and some where there were some.
use Rattle.std.proofs.Common.{◌≡◌, Bool, true, ◌||◌, List, [], ◌∷◌, ◌++◌, inl, inr, refl, sym, ap, subst, ◌∙◌}
use Rattle.std.proofs.Common.{append_assoc}
use Rattle.std.proofs.lemmas.Bool.{cases_Bool, false≢true}
use Rattle.std.proofs.lemmas.List.{append-nil}
use Rattle.std.specs.List.{AllByRecursion, filter, list_any}
use Rattle.version_ranges.proofs.Membership.{all_append}
use Rattle.pep508_error.proofs.Tests.{and_parts}
use Rattle.pep508_marker_text_laws.specs.Simplified.{sifted, has_some, spares, is_needless, shortened_behind}
use Rattle.pep508_marker_text_laws.specs.Simplified.{is_covered, simplified}

-- there are some
abbrev pub IsSome : {A : Type 0} → List A → Type 0
IsSome xs = has_some xs ≡ true

pub some_middle : {A : Type 0} (xs ys : List A) (x : A) → IsSome (xs ++ (x ∷ ys))
some_middle [] ys x = refl
some_middle (y ∷ xs) ys x = refl

pub any_some : {A : Type 0} (test : A → Bool) (xs : List A) → list_any test xs ≡ true → IsSome xs
any_some test [] h = absurd (false≢true h)
any_some test (x ∷ xs) h = refl

-- of some elements some are left, where none is dropped that stands alone
module _ {A : Type 0} (drops : A → List A → Bool)
    (others_stand : (x : A) (others : List A) → drops x others ≡ true → IsSome others) where
  pub sifted_some : (kept xs : List A) → IsSome (kept ++ xs) → IsSome (sifted drops kept xs)
  sifted_some kept [] h = subst IsSome (append-nil kept) h
  sifted_some kept (x ∷ later) h = elim (cases_Bool (drops x (kept ++ later))) [
    | inl dropped ↦
        rw dropped (sifted_some kept later (others_stand x (kept ++ later) dropped))
    | inr stays ↦
        rw stays
        (sifted_some (kept ++ (x ∷ [])) later
        (subst IsSome (sym (append_assoc kept (x ∷ []) later)) (some_middle kept later x)))
  ]

module _ {A : Type 0} (P : A → Type 0) (drops : A → List A → Bool) where
  sifted_each : (kept xs : List A) → AllByRecursion P kept → AllByRecursion P xs →
      AllByRecursion P (sifted drops kept xs)
  sifted_each kept [] h k = h
  sifted_each kept (x ∷ later) h k = elim (cases_Bool (drops x (kept ++ later))) [
    | inl dropped ↦ rw dropped (sifted_each kept later h k.1)
    | inr stays ↦
        rw stays (sifted_each (kept ++ (x ∷ [])) later (all_append P kept (x ∷ []) h (k.0, tt)) k.1)
  ]

pub filter_each : {A : Type 0} (test : A → Bool) (xs : List A) →
    AllByRecursion (λ x. test x ≡ true) (filter test xs)
filter_each test [] = tt
filter_each test (x ∷ xs) = elim (cases_Bool (test x)) [
  | inl passes ↦ rw passes (passes, filter_each test xs)
  | inr fails ↦ rw fails (filter_each test xs)
]

pub filter_some : {A : Type 0} (test : A → Bool) (xs : List A) → list_any test xs ≡ true →
    IsSome (filter test xs)
filter_some test [] h = h
filter_some test (x ∷ xs) h = elim (cases_Bool (test x)) [
  | inl passes ↦ rw passes refl
  | inr fails ↦
      let later : list_any test xs ≡ true = sym (ap (λ b. b || list_any test xs) fails) ∙ h in
      rw fails (filter_some test xs later)
]

module _ {T : Type 0} (same opposite : T → T → Bool) where
  needless_beside : (others : List (List T)) (term : T) (rest : List T) →
      is_needless same opposite others term rest ≡ true → IsSome rest
  needless_beside others term rest h =
      (and_parts (has_some rest) (list_any (spares same opposite term rest) others) h).0

  covered_beside : (clause : List T) (others : List (List T)) →
      is_covered same opposite clause others ≡ true → IsSome others
  covered_beside clause others h = any_some _ others h

  shortened_each : (done clauses : List (List T)) → AllByRecursion IsSome done →
      AllByRecursion IsSome clauses → AllByRecursion IsSome (shortened_behind same opposite done clauses)
  shortened_each done [] h k = h
  shortened_each done (clause ∷ later) h k =
      let drops = is_needless same opposite (done ++ later) in
      let short : IsSome (sifted drops [] clause) =
      sifted_some drops (needless_beside (done ++ later)) [] clause k.0 in
      shortened_each (done ++ (sifted drops [] clause ∷ [])) later
      (all_append IsSome done (sifted drops [] clause ∷ []) h (short, tt)) k.1

  shortened_some : (done clauses : List (List T)) → IsSome (done ++ clauses) →
      IsSome (shortened_behind same opposite done clauses)
  shortened_some done [] h = subst IsSome (append-nil done) h
  shortened_some done (clause ∷ later) h =
      let short = sifted (is_needless same opposite (done ++ later)) [] clause in
      shortened_some (done ++ (short ∷ [])) later
      (subst IsSome (sym (append_assoc done (short ∷ []) later)) (some_middle done later short))

  -- no clause loses its last term
  pub simplified_each : (clauses : List (List T)) → AllByRecursion IsSome clauses →
      AllByRecursion IsSome (simplified same opposite clauses)
  simplified_each clauses h =
      sifted_each IsSome (is_covered same opposite) [] (shortened_behind same opposite [] clauses) tt
      (shortened_each [] clauses tt h)

  -- the last clause is kept
  pub simplified_some : (clauses : List (List T)) → IsSome clauses → IsSome (simplified same opposite clauses)
  simplified_some clauses h =
      sifted_some (is_covered same opposite) covered_beside [] (shortened_behind same opposite [] clauses)
      (shortened_some [] clauses h)
