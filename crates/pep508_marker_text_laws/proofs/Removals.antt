-- Each removal of a needless term, and of a covered clause, keeps the meaning of the disjunction.
use Rattle.std.proofs.Common.{◌≡◌, Bool, true, false, not, ◌&&◌, ◌||◌, cond, List, [], ◌∷◌, ◌++◌, refl, sym}
use Rattle.std.proofs.Common.{ap, ◌∙◌, ◌⊎◌, inl, inr, true≢false}
use Rattle.std.specs.List.{list_all, list_any}
use Rattle.std.proofs.lemmas.List.{append_assoc, append-nil}
use Rattle.std.proofs.lemmas.List.Folds.{list_all-append, list_any-append}
use Rattle.pep508_marker_text_laws.specs.Simplified.{sifted, has_some, stands_in, spares, is_needless}
use Rattle.pep508_marker_text_laws.specs.Simplified.{shortened_behind, is_covered, simplified}
use Rattle.pep508_marker_text_laws.specs.Truth.{one_holds, IsTruth}

-- ---- truths

pub either : (a b : Bool) → (a || b) ≡ true → (a ≡ true) ⊎ (b ≡ true)
either true b e = inl refl
either false b e = inr e

pub second_holds : (a b : Bool) → b ≡ true → (a || b) ≡ true
second_holds true b e = refl
second_holds false b e = e

pub both : (a b : Bool) → (a && b) ≡ true → (a ≡ true) × (b ≡ true)
both true b e = (refl, e)
both false b e = absurd (true≢false (sym e))

pub together : (a b : Bool) → a ≡ true → b ≡ true → (a && b) ≡ true
together true b e f = f
together false b e f = absurd (true≢false (sym e))

module _ {A : Type 0} (p q : A → Bool) (so : (x : A) → p x ≡ true → q x ≡ true) where
  pub some_too : (xs : List A) → list_any p xs ≡ true → list_any q xs ≡ true
  some_too [] e = e
  some_too (x ∷ xs) e = elim (either (p x) (list_any p xs) e) [
    | inl here ↦ ap (λ b. b || list_any q xs) (so x here)
    | inr later ↦ second_holds (q x) (list_any q xs) (some_too xs later)
  ]

  pub all_too : (xs : List A) → list_all p xs ≡ true → list_all q xs ≡ true
  all_too [] e = e
  all_too (x ∷ xs) e =
      let parts = both (p x) (list_all p xs) e in
      together (q x) (list_all q xs) (so x parts.0) (all_too xs parts.1)

-- ---- one removal

needless_between : (a b f t r : Bool) → (t ≡ false → (f && r) ≡ true → (a || b) ≡ true) →
    (a || ((f && (t && r)) || b)) ≡ (a || ((f && r) || b))
needless_between true b f t r h = refl
needless_between false b false t r h = refl
needless_between false b true true r h = refl
needless_between false b true false true h = h refl refl
needless_between false b true false false h = refl

covered_between : (a b x : Bool) → (x ≡ true → (a || b) ≡ true) → (a || (x || b)) ≡ (a || b)
covered_between true b x h = refl
covered_between false b true h = sym (h refl)
covered_between false b false h = refl

module _ {T : Type 0} {same opposite : T → T → Bool} {truth : T → Bool} (is : IsTruth same opposite truth) where
  -- what stands in a clause that holds, holds
  pub standing_holds : (clause : List T) (term : T) → list_all truth clause ≡ true →
      stands_in same opposite clause term ≡ true → truth term ≡ true
  standing_holds [] term all e = absurd (true≢false (sym e))
  standing_holds (t ∷ clause) term all e =
      let parts = both (truth t) (list_all truth clause) all in
      elim (either (same term t) (list_any (same term) clause) e) [
        | inl here ↦ is.alike term t here ∙ parts.0
        | inr later ↦ standing_holds clause term parts.1 later
      ]

  spared_holds : (term : T) (rest : List T) → truth term ≡ false → list_all truth rest ≡ true → (other : T) →
      (not (same term other) && (opposite term other || stands_in same opposite rest other)) ≡ true →
      truth other ≡ true
  spared_holds term rest wrong all other e =
      elim (either (opposite term other) (stands_in same opposite rest other)
      (both (not (same term other)) (opposite term other || stands_in same opposite rest other) e).1) [
        | inl turned ↦ is.contrary term other turned ∙ ap not wrong
        | inr stands ↦ standing_holds rest other all stands
      ]

  -- where a term is needless and alone doesn't hold, another clause holds
  other_holds : (others : List (List T)) (term : T) (rest : List T) →
      is_needless same opposite others term rest ≡ true → truth term ≡ false → list_all truth rest ≡ true →
      one_holds truth others ≡ true
  other_holds others term rest e wrong all =
      some_too (spares same opposite term rest) (list_all truth)
      (λ clause spared. all_too
      (λ other. not (same term other) && (opposite term other || stands_in same opposite rest other)) truth
      (spared_holds term rest wrong all) clause spared) others
      (both (has_some rest) (list_any (spares same opposite term rest) others) e).1

  -- a needless term can be left out
  pub needless_removed : (done later : List (List T)) (front behind : List T) (term : T) →
      is_needless same opposite (done ++ later) term (front ++ behind) ≡ true →
      one_holds truth (done ++ ((front ++ (term ∷ behind)) ∷ later))
      ≡ one_holds truth (done ++ ((front ++ behind) ∷ later))
  needless_removed done later front behind term e =
      let holds = list_all truth in
      let before = list_any holds done in
      let after = list_any holds later in
      list_any-append holds done ((front ++ (term ∷ behind)) ∷ later)
      ∙ ap (λ x. before || (x || after)) (list_all-append truth front (term ∷ behind))
      ∙ needless_between before after (holds front) (truth term) (holds behind)
      (λ wrong all. sym (list_any-append holds done later)
      ∙ other_holds (done ++ later) term (front ++ behind) e wrong
      (list_all-append truth front behind ∙ all))
      ∙ ap (λ x. before || (x || after)) (sym (list_all-append truth front behind))
      ∙ sym (list_any-append holds done ((front ++ behind) ∷ later))

  covering_holds : (clause : List T) → list_all truth clause ≡ true → (other : List T) →
      list_all (stands_in same opposite clause) other ≡ true → list_all truth other ≡ true
  covering_holds clause all other e =
      all_too (stands_in same opposite clause) truth (λ term stands. standing_holds clause term all stands) other
      e

  -- a covered clause can be left out
  pub covered_removed : (front behind : List (List T)) (clause : List T) →
      is_covered same opposite clause (front ++ behind) ≡ true →
      one_holds truth (front ++ (clause ∷ behind)) ≡ one_holds truth (front ++ behind)
  covered_removed front behind clause e =
      let holds = list_all truth in
      list_any-append holds front (clause ∷ behind)
      ∙ covered_between (list_any holds front) (list_any holds behind) (holds clause)
      (λ all. sym (list_any-append holds front behind)
      ∙ some_too (λ other. list_all (stands_in same opposite clause) other) holds (covering_holds clause all)
      (front ++ behind) e)
      ∙ sym (list_any-append holds front behind)

-- ---- one removal after another

module _ {A B : Type 0} (drops : A → List A → Bool) (measure : List A → B)
    (step : (front behind : List A) (x : A) → drops x (front ++ behind) ≡ true →
    measure (front ++ (x ∷ behind)) ≡ measure (front ++ behind)) where
  sifted_one : (kept later : List A) (x : A) (b : Bool) → drops x (kept ++ later) ≡ b →
      measure (sifted drops kept later) ≡ measure (kept ++ later) →
      measure (sifted drops (kept ++ (x ∷ [])) later) ≡ measure ((kept ++ (x ∷ [])) ++ later) →
      measure (cond b (sifted drops kept later) (sifted drops (kept ++ (x ∷ [])) later))
      ≡ measure (kept ++ (x ∷ later))
  sifted_one kept later x true e without with = without ∙ sym (step kept later x e)
  sifted_one kept later x false e without with = with ∙ ap measure (append_assoc kept (x ∷ []) later)

  -- what each removal keeps, all of them keep
  pub sifted_keeps : (kept xs : List A) → measure (sifted drops kept xs) ≡ measure (kept ++ xs)
  sifted_keeps kept [] = ap measure (sym (append-nil kept))
  sifted_keeps kept (x ∷ later) =
      sifted_one kept later x (drops x (kept ++ later)) refl (sifted_keeps kept later)
      (sifted_keeps (kept ++ (x ∷ [])) later)

module _ {T : Type 0} {same opposite : T → T → Bool} {truth : T → Bool} (is : IsTruth same opposite truth) where
  shortened_keeps : (done clauses : List (List T)) →
      one_holds truth (shortened_behind same opposite done clauses) ≡ one_holds truth (done ++ clauses)
  shortened_keeps done [] = ap (one_holds truth) (sym (append-nil done))
  shortened_keeps done (clause ∷ later) =
      let short = sifted (is_needless same opposite (done ++ later)) [] clause in
      shortened_keeps (done ++ (short ∷ [])) later
      ∙ ap (one_holds truth) (append_assoc done (short ∷ []) later)
      ∙ sifted_keeps (is_needless same opposite (done ++ later))
      (λ terms. one_holds truth (done ++ (terms ∷ later)))
      (λ front behind term e. needless_removed is done later front behind term e) [] clause

  -- the simplification keeps the meaning
  pub simplified_keeps : (clauses : List (List T)) →
      one_holds truth (simplified same opposite clauses) ≡ one_holds truth clauses
  simplified_keeps clauses =
      sifted_keeps (is_covered same opposite) (one_holds truth)
      (λ front behind clause e. covered_removed is front behind clause e) []
      (shortened_behind same opposite [] clauses)
      ∙ shortened_keeps [] clauses
