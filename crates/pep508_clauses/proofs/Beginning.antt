-- A clause that begins otherwise than all others, and has one term, is covered by none.
use Rattle.std.proofs.Common.{◌≡◌, ℕ, ◌==◌, Bool, true, false, not, ◌||◌, List, [], ◌∷◌, ◌++◌, refl, sym, ap}
use Rattle.std.proofs.Common.{◌∙◌, subst, true≢false, arith, append_assoc, Option, Some, None, IfSome}
use Rattle.std.specs.Prelude.{reverse}
use Rattle.std.specs.Option.{option_map_or}
use Rattle.std.specs.Cmp.{unsigned_Decides}
use Rattle.std.specs.List.{list_any, list_all}
use Rattle.std.proofs.lemmas.List.Folds.{list_any-append}
use Rattle.pep508_marker_text_laws.specs.Simplified.{stands_in, is_covered}
use Rattle.pep508_marker_text_laws.proofs.Removals.{both}
use Rattle.pep508_clauses.specs.Apart.{AddsWord, begins, BeginApart, stands_apart}
use Rattle.pep508_clauses.specs.Sparing.{has}
use Rattle.pep508_clauses.proofs.Sifting.{covered_turned, popped}
use Rattle.pep508_clauses.proofs.Straying.{either_true, or_left, or_right}

is_false : (b : Bool) → (b ≡ true → ⊥) → b ≡ false
is_false true h = absurd (h refl)
is_false false h = refl

-- what is true and false at once
both_ways : {A : Type 0} (b : Bool) → b ≡ true → b ≡ false → A
both_ways b so not_so = absurd (true≢false (sym so ∙ not_so))

left_false : (a b : Bool) → (a || b) ≡ false → a ≡ false
left_false true b e = e
left_false false b e = refl

right_false : (a b : Bool) → (a || b) ≡ false → b ≡ false
right_false true b e = both_ways true refl e
right_false false b e = e

both_false : (a b : Bool) → a ≡ false → b ≡ false → (a || b) ≡ false
both_false true b x y = x
both_false false b x y = y

module _ {A : Type 0} where
  any_from : (p q : A → Bool) → ((x : A) → p x ≡ true → q x ≡ true) → (xs : List A) → list_any p xs ≡ true →
      list_any q xs ≡ true
  any_from p q from [] e = e
  any_from p q from (x ∷ xs) e =
      either_true (p x) (list_any p xs) _ (λ it. or_left (q x) _ (from x it))
      (λ it. or_right (q x) _ (any_from p q from xs it)) e

  -- where none of some elements and another is so, none is without the other
  without : (p : A → Bool) (front : List A) (x : A) (behind : List A) →
      list_any p (front ++ x ∷ behind) ≡ false → list_any p (front ++ behind) ≡ false
  without p front x behind e =
      let split = sym (list_any-append p front (x ∷ behind)) ∙ e in
      list_any-append p front behind
      ∙ both_false (list_any p front) (list_any p behind) (left_false (list_any p front) _ split)
      (right_false (p x) _ (right_false (list_any p front) _ split))

  -- nor is the other
  nor_other : (p : A → Bool) (front : List A) (x : A) (behind : List A) →
      list_any p (front ++ x ∷ behind) ≡ false → p x ≡ false
  nor_other p front x behind e =
      left_false (p x) _
      (right_false (list_any p front) _ (sym (list_any-append p front (x ∷ behind)) ∙ e))

module _ {T : Type 0} (literal : T → ℕ) where
  abbrev begin : ℕ → List (List T) → Bool
  begin word clauses = list_any (begins literal word) clauses

  -- ---- a clause more

  one_behind : (common : ℕ → Bool) (clauses : List (List T)) (clause : List T) →
      BeginApart literal common clauses →
      ((word : ℕ) → common word ≡ false → begins literal word clause ≡ true → begin word clauses ≡ false) →
      BeginApart literal common (clauses ++ clause ∷ [])
  one_behind common [] clause apart new = ((λ word rare it. refl), tt)
  one_behind common (first ∷ later) clause apart new = (
    (λ word rare it.
        list_any-append (begins literal word) later (clause ∷ [])
        ∙ both_false (begin word later) _ (apart.0 word rare it)
        (both_false (begins literal word clause) false
        (is_false (begins literal word clause)
        (λ e. both_ways (begins literal word first) it
        (left_false (begins literal word first) _ (new word rare e)))) refl)),
    one_behind common later clause apart.1
        (λ word rare it. right_false (begins literal word first) _ (new word rare it)),
  )

  still_apart : (common more : ℕ → Bool) → ((word : ℕ) → common word ≡ true → more word ≡ true) →
      (clauses : List (List T)) → BeginApart literal common clauses → BeginApart literal more clauses
  still_apart common more still [] apart = tt
  still_apart common more still (clause ∷ later) apart = (
    (λ word rare it.
        apart.0 word (is_false (common word) (λ e. both_ways (more word) (still word e) rare)) it),
    still_apart common more still later apart.1,
  )

  pub apart_step : (common more seen : ℕ → Bool) (clauses : List (List T)) (term : T) (terms : List T) →
      BeginApart literal common clauses → ((word : ℕ) → begin word clauses ≡ true → seen word ≡ true) →
      ((word : ℕ) → common word ≡ true → more word ≡ true) →
      (seen (literal term) ≡ true → more (literal term) ≡ true) →
      BeginApart literal more (clauses ++ (term ∷ terms) ∷ [])
  apart_step common more seen clauses term terms apart known still now =
      one_behind more clauses (term ∷ terms) (still_apart common more still clauses apart)
      (λ word rare it.
      let is = (unsigned_Decides (literal term) word).0 it in
      is_false (begin word clauses)
      (λ e. both_ways (more (literal term))
      (now (subst (λ w. seen w ≡ true) (sym is) (known word e)))
      (subst (λ w. more w ≡ false) (sym is) rare)))

  pub seen_step : (seen more : ℕ → Bool) (clauses : List (List T)) (term : T) (terms : List T) →
      ((word : ℕ) → begin word clauses ≡ true → seen word ≡ true) →
      ((word : ℕ) → seen word ≡ true → more word ≡ true) → more (literal term) ≡ true →
      (word : ℕ) → begin word (clauses ++ (term ∷ terms) ∷ []) ≡ true → more word ≡ true
  seen_step seen more clauses term terms known still now word e =
      either_true (begin word clauses) (begin word ((term ∷ terms) ∷ [])) _
      (λ it. still word (known word it))
      (λ it. either_true (literal term == word) false _
      (λ same. subst (λ w. more w ≡ true) ((unsigned_Decides (literal term) word).0 same) now)
      (λ no. both_ways false no refl) it)
      (sym (list_any-append (begins literal word) clauses ((term ∷ terms) ∷ [])) ∙ e)

  -- the words by which some clauses begin, and those that are common, with a clause more
  pub next_apart : (seen common now_seen now_common : List ℕ) (clauses all : List (List T)) (term : T)
      (terms : List T) → all ≡ clauses ++ (term ∷ terms) ∷ [] →
      BeginApart literal (has common) clauses
      × ((word : ℕ) → begin word clauses ≡ true → has seen word ≡ true) →
      AddsWord seen common (literal term) now_seen now_common →
      BeginApart literal (has now_common) all
      × ((word : ℕ) → begin word all ≡ true → has now_seen word ≡ true)
  next_apart seen common now_seen now_common clauses all term terms is known adds = (
    subst (BeginApart literal (has now_common)) (sym is)
        (apart_step (has common) (has now_common) (has seen) clauses term terms known.0 known.1
        adds.still_common adds.is_common),
    (λ word e. seen_step (has seen) (has now_seen) clauses term terms known.1 adds.still_seen adds.is_seen
        word (ap (begin word) (sym is) ∙ e)),
  )

  -- ---- a clause less

  pub one_less : (common : ℕ → Bool) (kept : List (List T)) (clause : List T) (later : List (List T)) →
      BeginApart literal common (kept ++ clause ∷ later) → BeginApart literal common (kept ++ later)
  one_less common [] clause later apart = apart.1
  one_less common (first ∷ kept) clause later apart = (
    (λ word rare it. without (begins literal word) kept clause later (apart.0 word rare it)),
    one_less common kept clause later apart.1,
  )

  -- no other clause begins so
  no_other : (common : ℕ → Bool) (kept : List (List T)) (clause : List T) (later : List (List T)) (word : ℕ) →
      common word ≡ false → begins literal word clause ≡ true →
      BeginApart literal common (kept ++ clause ∷ later) → begin word (kept ++ later) ≡ false
  no_other common [] clause later word rare it apart = apart.0 word rare it
  no_other common (first ∷ kept) clause later word rare it apart =
      both_false (begins literal word first) _
      (is_false (begins literal word first)
      (λ e. both_ways (begins literal word clause) it
      (nor_other (begins literal word) kept clause later (apart.0 word rare e))))
      (no_other common kept clause later word rare it apart.1)

  module _ (same opposite : T → T → Bool) (literal_of_same : (a b : T) → same a b ≡ true → literal a ≡ literal b)
    where
      -- a clause that covers one term begins by its word
      begins_so : (term : T) (other : List T) → list_all (stands_in same opposite (term ∷ [])) other ≡ true →
          begins literal (literal term) other ≡ true
      begins_so term [] e = refl
      begins_so term (first ∷ later) e =
          (unsigned_Decides (literal first) (literal term)).1
          (literal_of_same first term
          (either_true (same first term) false (same first term) (λ it. it) (λ no. both_ways false no refl)
          (both (stands_in same opposite (term ∷ []) first) _ e).0))

      pub apart_uncovered : (common : ℕ → Bool) (kept : List (List T)) (clause : List T) (later : List (List T)) →
          BeginApart literal common (kept ++ clause ∷ later) → stands_apart literal common clause ≡ true →
          is_covered same opposite clause (kept ++ later) ≡ false
      apart_uncovered common kept [] later apart e = both_ways false e refl
      apart_uncovered common kept (term ∷ next ∷ terms) later apart e = both_ways false e refl
      apart_uncovered common kept (term ∷ []) later apart e =
          let rare = is_false (common (literal term)) (λ it. both_ways (not (common (literal term))) e (ap (λ b. not b) it)) in
          is_false (is_covered same opposite (term ∷ []) (kept ++ later))
          (λ covered. both_ways (begin (literal term) (kept ++ later))
          (any_from (λ other. list_all (stands_in same opposite (term ∷ [])) other) (begins literal (literal term))
          (begins_so term) (kept ++ later) covered)
          (no_other common kept (term ∷ []) later (literal term) rare
          ((unsigned_Decides (literal term) (literal term)).1 refl) apart))

      module _ {A : Type 0} (common : A → ℕ → Bool) where
        abbrev KnowsApart : Option A → List (List T) → Type 0
        KnowsApart found clauses = IfSome found (λ words. BeginApart literal (common words) clauses)

        known_by : (found : Option A) (clauses others : List (List T)) →
            ((own : ℕ → Bool) → BeginApart literal own clauses → BeginApart literal own others) →
            KnowsApart found clauses → KnowsApart found others
        known_by None clauses others from known = tt
        known_by (Some words) clauses others from known = from (common words) known

        module _ (found : Option A) (kept whole later : List (List T)) (clause : List T)
            (is : whole ≡ later ++ clause ∷ []) (known : KnowsApart found (kept ++ reverse whole)) where
          turned : kept ++ reverse whole ≡ kept ++ clause ∷ reverse later
          turned = ap (λ l. kept ++ reverse l) is ∙ ap (λ l. kept ++ l) (popped later clause)

          pub popped_apart : KnowsApart found (kept ++ clause ∷ reverse later)
          popped_apart = subst (KnowsApart found) turned known

          pub dropped_apart : KnowsApart found (kept ++ reverse later)
          dropped_apart =
              known_by found (kept ++ clause ∷ reverse later) (kept ++ reverse later)
              (λ own. one_less own kept clause (reverse later)) popped_apart

          pub kept_apart : (new : List (List T)) → new ≡ kept ++ clause ∷ [] → KnowsApart found (new ++ reverse later)
          kept_apart new pushed =
              subst (KnowsApart found)
              (sym (append_assoc kept (clause ∷ []) (reverse later)) ∙ ap (λ l. l ++ reverse later) (sym pushed))
              popped_apart

        pub apart_covered : (found : Option A) (kept : List (List T)) (clause : List T) (later : List (List T)) →
            KnowsApart found (kept ++ clause ∷ reverse later) →
            option_map_or (λ words. stands_apart literal (common words) clause) found false ≡ true →
            is_covered same opposite clause (kept ++ later) ≡ false
        apart_covered None kept clause later known e = both_ways false e refl
        apart_covered (Some words) kept clause later known e =
            covered_turned same opposite clause kept later
            ∙ apart_uncovered (common words) kept clause (reverse later) known e
