-- Clauses are simplified alike before and after their terms are shown as others.
use Rattle.std.proofs.Common.{◌≡◌, Bool, true, false, not, ◌&&◌, ◌||◌, cond, List, [], ◌∷◌, ◌++◌, map, refl}
use Rattle.std.proofs.Common.{sym, ap, ◌∙◌}
use Rattle.std.specs.List.{list_all, list_any}
use Rattle.std.proofs.lemmas.List.{map-append}
use Rattle.std.specs.Prelude.{Vec}
use Rattle.pep508_marker.specs.declared.expression.MarkerExpression.{MarkerExpression}
use Rattle.pep508_marker.specs.Expression.{expression_of}
use Rattle.pep508_marker_text_laws.specs.SameTerms.{same_term, opposite_term}
use Rattle.pep508_clauses.specs.Terms.{clauses_shown, lists_of, same_expression, opposite_expression}
use Rattle.pep508_marker_text_laws.specs.Simplified.{sifted, has_some, spares, is_needless, is_covered, stands_in}
use Rattle.pep508_marker_text_laws.specs.Simplified.{shortened_behind, simplified}

module _ {A B : Type 0} (f : A → B) where
  any_shown : (p : B → Bool) (xs : List A) → list_any p (map f xs) ≡ list_any (λ x. p (f x)) xs
  any_shown p [] = refl
  any_shown p (x ∷ xs) = ap (λ b. p (f x) || b) (any_shown p xs)

  all_shown : (p : B → Bool) (xs : List A) → list_all p (map f xs) ≡ list_all (λ x. p (f x)) xs
  all_shown p [] = refl
  all_shown p (x ∷ xs) = ap (λ b. p (f x) && b) (all_shown p xs)

  some_shown : (xs : List A) → has_some (map f xs) ≡ has_some xs
  some_shown [] = refl
  some_shown (x ∷ xs) = refl

  module _ (shown_drops : B → List B → Bool) (drops : A → List A → Bool)
      (alike : (x : A) (rest : List A) → shown_drops (f x) (map f rest) ≡ drops x rest) where
    cond_shown : (b : Bool) (xs ys : List A) → cond b (map f xs) (map f ys) ≡ map f (cond b xs ys)
    cond_shown true xs ys = refl
    cond_shown false xs ys = refl

    sifted_shown : (kept later : List A) →
        sifted shown_drops (map f kept) (map f later) ≡ map f (sifted drops kept later)
    sifted_shown kept [] = refl
    sifted_shown kept (x ∷ later) =
        let gone = sifted shown_drops (map f kept) (map f later) in
        ap (λ rest. cond (shown_drops (f x) rest) gone
        (sifted shown_drops (map f kept ++ f x ∷ []) (map f later))) (sym (map-append f kept later))
        ∙ ap (λ front. cond (shown_drops (f x) (map f (kept ++ later))) gone
        (sifted shown_drops front (map f later))) (sym (map-append f kept (x ∷ [])))
        ∙ (λ i. cond (alike x (kept ++ later) i) (sifted_shown kept later i)
        (sifted_shown (kept ++ x ∷ []) later i))
        ∙ cond_shown (drops x (kept ++ later)) (sifted drops kept later) (sifted drops (kept ++ x ∷ []) later)

module _ {A B : Type 0} (f : A → B) (same opposite : B → B → Bool) where
  abbrev same_by : A → A → Bool
  same_by a b = same (f a) (f b)

  abbrev opposite_by : A → A → Bool
  opposite_by a b = opposite (f a) (f b)

  stands_shown : (clause : List A) (x : A) →
      stands_in same opposite (map f clause) (f x) ≡ stands_in same_by opposite_by clause x
  stands_shown clause x = any_shown f (same (f x)) clause

  spares_shown : (x : A) (rest clause : List A) →
      spares same opposite (f x) (map f rest) (map f clause) ≡ spares same_by opposite_by x rest clause
  spares_shown x rest clause =
      all_shown f _ clause
      ∙ (λ i. list_all (λ other. not (same_by x other) && (opposite_by x other || stands_shown rest other i)) clause)

  needless_shown : (others : List (List A)) (x : A) (rest : List A) →
      is_needless same opposite (map (map f) others) (f x) (map f rest)
      ≡ is_needless same_by opposite_by others x rest
  needless_shown others x rest =
      (λ i. some_shown f rest i && any_shown (map f) (spares same opposite (f x) (map f rest)) others i)
      ∙ (λ i. has_some rest && list_any (λ clause. spares_shown x rest clause i) others)

  shortened_shown : (done clauses : List (List A)) →
      shortened_behind same opposite (map (map f) done) (map (map f) clauses)
      ≡ map (map f) (shortened_behind same_by opposite_by done clauses)
  shortened_shown done [] = refl
  shortened_shown done (clause ∷ later) =
      let short = sifted (is_needless same_by opposite_by (done ++ later)) [] clause in
      ap (λ others. shortened_behind same opposite
      (map (map f) done ++ sifted (is_needless same opposite others) [] (map f clause) ∷ []) (map (map f) later))
      (sym (map-append (map f) done later))
      ∙ ap (λ terms. shortened_behind same opposite (map (map f) done ++ terms ∷ []) (map (map f) later))
      (sifted_shown f (is_needless same opposite (map (map f) (done ++ later)))
      (is_needless same_by opposite_by (done ++ later)) (needless_shown (done ++ later)) [] clause)
      ∙ ap (λ front. shortened_behind same opposite front (map (map f) later))
      (sym (map-append (map f) done (short ∷ [])))
      ∙ shortened_shown (done ++ short ∷ []) later

  covered_shown : (clause : List A) (others : List (List A)) →
      is_covered same opposite (map f clause) (map (map f) others)
      ≡ is_covered same_by opposite_by clause others
  covered_shown clause others =
      any_shown (map f) (λ other. list_all (stands_in same opposite (map f clause)) other) others
      ∙ (λ i. list_any (λ other. all_shown f (stands_in same opposite (map f clause)) other i) others)
      ∙ (λ i. list_any (λ other. list_all (λ x. stands_shown clause x i) other) others)

  pub simplified_shown : (clauses : List (List A)) →
      simplified same opposite (map (map f) clauses)
      ≡ map (map f) (simplified same_by opposite_by clauses)
  simplified_shown clauses =
      ap (sifted (is_covered same opposite) []) (shortened_shown [] clauses)
      ∙ sifted_shown (map f) (is_covered same opposite) (is_covered same_by opposite_by) covered_shown []
      (shortened_behind same_by opposite_by [] clauses)

-- ---- the program's terms

shown_lists : {Y : Type 0} (xs : List (Vec MarkerExpression Y)) →
    clauses_shown xs ≡ map (map expression_of) (lists_of xs)
shown_lists [] = refl
shown_lists (x ∷ xs) = ap (λ rest. map expression_of x.items ∷ rest) (shown_lists xs)

pub simple_shown : {Y : Type 0} (before after : List (Vec MarkerExpression Y)) →
    lists_of after ≡ simplified same_expression opposite_expression (lists_of before) →
    clauses_shown after ≡ simplified same_term opposite_term (clauses_shown before)
simple_shown before after is =
    shown_lists after
    ∙ ap (map (map expression_of)) is
    ∙ sym (simplified_shown expression_of same_term opposite_term (lists_of before))
    ∙ ap (simplified same_term opposite_term) (sym (shown_lists before))
