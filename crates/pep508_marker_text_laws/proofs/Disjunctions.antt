-- The disjunction that is written for a diagram means it.
use Rattle.std.proofs.Common.{◌≡◌, Bool, true, false, not, List, [], ◌∷◌, inl, inr, refl, sym, ap, ◌∙◌}
use Rattle.std.proofs.Common.{true≢false}
use Rattle.std.proofs.lemmas.Bool.{cases_Bool}
use Rattle.std.specs.List.{AllByRecursion, filter, list_all, list_any}
use Rattle.version_ranges.proofs.Membership.{all_weaker}
use Rattle.pep508_marker.specs.Expression.{ExpressionRecord}
use Rattle.pep508_diagram.specs.Diagram.{Diagram, Leaf, Test}
use Rattle.pep508_diagram.specs.Question.{Question, Valuation, truth, IsCanonical}
use Rattle.pep508_expression.specs.Expressions.{expression_holds}
use Rattle.pep508_marker_text_laws.specs.Clauses.{clauses_of}
use Rattle.pep508_marker_text_laws.specs.MarkerText.{disjunction}
use Rattle.pep508_marker_text_laws.specs.ReleaseBounds.{HasReleasesAlone}
use Rattle.pep508_marker_text_laws.specs.SameTerms.{same_term, opposite_term}
use Rattle.pep508_marker_text_laws.specs.Saying.{Clause}
use Rattle.pep508_marker_text_laws.specs.Simplified.{has_some, simplified}
use Rattle.pep508_marker_text_laws.specs.Truth.{one_holds}
use Rattle.pep508_diagram.proofs.Questions.{one_marker_diagram}
use Rattle.pep508_marker_text_laws.proofs.Fitting.{AllFit, HasPoints, simplified_fit, clauses_alike, walk_fits}
use Rattle.pep508_marker_text_laws.proofs.Removals.{simplified_keeps, second_holds}
use Rattle.pep508_marker_text_laws.proofs.Speaking.{total_holds, total_agrees, terms_speak}
use Rattle.pep508_marker_text_laws.proofs.Truths.{total_is_truth}
use Rattle.pep508_marker_text_laws.proofs.Walks.{clauses_mean}

-- ---- clauses without terms

abbrev pub is_empty : Clause → Bool
is_empty clause = not (has_some clause)

module _ (holds : ExpressionRecord → Bool) where
  pub empty_holds : (clauses : List Clause) → list_any is_empty clauses ≡ true → one_holds holds clauses ≡ true
  empty_holds [] e = e
  empty_holds ([] ∷ clauses) e = refl
  empty_holds ((term ∷ terms) ∷ clauses) e =
      second_holds (list_all holds (term ∷ terms)) (one_holds holds clauses) (empty_holds clauses e)

none_empty : (clauses : List Clause) → list_any is_empty clauses ≡ false → filter has_some clauses ≡ clauses
none_empty [] e = refl
none_empty ([] ∷ clauses) e = absurd (true≢false e)
none_empty ((term ∷ terms) ∷ clauses) e = ap (λ cs. (term ∷ terms) ∷ cs) (none_empty clauses e)

pub always_leaf : (d : Diagram Question) → IsCanonical d → ((v : Valuation) → truth d v ≡ true) → d ≡ Leaf true
always_leaf (Leaf b) c always = ap Leaf (one_marker_diagram (Leaf b) (Leaf true) c tt always)
always_leaf (Test q low high) c always =
    absurd (one_marker_diagram (Test q low high) (Leaf true) c tt always)

fit_weaker : (P R : ExpressionRecord → Type 0) → ((term : ExpressionRecord) → P term → R term) →
    (clauses : List Clause) → AllFit P clauses → AllFit R clauses
fit_weaker P R so clauses h =
    all_weaker (AllByRecursion P) (AllByRecursion R) (λ clause k. all_weaker P R so clause k) clauses h

-- truths that are one where all comparisons have points
same_meaning : (v : Valuation) (clauses : List Clause) → AllFit HasPoints clauses →
    one_holds (total_holds v) clauses ≡ one_holds (λ term. expression_holds term v) clauses
same_meaning v clauses fits =
    clauses_alike (total_holds v) (λ term. expression_holds term v) clauses
    (fit_weaker HasPoints (λ term. total_holds v term ≡ expression_holds term v)
    (λ term h. total_agrees v term h) clauses fits)

-- simplified comparisons mean what they mean before
pub comparisons_keep : (clauses : List Clause) → AllFit HasPoints clauses → (v : Valuation) →
    one_holds (λ term. expression_holds term v) (simplified same_term opposite_term clauses)
    ≡ one_holds (λ term. expression_holds term v) clauses
comparisons_keep clauses fits v =
    sym (same_meaning v (simplified same_term opposite_term clauses)
    (simplified_fit HasPoints same_term opposite_term clauses fits))
    ∙ simplified_keeps (total_is_truth v) clauses ∙ same_meaning v clauses fits

module _ (d : Diagram Question) (c : IsCanonical d) (r : HasReleasesAlone d) (some : d ≡ Leaf true → ⊥) where
  has_no_empty : list_any is_empty (clauses_of d) ≡ false
  has_no_empty = elim (cases_Bool (list_any is_empty (clauses_of d))) [
    | inl there ↦
        absurd (some (always_leaf d c (λ v. sym (clauses_mean (total_holds v) v (terms_speak v) d c r)
        ∙ empty_holds (total_holds v) (clauses_of d) there)))
    | inr none ↦ none
  ]

  -- one of the clauses holds where the diagram does
  pub disjunction_means : (v : Valuation) →
      one_holds (λ term. expression_holds term v) (disjunction d) ≡ truth d v
  disjunction_means v =
      let kept : filter has_some (clauses_of d) ≡ clauses_of d = none_empty (clauses_of d) has_no_empty in
      let fits : AllFit HasPoints (clauses_of d) = walk_fits d r in
      ap (λ cs. one_holds (λ term. expression_holds term v) (simplified same_term opposite_term cs)) kept
      ∙ comparisons_keep (clauses_of d) fits v ∙ sym (same_meaning v (clauses_of d) fits)
      ∙ clauses_mean (total_holds v) v (terms_speak v) d c r
