-- Normal texts of what is made of markers are read again.
use Rattle.std.proofs.Common.{◌≡◌, ◌∙◌, ◌||◌, not, Bool, ℕ, List, [], ◌∷◌, unwrap_or, ap, sym, subst}
use Rattle.pep508_diagram.specs.Question.{Question, VersionBelow, TextBelow, IsSet, Valuation, truth, answer}
use Rattle.pep508_marker_text_laws.specs.MarkerText.{marker_text}
use Rattle.pep508_reading_back.specs.Asked.{AnswerAlike}
use Rattle.pep508_reading_back.specs.Told.{questions_of}
use Rattle.pep508_reading_back.proofs.ToldAnswers.{formula_alike}
use Rattle.pep508_simplification.specs.Simplified.{is_named, is_listed, with_named}
use Rattle.reqs_c_markers.specs.declared.bounds.Bounds.{Bounds}
use Rattle.reqs_c_markers.specs.Markers.{Wants, marker_holds, GivesText, ReadsBack}
use Rattle.reqs_c_markers.proofs.ReadBack.{reads_back}
use Rattle.reqs_c_algebra.specs.Relations.{Values}
use Rattle.reqs_c_algebra.specs.Made.{HoldsElsewhere}
use Rattle.reqs_c_algebra.specs.Simplified.{HoldsWith, GivesWith}

-- values that hang on what the marker asks
given_again : (bounds : Bounds) (bytes : List ℕ) (Wanted : Wants) (text : List ℕ)
    (given : GivesText bounds bytes Wanted text) (value : Values)
    → ((v : Valuation) → truth given.is_text.diagram v ≡ value v)
    → ((v w : Valuation) → AnswerAlike (questions_of given.marker.formula) v w → value v ≡ value w)
    → ReadsBack text value
given_again bounds bytes Wanted text given value means settled =
    let made = given.is_text in
    let d = made.diagram in
    subst (λ t. ReadsBack t value) (sym made.is_text.is_text)
    (subst (ReadsBack (unwrap_or (marker_text d) [])) (λ i v. means v i)
    (reads_back bytes given.marker given.is_marker d made.is_normal made.is_text.no_fault
    (λ v w alike. means v ∙ settled v w alike ∙ sym (means w))))

pub negation_again : (bounds : Bounds) (bytes text : List ℕ) (given : GivesText bounds bytes HoldsElsewhere text)
    → ReadsBack text (λ v. not (marker_holds given.marker v))
negation_again bounds bytes text given =
    given_again bounds bytes HoldsElsewhere text given (λ v. not (marker_holds given.marker v)) given.is_text.wanted
    (λ v w alike. ap not (formula_alike v w given.marker.formula alike))

-- ---- with extras present

module _ (says : List ℕ → Bool) (v w : Valuation) where
  one_alike : (q : Question) → answer v q ≡ answer w q → answer (with_named says v) q ≡ answer (with_named says w) q
  unfolding answer
  one_alike (VersionBelow key boundary) e = e
  one_alike (TextBelow key boundary) e = e
  one_alike (IsSet flag) e = ap (λ b. is_named says flag || b) e

  all_alike : (asked : List Question) → AnswerAlike asked v w → AnswerAlike asked (with_named says v) (with_named says w)
  all_alike [] h = tt
  all_alike (q ∷ asked) h = (one_alike q h.0, all_alike asked h.1)

pub extras_again : (bounds : Bounds) (bytes extras text : List ℕ) (given : GivesWith bounds bytes extras text)
    → ReadsBack text (λ v. marker_holds given.gives.marker (with_named (is_listed given.names) v))
extras_again bounds bytes extras text with_extras =
    let names = with_extras.names in
    let given = with_extras.gives in
    let formula = given.marker.formula in
    given_again bounds bytes (HoldsWith names) text given
    (λ v. marker_holds given.marker (with_named (is_listed names) v)) given.is_text.wanted
    (λ v w alike.
    formula_alike (with_named (is_listed names) v) (with_named (is_listed names) w) formula
    (all_alike (is_listed names) v w (questions_of formula) alike))
