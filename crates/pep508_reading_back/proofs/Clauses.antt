-- Printed clauses are the text of a marker that holds where one of them does.
use Rattle.std.proofs.Common.{◌≡◌, ◌&&◌, ◌||◌, Bool, true, false, List, [], ◌∷◌, map, Some, refl, ap, sym}
use Rattle.std.proofs.Common.{subst, ◌∙◌, arith}
use Rattle.std.proofs.lemmas.List.{append-nil}
use Rattle.std.specs.List.{AllByRecursion, list_all}
use Rattle.std.specs.Prelude.{unwrap_or}
use Rattle.std.specs.Str.{chars}
use Rattle.pep508_marker.specs.Expression.{ExpressionRecord, expression_text}
use Rattle.pep508_marker_parser.specs.Formula.{joined, truth_in}
use Rattle.pep508_marker_parser.specs.MarkerReading.{Marker, And, Or, join_with}
use Rattle.pep508_marker_parser.specs.MarkerText.{IsComparisonText, join_all, IsMarkerText}
use Rattle.pep508_marker_text_laws.specs.Saying.{Clause}
use Rattle.pep508_marker_text_laws.specs.MarkerText.{clauses_text}
use Rattle.pep508_marker_text_laws.specs.Truth.{one_holds}
use Rattle.pep508_reading_back.specs.Clauses.{IsReadableClause, AreReadable, SaysClauses, ReadsClauses}
use Rattle.pep508_reading_back.specs.Readable.{IsReadable, marker_of}
use Rattle.pep508_reading_back.proofs.Comparisons.{comparison_read, comparison_utf8}
use Rattle.pep508_reading_back.proofs.JoinedClauses.{marker_of_clause, marker_of_clauses, all_written}
use Rattle.pep508_reading_back.proofs.Joining.{comparison_leads, Pieces}

-- ---- formulas

abbrev pub clause_marker : Clause → Marker
clause_marker = marker_of_clause marker_of

abbrev pub clauses_marker : List Clause → Marker
clauses_marker = marker_of_clauses marker_of

and_grouped : (a b c : Bool) → ((a && b) && c) ≡ (a && (b && c))
and_grouped true b c = refl
and_grouped false b c = refl

or_grouped : (a b c : Bool) → ((a || b) || c) ≡ (a || (b || c))
or_grouped true b c = refl
or_grouped false b c = refl

and_last : (a : Bool) → (a && true) ≡ a
and_last true = refl
and_last false = refl

or_last : (a : Bool) → (a || false) ≡ a
or_last true = refl
or_last false = refl

module _ (holds : ExpressionRecord → Bool) where
  terms_say : (marker : Marker) (b : Bool) (terms : Clause) → truth_in holds marker.formula ≡ Some b →
      truth_in holds (join_all And marker (map marker_of terms)).formula ≡ Some (b && list_all holds terms)
  terms_say marker b [] h = h ∙ ap Some (sym (and_last b))
  terms_say marker b (term ∷ terms) h =
      terms_say (join_with And marker (marker_of term)) (b && holds term) terms
      (ap (λ truth. joined (λ x y. x && y) truth (Some (holds term))) h)
      ∙ ap Some (and_grouped b (holds term) (list_all holds terms))

  clause_says : (clause : Clause) → IsReadableClause clause →
      truth_in holds (clause_marker clause).formula ≡ Some (list_all holds clause)
  clause_says [] h = absurd (omega (arith, h.0))
  clause_says (term ∷ terms) h = terms_say (marker_of term) (holds term) terms refl

  clauses_say : (marker : Marker) (b : Bool) (clauses : List Clause) → AllByRecursion IsReadableClause clauses →
      truth_in holds marker.formula ≡ Some b →
      truth_in holds (join_all Or marker (map clause_marker clauses)).formula
      ≡ Some (b || one_holds holds clauses)
  clauses_say marker b [] r h = h ∙ ap Some (sym (or_last b))
  clauses_say marker b (clause ∷ clauses) r h =
      clauses_say (join_with Or marker (clause_marker clause)) (b || list_all holds clause) clauses r.1
      (λ i. joined (λ x y. x || y) (h i) (clause_says clause r.0 i))
      ∙ ap Some (or_grouped b (list_all holds clause) (one_holds holds clauses))

-- ---- the text

terms_read : Pieces expression_text marker_of IsReadable IsComparisonText
terms_read = record { encoded = comparison_utf8; reads = comparison_read; leads = comparison_leads }

pub clauses_written : (clauses : List Clause) → AreReadable clauses →
    IsMarkerText (chars (clauses_text clauses)) (clauses_marker clauses)
clauses_written clauses h = all_written terms_read clauses h.0 h.1

pub clauses_mean : (clauses : List Clause) → AreReadable clauses → SaysClauses clauses (clauses_marker clauses)
clauses_mean [] h holds = absurd (omega (arith, h.0))
clauses_mean (clause ∷ clauses) h holds =
    ap (λ truth. unwrap_or truth true)
    (clauses_say holds (clause_marker clause) (list_all holds clause) clauses h.1.1
    (clause_says holds clause h.1.0))

pub clauses_are_read : (clauses : List Clause) → AreReadable clauses →
    ReadsClauses (chars (clauses_text clauses)) clauses
clauses_are_read clauses h = (clauses_marker clauses, clauses_written clauses h, clauses_mean clauses h)

-- a comparison alone
pub term_written : (term : ExpressionRecord) → IsReadable term →
    IsMarkerText (chars (expression_text term)) (marker_of term)
term_written term h =
    subst (λ text. IsMarkerText (chars text) (marker_of term)) (append-nil (expression_text term))
    (clauses_written ((term ∷ []) ∷ []) (omega arith, ((omega arith, (h, tt)), tt)))
