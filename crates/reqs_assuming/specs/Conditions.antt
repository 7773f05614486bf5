-- Conditions as texts.
use Rattle.std.specs.Prelude.{◌≡◌, ℕ, List, chars, Result, Ok, Err}
use Rattle.pep508_url.specs.UrlTexts.{Verbatim}
use Rattle.pep508_url.specs.declared.url_error.VerbatimUrlError.{VerbatimUrlError}
use Rattle.pep508_error.specs.declared.error.Pep508Error.{Pep508Error}
use Rattle.pep508_error.specs.Errors.{told_error}
use Rattle.pep508_marker.specs.Expression.{ExpressionRecord}
use Rattle.pep508_formula.specs.Postfix.{Part, formula_of}
use Rattle.pep508_comparison_parser.specs.Outcome.{Shows}
use Rattle.pep508_marker_parser.specs.MarkerReading.{Marker, marker_at}

-- a text is read as the formula of the marker that it is, or the error is for what it isn't one by
abbrev pub ReadsCondition : List ℕ
    → Result (List (Part ExpressionRecord)) (Pep508Error Verbatim VerbatimUrlError) → Type 0
ReadsCondition text (Ok parts) =
    (marker : Marker) × (marker_at (chars text) ≡ Ok marker) × (formula_of parts ≡ marker.formula)
ReadsCondition text (Err error) = Shows text (told_error error) (marker_at (chars text))
