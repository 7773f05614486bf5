-- A text that is read as a marker, whose warnings are dropped, is read as a condition.
use Rattle.std.proofs.Common.{ℕ, List, chars, Result, Ok, Err}
use Rattle.pep508_url.specs.UrlTexts.{Verbatim}
use Rattle.pep508_url.specs.declared.url_error.VerbatimUrlError.{VerbatimUrlError}
use Rattle.pep508_error.specs.declared.error.Pep508Error.{Pep508Error}
use Rattle.pep508_marker.specs.Expression.{ExpressionRecord}
use Rattle.pep508_marker.specs.Warnings.{Warning}
use Rattle.pep508_formula.specs.Postfix.{Part}
use Rattle.pep508_marker_parser.specs.MarkerReading.{marker_at}
use Rattle.pep508_marker_parser.specs.TextOutcome.{SaysMarkerText}
use Rattle.reqs_assuming.specs.Conditions.{ReadsCondition}

pub is_condition : {R : Type 0} (takes : R → Warning → R → Type 0) (old new : R) (text : List ℕ)
    (result : Result (List (Part ExpressionRecord)) (Pep508Error Verbatim VerbatimUrlError))
    → SaysMarkerText takes old new text result (marker_at (chars text)) → ReadsCondition text result
is_condition takes old new text (Ok parts) h = (h.0, h.1, h.2)
is_condition takes old new text (Err error) h = h
