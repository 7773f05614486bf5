-- Marks of markers.
use Rattle.std.proofs.Common.{◌≡◌, ◌≢◌, ◌∙◌, ℕ, Bool, true, false, if◌then◌else◌, List, Option, Some, None}
use Rattle.std.proofs.Common.{Result, Ok, Err, IfOk, OnOk, ap, refl, sym}
use Rattle.std.proofs.lemmas.Str.{is_utf8-from_IsUtf8}
use Rattle.std.specs.Str.{is_utf8, IsUtf8, chars}
use Rattle.pep508_diagram.specs.Question.{Valuation}
use Rattle.pep508_url.specs.UrlTexts.{Verbatim}
use Rattle.pep508_url.specs.declared.url_error.VerbatimUrlError.{VerbatimUrlError}
use Rattle.pep508_error.specs.Errors.{Fault, told_error}
use Rattle.pep508_marker.specs.Expression.{ExpressionRecord}
use Rattle.pep508_expression.specs.Expressions.{expression_holds}
use Rattle.pep508_comparison_parser.specs.SideReading.{Refused}
use Rattle.pep508_comparison_parser.specs.Outcome.{Shows}
use Rattle.pep508_marker_parser.specs.MarkerReading.{Marker, marker_at}
use Rattle.pep508_marker_parser.specs.Formula.{Formula, formula_holds}
use Rattle.reqs_c_reply.proofs.Ends.{is_utf8-false}
use Rattle.reqs_c_markers.specs.Errors.{TextError}
use Rattle.reqs_c_markers.specs.Markers.{held_mark, mark_in}

-- the mark of a formula's truth is that of its marker
pub held : (formula : Formula ExpressionRecord) (marker : Marker) (v : Valuation) (reading : Result Marker Refused)
    (truth : Bool) (mark : ℕ) → reading ≡ Ok marker → formula ≡ marker.formula
    → truth ≡ formula_holds (λ e. expression_holds e v) formula → mark ≡ (if truth then 49 else 48)
    → mark ≡ held_mark v reading
held formula marker v reading truth mark read is holds_so e =
    let mark_by : Bool → ℕ = λ t. if t then 49 else 48 in
    e ∙ ap mark_by (holds_so ∙ ap (formula_holds (λ e. expression_holds e v)) is) ∙ sym (ap (held_mark v) read)

-- that of a text that is refused
no_marker : (v : Valuation) (text : List ℕ) (told : Option (Fault Verbatim VerbatimUrlError)) (reading : Result Marker Refused)
    → told ≢ None → Shows text told reading → 63 ≡ held_mark v reading
no_marker v text None reading some h = absurd (some refl)
no_marker v text (Some fault) (Ok marker) some h = absurd h.0
no_marker v text (Some fault) (Err refused) some h = refl

pub question : {E : Type 0} (v : Valuation) (text : List ℕ) (error : TextError) (reading : Result Marker Refused)
    (mark : Result ℕ E) → IfOk mark (λ m. m ≡ 63) → OnOk mark (told_error error ≢ None)
    → Shows text (told_error error) reading → IfOk mark (λ m. m ≡ held_mark v reading)
question v text error reading (Ok mark) e some h = e ∙ no_marker v text (told_error error) reading some h
question v text error reading (Err failed) e some h = tt

-- bytes that are no text
pub no_text : (v : Valuation) (bytes : List ℕ) → (IsUtf8 bytes → ⊥) → mark_in v bytes ≡ 63
unfolding mark_in
no_text v bytes h = let e : is_utf8 bytes ≡ false = is_utf8-false bytes h in rw e

-- and bytes that are one
pub in_text : (v : Valuation) (bytes text : List ℕ) → IsUtf8 bytes → text ≡ bytes
    → mark_in v bytes ≡ held_mark v (marker_at (chars text))
unfolding mark_in
in_text v bytes text h is =
    let e : is_utf8 bytes ≡ true = is_utf8-from_IsUtf8 bytes h in
    rw e (ap (λ bs. held_mark v (marker_at (chars bs))) (sym is))
