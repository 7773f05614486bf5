-- The marker of a line without a fault can be written.
use Rattle.std.proofs.Common.{◌≡◌, Bool, true, false, if◌then◌else◌, Option, Some, None, refl}
use Rattle.pep508_marker_text_laws.specs.ReleaseBounds.{HasReleasesAlone}
use Rattle.pep508_questions.specs.Asks.{asks_any, has_quote, is_of_deprecated_key, is_other_bound}
use Rattle.pep508_questions.proofs.Unasked.{unquoted, modern, releases}
use Rattle.pep508_diagram.specs.Questions.{AllQuestions}
use Rattle.pep508_reading_back.specs.Unquoted.{AsksUnquoted, AsksOfModernKey}
use Rattle.reqtable_answer.specs.Asks.{has_url}
use Rattle.reqtable_normal.specs.declared.error.NormalCause.{NormalCause}
use Rattle.reqtable_normal.specs.declared.error.NormalCause.TheVariants as cause
use Rattle.reqtable_normal.specs.Normalized.{NormalLine, normal_fault}

-- the line's URL and what its marker asks are no fault
pub record IsSound (line : NormalLine) : Type 0 where
  pub no_url : has_url line.front ≡ false
  pub unquoted : AllQuestions AsksUnquoted line.diagram
  pub modern : AllQuestions AsksOfModernKey line.diagram
  pub releases : HasReleasesAlone line.diagram

abbrev fault_by : Bool → Bool → Bool → Bool → Option NormalCause
fault_by url quoted deprecated other =
    if url then Some cause.Url
    else (if quoted then Some cause.SingleQuote
    else (if deprecated then Some cause.DeprecatedKey else (if other then Some cause.Bound else None)))

none_by : (url quoted deprecated other : Bool) → fault_by url quoted deprecated other ≡ None →
    (url ≡ false) × (quoted ≡ false) × (deprecated ≡ false) × (other ≡ false)
none_by true quoted deprecated other h = absurd (cc)
none_by false true deprecated other h = absurd (cc)
none_by false false true other h = absurd (cc)
none_by false false false true h = absurd (cc)
none_by false false false false h = (refl, refl, refl, refl)

pub faultless_is_sound : (line : NormalLine) → normal_fault line ≡ None → IsSound line
faultless_is_sound line h =
    let d = line.diagram in
    let none = none_by (has_url line.front) (asks_any has_quote d) (asks_any is_of_deprecated_key d)
    (asks_any is_other_bound d) h in
    record {
      no_url = none.0;
      unquoted = (unquoted d).0 none.1;
      modern = (modern d).0 none.2;
      releases = (releases d).0 none.3;
    }
