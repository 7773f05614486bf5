-- The command `check`, from the bytes of its inputs to the bytes of its answer.
use Rattle.std.specs.Prelude.{◌≡◌, ◌&&◌, ◌||◌, ℕ, Bool, not, List, [], ◌∷◌, Option, Result, Ok, Err}
use Rattle.std.specs.String.{string_bytes}
use Rattle.pep440_version.specs.Changes.{is_prerelease}
use Rattle.pep508_url.specs.Vars.{Variables}
use Rattle.pep508_environment.specs.Environment.{EnvironmentRecord}
use Rattle.pep508_evaluation.specs.Valuations.{valuation_of}
use Rattle.reqtable_candidates.specs.declared.candidates.Candidate.{Candidate}
use Rattle.reqtable_answer.specs.Answer.{Admits}
use Rattle.reqtable_requirements.specs.Asks.{asks_of}
use Rattle.reqs_json.specs.declared.format.Format.{Format}
use Rattle.reqs_json.specs.Rows.{IsAnswerIn}
use Rattle.reqs_io_faults.specs.declared.fault.Input.TheVariants.{First, Second, Third}
use Rattle.reqs_io_faults.specs.declared.fault.RunFault.{RunFault}
use Rattle.reqs_io_faults.specs.declared.fault.Status.{Status}
use Rattle.reqs_io_faults.specs.declared.fault.Status.TheVariants.{Answered}
use Rattle.reqs_io_faults.specs.Faults.{Cause, IsOfTexts, IsPlain, Refuses}
use Rattle.reqs_io_faults.specs.Inputs.{environment_from}
use Rattle.reqs_io_faults.specs.Ends.{of_input, status_of_answer, Runs}
use Rattle.reqs_answers.specs.declared.checks.Checked.{Checked}
use Rattle.reqs_answers.specs.Strict.{has_none}
use Rattle.reqs_answers.specs.Texts.{ReadTexts, texts_of}

-- a pre-release or a developmental release is admitted if an applicable line has a specifier that names one,
-- and any other version always
abbrev pub on_request : Admits
on_request = λ version names_prerelease. names_prerelease || not (is_prerelease version)

-- the parsed texts of `check`, or the first thing at fault
abbrev pub CheckTexts : Type 0
CheckTexts = Result (ReadTexts EnvironmentRecord) Cause

-- the text that `check` prints for valid texts, in a format
pub record IsCheckText (format : Format) (texts : CheckTexts) (text : List ℕ) : Type 0 where
  pub read : ReadTexts EnvironmentRecord
  pub is_read : texts ≡ Ok read
  pub is_text : IsAnswerIn format on_request (asks_of (valuation_of read.second read.extras) read.lines)
      read.candidates text

-- the text is that of the answer, and the status of a strict command says whether one of its rows is `none`
abbrev pub IsCheckAnswer : Bool → Format → CheckTexts → Status → List ℕ → Type 0
IsCheckAnswer strict format texts status text =
    (answer : IsCheckText format texts text)
    × (status ≡ status_of_answer (strict && has_none answer.is_text.0))

-- a status and a text are those of the answer; or the texts are refused for this fault
abbrev pub AnswersText : (RunFault → Type 0) → Bool → Format → Result Checked RunFault → CheckTexts → Type 0
AnswersText IsOne strict format (Ok checked) texts =
    IsCheckAnswer strict format texts checked.status (string_bytes checked.text)
AnswersText IsOne strict format (Err fault) texts = Refuses IsOne fault texts

-- what is answered to the candidates of a text that is read; or the text is refused for this fault
abbrev pub AnswersRead : {X : Type 0} → (List Candidate → X → Type 0) → Result X RunFault
    → Result (List Candidate) Cause → Type 0
AnswersRead Answers (Ok x) reading = (read : List Candidate) × (reading ≡ Ok read) × Answers read x
AnswersRead Answers (Err fault) reading = Refuses IsPlain fault reading

-- the parsed texts of `check`, from the bytes of its three inputs and its extras, or the first thing at fault
abbrev pub check_texts : Variables → List (List ℕ) → List (List ℕ) → CheckTexts
check_texts vars extras inputs =
    texts_of (environment_from Second 1) vars extras
    (of_input inputs First) (of_input inputs Second) (of_input inputs Third)

-- `check` without `--strict` answers these inputs with this text, in a format, and the status `Answered`
abbrev pub ChecksAs : Format → Variables → List (List ℕ) → List (List ℕ) → Status → List ℕ → Type 0
ChecksAs format vars extras inputs status text =
    (status ≡ Answered) × IsCheckText format (check_texts vars extras inputs) text

-- `check` refuses these inputs for this fault
abbrev pub CheckRefuses : Variables → List (List ℕ) → List (List ℕ) → RunFault → Type 0
CheckRefuses vars extras inputs fault =
    Refuses (IsOfTexts vars First (of_input inputs First)) fault (check_texts vars extras inputs)

-- `check` ends with this result, for the bytes that its readers have of the requirements, the environment and
-- the candidates
abbrev pub RunsCheck : {W : Type 0} → Format → Variables → List (List ℕ) → Option (List ℕ)
    → Option (List ℕ) → Option (List ℕ) → (W → Option (List ℕ)) → W → W → Result Status RunFault → Type 0
RunsCheck format vars extras requirements environment candidates contents old new result =
    Runs (ChecksAs format vars extras) (CheckRefuses vars extras)
    (requirements ∷ environment ∷ candidates ∷ []) contents old new result

-- ---- strictly

-- `check`, strict or not, answers these inputs with this text, in a format, and this status
abbrev pub ChecksBy : Bool → Format → Variables → List (List ℕ) → List (List ℕ) → Status → List ℕ → Type 0
ChecksBy strict format vars extras inputs =
    IsCheckAnswer strict format (check_texts vars extras inputs)

-- `check`, strict or not, ends with this result
abbrev pub RunsCheckBy : {W : Type 0} → Bool → Format → Variables → List (List ℕ) → Option (List ℕ)
    → Option (List ℕ) → Option (List ℕ) → (W → Option (List ℕ)) → W → W → Result Status RunFault → Type 0
RunsCheckBy strict format vars extras requirements environment candidates contents old new result =
    Runs (ChecksBy strict format vars extras) (CheckRefuses vars extras)
    (requirements ∷ environment ∷ candidates ∷ []) contents old new result
