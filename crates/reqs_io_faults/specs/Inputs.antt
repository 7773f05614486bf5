-- The parsed inputs of a command, or what is at fault in them.
use Rattle.std.specs.Prelude.{◌≡◌, ◌≤◌, ℕ, suc, Bool, List, [], ◌∷◌, length, if◌then◌else◌}
use Rattle.std.specs.Prelude.{Option, Some, None, is_some, Result, Ok, Err}
use Rattle.std.specs.List.{AllZip, list_all}
use Rattle.std.specs.Str.{is_utf8}
use Rattle.std.specs.Str.Lossy.{utf8_valid_len}
use Rattle.serde_json.specs.Data.{Data, Items, no_items, item}
use Rattle.serde_json.specs.Find.{as_array, as_object}
use Rattle.serde_json.specs.Read.{read}
use Rattle.serde_json.specs.Written.{has_float}
use Rattle.pep508_name.specs.Name.{name_reading}
use Rattle.pep508_url.specs.Vars.{Variables}
use Rattle.pep508_environment.specs.Environment.{EnvironmentRecord, environment_of}
use Rattle.reqtable_candidates.specs.TextLines.{with_first}
use Rattle.reqtable_candidates.specs.declared.candidates.Candidate.{Candidate}
use Rattle.reqtable_candidates.specs.Candidates.{candidates_of}
use Rattle.reqtable_requirements.specs.LineReading.{LineRecord}
use Rattle.reqtable_requirements.specs.Requirements.{requirements_of}
use Rattle.reqs_io_faults.specs.declared.fault.Input.{Input}
use Rattle.reqs_io_faults.specs.declared.fault.JsonShape.TheVariants as shapes
use Rattle.reqs_io_faults.specs.declared.fault.RunFault.{RunFault}
use Rattle.reqs_io_faults.specs.declared.fault.RunFault.TheVariants.{Read, TooLong, Memory, NotText, Extra}
use Rattle.reqs_io_faults.specs.declared.fault.RunFault.TheVariants.{Json, Float, Shape}
use Rattle.reqs_io_faults.specs.Faults.{Cause, Says, of_environment, of_candidates, requirements_cause}
use Rattle.reqs_io_faults.specs.Faults.{IsOfTexts, Refuses}
use Rattle.reqs_io.specs.Front.{AreAsTold, MayBeLonger}

-- the greatest length of an input, in bytes
abbrev pub input_limit : ℕ
input_limit = 16777216

abbrev pub IsWithin : List ℕ → Type 0
IsWithin bytes = length bytes ≤ input_limit

-- an input is read whole, as the bytes that its reader has, and within its limit; or its reader failed, or
-- may have more
abbrev pub ReadsInput : {X : Type 0} → Input → (X → List ℕ) → Option (List ℕ) → Result X RunFault → Type 0
ReadsInput input view told (Ok x) = AreAsTold told (view x) × IsWithin (view x)
ReadsInput input view told (Err (Read failed)) = failed ≡ input
ReadsInput input view told (Err (TooLong long)) = (long ≡ input) × MayBeLonger input_limit told
ReadsInput input view told (Err Memory) = Unit {0}
ReadsInput input view told (Err fault) = ⊥

infixl 10 ◌>>=◌
abbrev pub ◌>>=◌ : {A B : Type 0} → Result A Cause → (A → Result B Cause) → Result B Cause
(Ok x) >>= f = f x
(Err cause) >>= f = Err cause

-- a result whose fault is mapped to what is at fault in a text
abbrev pub with_cause : {A E : Type 0} → (E → Cause) → Result A E → Result A Cause
with_cause cause_of (Ok x) = Ok x
with_cause cause_of (Err fault) = Err (cause_of fault)

-- an extra of the command line, as a name
abbrev pub extra_of : List ℕ → Result (List ℕ) Cause
extra_of text = with_cause (λ refused. Says (Extra refused)) (name_reading text)

-- the extras of the command line as names, or the first that is not one
abbrev pub extras_of : List (List ℕ) → Result (List (List ℕ)) Cause
extras_of [] = Ok []
extras_of (text ∷ texts) = with_first (extra_of text) (extras_of texts)

-- the lines of a list of requirements
abbrev pub lines_from : Variables → Input → List ℕ → Result (List LineRecord) Cause
lines_from vars input bytes = with_cause (requirements_cause input) (requirements_of vars bytes)

-- the result of reading a list of requirements: lines that each represent their record
abbrev pub AnswersLines : {L : Type 0} → (L → LineRecord → Type 0) → Variables → Input → List ℕ
    → Result (List L) RunFault → Type 0
AnswersLines Stands vars input bytes (Ok lines) =
    (said : List LineRecord) × (lines_from vars input bytes ≡ Ok said) × AllZip Stands lines said
AnswersLines Stands vars input bytes (Err fault) =
    Refuses (IsOfTexts vars input bytes) fault (lines_from vars input bytes)

-- the environment of this number in a JSON value of an input
abbrev pub environment_in : Input → ℕ → Option Data → Result EnvironmentRecord Cause
environment_in input index None = Err (Says (Json input))
environment_in input index (Some value) =
    with_cause (λ error. Says (of_environment input index error)) (environment_of value)

-- the environment of this number in a text, JSON in UTF-8
unfoldable pub environment_from : Input → ℕ → List ℕ → Result EnvironmentRecord Cause
environment_from input index bytes =
    if is_utf8 bytes then environment_in input index (read bytes)
    else Err (Says (NotText input (utf8_valid_len bytes)))

-- ---- a list of environments

-- the values of a JSON list
abbrev pub listed : Items → List Data
listed no_items = []
listed (item value values) = value ∷ listed values

abbrev pub is_object : Data → Bool
is_object value = is_some (as_object value)

-- the environments in values, numbered from this number on, or the first that is not one
abbrev pub environments_of : Input → ℕ → List Data → Result (List EnvironmentRecord) Cause
environments_of input number [] = Ok []
environments_of input number (value ∷ values) =
    with_first (environment_in input number (Some value)) (environments_of input (suc number) values)

-- the environments in a list, whose members are read once all of them are objects
abbrev pub environments_listed : Input → Option Items → Result (List EnvironmentRecord) Cause
environments_listed input None = Err (Says (Shape input shapes.List))
environments_listed input (Some values) =
    if list_all is_object (listed values) then environments_of input 1 (listed values)
    else Err (Says (Shape input shapes.Object))

-- the environments in a JSON value of an input
abbrev pub environments_in : Input → Option Data → Result (List EnvironmentRecord) Cause
environments_in input None = Err (Says (Json input))
environments_in input (Some value) =
    if has_float value then Err (Says (Float input)) else environments_listed input (as_array value)

-- the environments in a text, JSON in UTF-8
unfoldable pub environments_from : Input → List ℕ → Result (List EnvironmentRecord) Cause
environments_from input bytes =
    if is_utf8 bytes then environments_in input (read bytes)
    else Err (Says (NotText input (utf8_valid_len bytes)))

-- ---- candidates

abbrev pub candidates_from : Input → List ℕ → Result (List Candidate) Cause
candidates_from input bytes = with_cause (λ error. Says (of_candidates input error)) (candidates_of bytes)
