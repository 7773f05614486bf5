-- The parsed texts of requirement lists, or what is at fault in them; and how a command on them ends.
use Rattle.std.specs.Prelude.{◌≡◌, ◌⊎◌, ℕ, List, Result, Ok, Err}
use Rattle.std.specs.List.{AllZip}
use Rattle.std.specs.String.{string_bytes}
use Rattle.pep508_url.specs.Vars.{Variables}
use Rattle.pep508_tree.specs.Meaning.{NodeRecord}
use Rattle.reqtable_candidates.specs.TextLines.{text_lines}
use Rattle.reqtable_requirements.specs.LineReading.{LineRecord}
use Rattle.reqtable_requirements.specs.Requirements.{IsErrorIn, StandsFor}
use Rattle.reqtable_requirements.specs.declared.requirements.Line.{Line}
use Rattle.reqs_io_faults.specs.declared.fault.Input.{Input}
use Rattle.reqs_io_faults.specs.declared.fault.Input.TheVariants.{First, Second}
use Rattle.reqs_io_faults.specs.declared.fault.RunFault.{RunFault}
use Rattle.reqs_io_faults.specs.declared.fault.RunFault.TheVariants.{Memory}
use Rattle.reqs_io_faults.specs.declared.fault.Status.{Status}
use Rattle.reqs_io_faults.specs.Ends.{of_input}
use Rattle.reqs_io_faults.specs.Faults.{Cause, IsOfInputs, Refuses}
use Rattle.reqs_io_faults.specs.Inputs.{◌>>=◌, lines_from}
use Rattle.reqs_io_faults.specs.Within.{PassesAt}
use Rattle.reqs_lists.specs.declared.answer.Answer.{Answer}

-- the fault is in texts each of which is a list of requirements: its error of an invalid line is that of some
-- line with this number of the input that it names
abbrev pub IsOfLists : Variables → List (List ℕ) → RunFault → Type 0
IsOfLists vars inputs =
    IsOfInputs (λ input error. IsErrorIn vars (text_lines (of_input inputs input)) error)

-- ---- reading

-- the lines of one list
abbrev pub one_list : Variables → List (List ℕ) → Result (List LineRecord) Cause
one_list vars inputs = lines_from vars First (of_input inputs First)

-- the lines of a left list and of a right one
abbrev pub with_right : Variables → List ℕ → List LineRecord
    → Result (List LineRecord × List LineRecord) Cause
with_right vars right left = do
  lines ← lines_from vars Second right
  Ok (left, lines)

-- the lines of two lists, or the first thing at fault: that of the left one before that of the right one
abbrev pub two_lists : Variables → List (List ℕ) → Result (List LineRecord × List LineRecord) Cause
two_lists vars inputs =
    lines_from vars First (of_input inputs First) >>= with_right vars (of_input inputs Second)

-- lines of a left and a right list represent those of some texts
pub record AreBothRead (nodes : List NodeRecord) (left right : List Line) : Type 0 where
  pub vars : Variables
  pub said : List LineRecord
  pub others : List LineRecord
  pub reads_left : AllZip (StandsFor vars nodes) left said
  pub reads_right : AllZip (StandsFor vars nodes) right others

-- lists are parsed to values with this property
abbrev pub IsRead : {A : Type 0} → Result A Cause → (A → Type 0) → Type 0
IsRead {A} lists Holds = (read : A) × (lists ≡ Ok read) × Holds read

-- a bound on the nodes was passed at a line of the first list
abbrev pub PassesInFirst : Variables → ℕ → List NodeRecord → List (List ℕ) → RunFault → Type 0
PassesInFirst vars most nodes inputs = PassesAt vars First most nodes (of_input inputs First)

-- a bound on the nodes was passed at a line of the first list, or of the second once the first was parsed
abbrev pub PassesInEither : Variables → ℕ → List NodeRecord → List (List ℕ) → RunFault → Type 0
PassesInEither vars most nodes inputs fault =
    PassesInFirst vars most nodes inputs fault
    ⊎ IsRead (one_list vars inputs) (λ left. PassesAt vars Second most nodes (of_input inputs Second) fault)

-- ---- answers

-- what may be answered on parsed lists, a status and a text; and the faults for which they may be refused
abbrev pub Answered : Type 0 → Type 1
Answered A = A → Status → List ℕ → Type 0

abbrev pub Refused : Type 0 → Type 1
Refused A = A → RunFault → Type 0

-- lists are refused: for what can't be parsed, by a fault of which this holds, or once all are parsed
abbrev pub RefusesLists : {A : Type 0} → (RunFault → Type 0) → Refused A → Result A Cause → RunFault → Type 0
RefusesLists IsOne Declines lists fault =
    Refuses IsOne fault lists ⊎ IsRead lists (λ read. Declines read fault)

-- the result for parsed lists, before it is written; memory may run out at any time
abbrev pub Gives : {A : Type 0} → Answered A → Refused A → A → Result Answer RunFault → Type 0
Gives Answers Declines read (Ok answer) = Answers read answer.status (string_bytes answer.text)
Gives Answers Declines read (Err fault) = (fault ≡ Memory) ⊎ Declines read fault

-- the result for the texts of lists
abbrev pub AnswersLists : {A : Type 0} → (RunFault → Type 0) → Answered A → Refused A → Result A Cause
    → Result Answer RunFault → Type 0
AnswersLists IsOne Answers Declines lists (Ok answer) =
    IsRead lists (λ read. Answers read answer.status (string_bytes answer.text))
AnswersLists IsOne Answers Declines lists (Err fault) = RefusesLists IsOne Declines lists fault
