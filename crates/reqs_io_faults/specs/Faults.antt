-- Faults: which of them are decided by the texts of the inputs, and which may happen at any time.
use Rattle.std.specs.Prelude.{◌≡◌, ℕ, List, Option, Some, None, Result, Ok, Err}
use Rattle.read_outcome.specs.Outcome.{Tells}
use Rattle.pep508_url.specs.Vars.{Variables}
use Rattle.pep508_environment.specs.declared.EnvironmentError.{EnvironmentError}
use Rattle.pep508_environment.specs.declared.EnvironmentError.TheVariants as environments
use Rattle.reqs_io.specs.declared.ReadFault.{ReadFault}
use Rattle.reqs_io.specs.declared.ReadFault.TheVariants as ends
use Rattle.reqtable_candidates.specs.TextLines.{text_lines}
use Rattle.reqtable_candidates.specs.declared.candidates.CandidatesError.{CandidatesError}
use Rattle.reqtable_candidates.specs.declared.candidates.CandidatesError.TheVariants as candidates
use Rattle.reqtable_requirements.specs.LineReading as lines
use Rattle.reqtable_requirements.specs.Requirements.{IsErrorIn}
use Rattle.reqtable_requirements.specs.declared.requirements.RequirementsError.{RequirementsError}
use Rattle.reqtable_requirements.specs.declared.requirements.RequirementsError.TheVariants as requirements
use Rattle.reqs_io_faults.specs.declared.fault.Input.{Input}
use Rattle.reqs_io_faults.specs.declared.fault.JsonShape.TheVariants as shapes
use Rattle.reqs_io_faults.specs.declared.fault.RunFault.{RunFault}
use Rattle.reqs_io_faults.specs.declared.fault.RunFault.TheVariants.{Read, Write, Memory, TooLong, NotText}
use Rattle.reqs_io_faults.specs.declared.fault.RunFault.TheVariants.{Requirement, NumberAtEnd, Json, Float}
use Rattle.reqs_io_faults.specs.declared.fault.RunFault.TheVariants.{Shape}
use Rattle.reqs_io_faults.specs.declared.fault.RunFault.TheVariants.{Member, Version, Candidate, TooMany}
use Rattle.reqs_io_faults.specs.declared.bounds.Excess.TheVariants as excess

-- 3 for a reader, the writer and memory; 2 for an invalid input or command line
abbrev pub status_of : RunFault → ℕ
status_of (Read input) = 3
status_of Write = 3
status_of Memory = 3
status_of _ = 2

-- what is at fault in texts: a line that is not a requirement, whatever the message is; or what this fault
-- names
pub data Cause : Type 0 where
  NoRequirement : Input → ℕ → Cause
  Says : RunFault → Cause

-- ---- the faults for the errors of readers

abbrev pub of_reading : Input → ReadFault → RunFault
of_reading input ends.Read = Read input
of_reading input ends.TooLong = TooLong input
of_reading input ends.Memory = Memory

-- the fault for a list of requirements, by its place on the command line
abbrev pub of_requirements : Input → RequirementsError → RunFault
of_requirements input (requirements.NotText offset) = NotText input offset
of_requirements input (requirements.Line number error) = Requirement input number error
of_requirements input (requirements.NumberAtEnd number) = NumberAtEnd input number
of_requirements input (requirements.TooManyNodes number most) = TooMany (excess.NodesAt input number most)
of_requirements input requirements.Memory = Memory

-- the fault for an environment, by its place on the command line and its number
abbrev pub of_environment : Input → ℕ → EnvironmentError → RunFault
of_environment input index environments.Float = Float input
of_environment input index environments.Shape = Shape input shapes.Object
of_environment input index (environments.Member name) = Member input index name
of_environment input index (environments.Version name) = Version input index name
of_environment input index environments.Memory = Memory

abbrev pub of_candidates : Input → CandidatesError → RunFault
of_candidates input (candidates.NotText offset) = NotText input offset
of_candidates input (candidates.Line number cause) = Candidate input number cause
of_candidates input candidates.Memory = Memory

-- ---- what is at fault there

abbrev pub requirements_cause : Input → lines.LinesFault → Cause
requirements_cause input (lines.NotText offset) = Says (NotText input offset)
requirements_cause input (lines.NoRequirement number) = NoRequirement input number
requirements_cause input (lines.NumberAtEnd number) = Says (NumberAtEnd input number)

-- what is at fault by a fault; nothing for running out of memory
abbrev pub told_run : RunFault → Option Cause
told_run Memory = None
told_run (Requirement input number error) = Some (NoRequirement input number)
told_run fault = Some (Says fault)

-- the fault is not one of a reader or the writer, nor of an input's length, and passes no bound; and its
-- error of a line that is not a requirement may be that of a line of that input
abbrev pub IsOfInputs : (Input → RequirementsError → Type 0) → RunFault → Type 0
IsOfInputs MaySay (Read input) = ⊥
IsOfInputs MaySay Write = ⊥
IsOfInputs MaySay (TooLong input) = ⊥
IsOfInputs MaySay (TooMany excess) = ⊥
IsOfInputs MaySay (Requirement input number error) = MaySay input (requirements.Line number error)
IsOfInputs MaySay fault = Unit {0}

-- the fault is in texts none of which is a list of requirements
abbrev pub IsPlain : RunFault → Type 0
IsPlain = IsOfInputs (λ input error. ⊥)

-- the fault is in texts of which this input's is a list of requirements: its error of an invalid line is of
-- this input, and that of some line with this number
abbrev pub IsOfTexts : Variables → Input → List ℕ → RunFault → Type 0
IsOfTexts vars list bytes =
    IsOfInputs (λ input error. (input ≡ list) × IsErrorIn vars (text_lines bytes) error)

-- the fault is that a bound was passed
abbrev pub IsExcess : RunFault → Type 0
IsExcess (TooMany excess) = Unit {0}
IsExcess fault = ⊥

-- the fault of a run without bounds: what would pass the greatest numbers has no room in memory
abbrev pub unbounded : RunFault → RunFault
unbounded (TooMany excess) = Memory
unbounded fault = fault

-- the fault is one of an environment's text
abbrev pub IsOfEnvironment : RunFault → Type 0
IsOfEnvironment (Json input) = Unit {0}
IsOfEnvironment (Float input) = Unit {0}
IsOfEnvironment (Shape input wanted) = Unit {0}
IsOfEnvironment (Member input index name) = Unit {0}
IsOfEnvironment (Version input index name) = Unit {0}
IsOfEnvironment fault = ⊥

-- a text is refused for this fault of it; memory may run out whatever the text is
abbrev pub Refuses : {A : Type 0} → (RunFault → Type 0) → RunFault → Result A Cause → Type 0
Refuses IsOfText fault reading = IsOfText fault × Tells (told_run fault) reading

-- the result is that of reading, seen by `view`, or its fault
abbrev pub AnswersRun : {X A : Type 0} → (X → A) → Result X RunFault → Result A Cause → Type 0
AnswersRun view (Ok x) reading = reading ≡ Ok (view x)
AnswersRun view (Err fault) reading = Refuses IsPlain fault reading
