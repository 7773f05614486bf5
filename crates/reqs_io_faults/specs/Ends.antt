-- How a command ends, whatever its inputs and its answers are.
use Rattle.std.specs.Prelude.{◌≡◌, ◌<◌, ℕ, Bool, true, false, List, [], length, take, get_or, Option}
use Rattle.std.specs.Prelude.{Result, Ok, Err}
use Rattle.std.specs.List.{AllByRecursion, AllZip}
use Rattle.reqs_io.specs.Front.{AreAsTold, WritesWhole, AppendsFront}
use Rattle.reqs_io_faults.specs.declared.fault.Input.{Input}
use Rattle.reqs_io_faults.specs.declared.fault.Input.TheVariants.{First, Second, Third}
use Rattle.reqs_io_faults.specs.declared.fault.RunFault.{RunFault}
use Rattle.reqs_io_faults.specs.declared.fault.RunFault.TheVariants.{Read, Write, Memory, TooLong}
use Rattle.reqs_io_faults.specs.declared.fault.Status.{Status}
use Rattle.reqs_io_faults.specs.declared.fault.Status.TheVariants.{Answered, Unsatisfied}
use Rattle.reqs_io_faults.specs.Inputs.{IsWithin, input_limit}

-- the place of an input on the command line, from 0
abbrev pub place_of : Input → ℕ
place_of First = 0
place_of Second = 1
place_of Third = 2

-- what belongs to an input, as its bytes or its path, in the order of the command line
abbrev pub of_input : List (List ℕ) → Input → List ℕ
of_input all input = get_or all (place_of input) []

-- the status after an answer, by whether a strict command finds in it what can't be satisfied
abbrev pub status_of_answer : Bool → Status
status_of_answer true = Unsatisfied
status_of_answer false = Answered

-- inputs are within their limit
abbrev pub AreWithin : List (List ℕ) → Type 0
AreWithin inputs = AllByRecursion IsWithin inputs

-- what a command may answer on the bytes of its inputs: a status, and the text that it writes
abbrev pub Answering : Type 1
Answering = List (List ℕ) → Status → List ℕ → Type 0

-- the faults for which a command may refuse its inputs
abbrev pub Refusing : Type 1
Refusing = List (List ℕ) → RunFault → Type 0

-- How a command ends, by the bytes of its inputs, and by the writer before and after. If it answers, the
-- answer's text was written, and an empty one made no write. A write fault left a prefix of it. A reader that
-- failed was read after the inputs before its own, which were within their limit, and so were those before an
-- input that is too long. Memory may run out at any time.
abbrev pub EndsAs : {W : Type 0} → Answering → Refusing → List (List ℕ) → (W → Option (List ℕ)) → W → W
    → Result Status RunFault → Type 0
EndsAs Answers Refused inputs contents old new (Ok status) =
    AreWithin inputs × ((text : List ℕ) × Answers inputs status text × WritesWhole contents old new text)
EndsAs Answers Refused inputs contents old new (Err (Read input)) = AreWithin (take (place_of input) inputs)
EndsAs Answers Refused inputs contents old new (Err (TooLong input)) =
    AreWithin (take (place_of input) inputs) × (input_limit < length (of_input inputs input))
EndsAs Answers Refused inputs contents old new (Err Write) =
    AreWithin inputs × ((status : Status) × (text : List ℕ) × Answers inputs status text
    × AppendsFront (contents old) (contents new) text)
EndsAs Answers Refused inputs contents old new (Err Memory) = Unit {0}
EndsAs Answers Refused inputs contents old new (Err fault) = AreWithin inputs × Refused inputs fault

-- a command ends with this result for some bytes of its inputs, those of each reader whose bytes are known
pub record Runs {W : Type 0} (Answers : Answering) (Refused : Refusing) (told : List (Option (List ℕ)))
    (contents : W → Option (List ℕ)) (old new : W) (result : Result Status RunFault) : Type 0 where
  pub inputs : List (List ℕ)
  pub are_told : AllZip AreAsTold told inputs
  pub ends : EndsAs Answers Refused inputs contents old new result

-- the text of an answer was written, and the command ends with this status; or a prefix of it was written
abbrev pub WritesAnswer : {W : Type 0} → (W → Option (List ℕ)) → W → W → List ℕ → Status
    → Result Status RunFault → Type 0
WritesAnswer contents old new text status (Ok ended) = (ended ≡ status) × WritesWhole contents old new text
WritesAnswer contents old new text status (Err fault) =
    (fault ≡ Write) × AppendsFront (contents old) (contents new) text
