-- Inputs and commands with a bound on the nodes of marker trees.
use Rattle.std.specs.Prelude.{◌≡◌, ◌<◌, ◌≤◌, ◌⊎◌, ℕ, List, length, Result, Ok, Err}
use Rattle.pep508_url.specs.Vars.{Variables}
use Rattle.pep508_tree.specs.Meaning.{NodeRecord}
use Rattle.reqtable_requirements.specs.LineReading.{LineRecord}
use Rattle.reqtable_requirements.specs.Requirements.{StandsFor}
use Rattle.reqtable_requirements.specs.Within.{IsPastAt}
use Rattle.reqtable_requirements.specs.declared.requirements.Line.{Line}
use Rattle.reqs_io_faults.specs.declared.bounds.Excess.TheVariants as excess
use Rattle.reqs_io_faults.specs.declared.fault.Input.{Input}
use Rattle.reqs_io_faults.specs.declared.fault.RunFault.{RunFault}
use Rattle.reqs_io_faults.specs.declared.fault.RunFault.TheVariants.{TooMany}
use Rattle.reqs_io_faults.specs.Ends.{Answering, Refusing, of_input}
use Rattle.reqs_io_faults.specs.Inputs.{AnswersLines, lines_from}

-- the bytes are a list of requirements, and the fault names the line whose tree passed the bound
abbrev pub PassesAt : Variables → Input → ℕ → List NodeRecord → List ℕ → RunFault → Type 0
PassesAt vars input most nodes bytes fault =
    (number : ℕ) × (fault ≡ TooMany (excess.NodesAt input number most))
    × ((said : List LineRecord) × (lines_from vars input bytes ≡ Ok said) × IsPastAt most nodes said number)

-- there are more nodes than the bound, which the fault names, and no line
abbrev pub Outgrows : ℕ → List NodeRecord → RunFault → Type 0
Outgrows most nodes fault = (fault ≡ TooMany (excess.Nodes most)) × (most < length nodes)

-- a result within bounds: as it is without them, and then this holds of an answer; or this bound was passed
abbrev pub Bounded : {X : Type 0} → (Result X RunFault → Type 0) → Type 0 → (RunFault → Type 0)
    → Result X RunFault → Type 0
Bounded Plain Fits Passes (Ok answer) = Plain (Ok answer) × Fits
Bounded Plain Fits Passes (Err fault) = Plain (Err fault) ⊎ Passes fault

-- the result of reading a list of requirements, with at most `most` nodes afterwards, these
abbrev pub LinesWithin : Variables → Input → ℕ → List NodeRecord → List ℕ → Result (List Line) RunFault
    → Type 0
LinesWithin vars input most nodes bytes =
    Bounded (AnswersLines (StandsFor vars nodes) vars input bytes) (length nodes ≤ most)
    (PassesAt vars input most nodes bytes)

-- a command answers only with at most `most` nodes
abbrev pub AnswersWithin : ℕ → List NodeRecord → Answering → Answering
AnswersWithin most nodes Answers inputs status text = Answers inputs status text × (length nodes ≤ most)

-- a command refuses its inputs, or passes a bound
abbrev pub RefusesOr : Refusing → Refusing → Refusing
RefusesOr Passes Refused inputs fault = Refused inputs fault ⊎ Passes inputs fault
