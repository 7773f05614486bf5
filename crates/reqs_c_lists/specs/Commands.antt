-- How a call that runs a command on texts ends: as the command ends on readers of them.
use Rattle.std.specs.Prelude.{◌≡◌, ◌<◌, ◌⊎◌, ℕ, true, List, [], ◌∷◌, length, take, codes, Result, Ok, Err}
use Rattle.std.specs.Str.{is_utf8}
use Rattle.reqs_io_faults.specs.declared.fault.RunFault.{RunFault}
use Rattle.reqs_io_faults.specs.declared.fault.RunFault.TheVariants.{TooLong}
use Rattle.reqs_io_faults.specs.declared.fault.Status.{Status}
use Rattle.reqs_io_faults.specs.declared.fault.Status.TheVariants as status
use Rattle.reqs_io_faults.specs.Ends.{Answering, Refusing, AreWithin, place_of, of_input}
use Rattle.reqs_json.specs.declared.format.Format.{Format}
use Rattle.reqs_io_faults.specs.declared.bounds.Bounds.{Bounds}
use Rattle.reqs_io_faults.specs.Inputs.{input_limit}
use Rattle.reqs_io_faults.specs.Within.{RefusesOr}
use Rattle.reqs_lists.specs.Comparison.{SameAnswersWithin, SamePasses, SameRefusesWithin}
use Rattle.reqs_lists.specs.Covered.{CoversAnswersWithin, CoversPasses}
use Rattle.reqs_lists.specs.Contradictions.{ConflictsAnswerWithin, ConflictsPass, ConflictsRefuseWithin}
use Rattle.reqs_lists.specs.Normal.{NormalAnswersWithin, NormalPasses, NormalRefusesWithin}
use Rattle.reqs_answers.specs.Check.{ChecksAs, CheckRefuses}
use Rattle.reqs_answers.specs.Matrix.{MatrixAnswersWithin, MatrixPasses, MatrixRefusesWithin}
use Rattle.pep508_url.specs.Vars.{Variables}
use Rattle.pep508_tree.specs.Meaning.{NodeRecord}
use Rattle.pep508_tree.specs.Nodes.{AreSound}
use Rattle.reqs_c_reply.specs.declared.place.Place.{Place}
use Rattle.reqs_c_reply.specs.Endings.{Ending, Answered, Different, Refused, OutOfMemory}
use Rattle.reqs_c_reply.specs.Endings.{EndsIn, NoAnswer, IsNotText}
use Rattle.reqs_c_reply.specs.Lines.{filled_lines}
use Rattle.reqs_c_markers.specs.Parts.{no_variables}
use Rattle.reqs_c_lists.specs.Refusals.{IsToldAt}

-- why a command refuses its inputs: one is longer than 16,777,216 bytes, and those before it aren't; or none
-- is, and they are invalid
abbrev pub RefusesInputs : Refusing → List (List ℕ) → RunFault → Type 0
RefusesInputs Refuses inputs (TooLong input) =
    AreWithin (take (place_of input) inputs) × (input_limit < length (of_input inputs input))
RefusesInputs Refuses inputs fault = AreWithin inputs × Refuses inputs fault

-- how a command on these inputs ends, by what it may answer and the faults for which it may refuse them,
-- which determine the place and the message
abbrev pub CommandEnds : Answering → Refusing → (RunFault → Place → List ℕ → Type 0) → List (List ℕ)
    → Ending → Type 0
CommandEnds Answers Refuses Tells inputs (Answered text) =
    AreWithin inputs × Answers inputs status.Answered text
CommandEnds Answers Refuses Tells inputs (Different text) =
    AreWithin inputs × Answers inputs status.Different text
CommandEnds Answers Refuses Tells inputs (Refused place message) =
    (fault : RunFault) × RefusesInputs Refuses inputs fault × Tells fault place message
CommandEnds Answers Refuses Tells inputs OutOfMemory = Unit {0}

-- what may be answered, and the faults for which inputs may be refused, where some nodes are made, no two of
-- which are equal
abbrev pub AnswersOfNodes : (List NodeRecord → Answering) → Answering
AnswersOfNodes Answers inputs ended text =
    (nodes : List NodeRecord) × AreSound nodes × Answers nodes inputs ended text

abbrev pub RefusesOfNodes : (List NodeRecord → Refusing) → Refusing
RefusesOfNodes Refuses inputs fault =
    (nodes : List NodeRecord) × AreSound nodes × Refuses nodes inputs fault

-- how a command ends, by what it may answer and refuse with the nodes that it made
abbrev pub WithNodes : (List NodeRecord → Answering) → (List NodeRecord → Refusing)
    → (RunFault → Place → List ℕ → Type 0) → List (List ℕ) → Ending → Type 0
WithNodes Answers Refuses = CommandEnds (AnswersOfNodes Answers) (RefusesOfNodes Refuses)

-- how a call ends with the extras on the lines of an argument; or the argument is not UTF-8, or memory ran
-- out
abbrev pub WithExtras : ℕ → (List (List ℕ) → Ending → Type 0) → List ℕ → Ending → Type 0
WithExtras argument Ends extras ending =
    ((is_utf8 extras ≡ true) × Ends (filled_lines extras) ending)
    ⊎ EndsIn NoAnswer (IsNotText argument extras) ending

-- ---- the commands, whose answers are in a format; a refusal's message is the same in each

-- the names of the inputs in messages
abbrev pub check_names : List (List ℕ)
check_names = codes "requirements" ∷ codes "environment" ∷ codes "candidates" ∷ []

abbrev pub matrix_names : List (List ℕ)
matrix_names = codes "requirements" ∷ codes "environments" ∷ codes "candidates" ∷ []

abbrev pub same_names : List (List ℕ)
same_names = codes "left" ∷ codes "right" ∷ []

abbrev pub covers_names : List (List ℕ)
covers_names = codes "lock" ∷ codes "requirements" ∷ []

abbrev pub list_names : List (List ℕ)
list_names = codes "requirements" ∷ []

-- `reqs check`
abbrev pub ChecksInputs : Format → List (List ℕ) → List (List ℕ) → Ending → Type 0
ChecksInputs format inputs extras =
    CommandEnds (ChecksAs format no_variables extras) (CheckRefuses no_variables extras)
    (IsToldAt check_names 4) inputs

abbrev pub CheckEnds : Format → List ℕ → List ℕ → List ℕ → List ℕ → Ending → Type 0
CheckEnds format requirements environment candidates =
    WithExtras 4 (ChecksInputs format (requirements ∷ environment ∷ candidates ∷ []))

-- `reqs matrix` within bounds, with these variables and extras
abbrev pub TablesWith : Format → ℕ → Bounds → List (List ℕ) → Variables → List (List ℕ) → Ending → Type 0
TablesWith format limit bounds inputs vars extras =
    WithNodes (λ nodes. MatrixAnswersWithin bounds nodes format limit vars extras)
    (λ nodes. RefusesOr (MatrixPasses bounds nodes limit vars extras)
    (MatrixRefusesWithin bounds limit vars extras))
    (IsToldAt matrix_names 4) inputs

abbrev pub MatrixEnds : Format → ℕ → Bounds → List ℕ → List ℕ → List ℕ → List ℕ → Ending → Type 0
MatrixEnds format limit bounds requirements environments candidates =
    WithExtras 4 (TablesWith format limit bounds (requirements ∷ environments ∷ candidates ∷ []) no_variables)

-- `reqs same` within bounds
abbrev pub SameEndsWith : Format → ℕ → Bounds → Variables → List (List ℕ) → Ending → Type 0
SameEndsWith format limit bounds vars =
    WithNodes (λ nodes. SameAnswersWithin bounds nodes format limit vars)
    (λ nodes. RefusesOr (SamePasses bounds nodes limit vars) (SameRefusesWithin bounds limit vars))
    (IsToldAt same_names 0)

abbrev pub SameEnds : Format → ℕ → Bounds → List ℕ → List ℕ → Ending → Type 0
SameEnds format limit bounds left right = SameEndsWith format limit bounds no_variables (left ∷ right ∷ [])

-- `reqs covers` within bounds
abbrev pub CoversEndsWith : Format → ℕ → Bounds → Variables → List (List ℕ) → Ending → Type 0
CoversEndsWith format limit bounds vars =
    WithNodes (λ nodes. CoversAnswersWithin bounds nodes format limit vars)
    (λ nodes. RefusesOr (CoversPasses bounds nodes limit vars) (SameRefusesWithin bounds limit vars))
    (IsToldAt covers_names 0)

abbrev pub CoversEnds : Format → ℕ → Bounds → List ℕ → List ℕ → Ending → Type 0
CoversEnds format limit bounds lock requirements =
    CoversEndsWith format limit bounds no_variables (lock ∷ requirements ∷ [])

-- `reqs conflicts` within bounds
abbrev pub ConflictsEndWith : Format → ℕ → Bounds → Variables → List (List ℕ) → Ending → Type 0
ConflictsEndWith format limit bounds vars =
    WithNodes (λ nodes. ConflictsAnswerWithin bounds nodes format limit vars)
    (λ nodes. RefusesOr (ConflictsPass bounds nodes limit vars) (ConflictsRefuseWithin bounds limit vars))
    (IsToldAt list_names 0)

abbrev pub ConflictsEnd : Format → ℕ → Bounds → List ℕ → Ending → Type 0
ConflictsEnd format limit bounds requirements =
    ConflictsEndWith format limit bounds no_variables (requirements ∷ [])

-- `reqs normal` within bounds
abbrev pub NormalEndsWith : Format → Bounds → Variables → List (List ℕ) → Ending → Type 0
NormalEndsWith format bounds vars =
    WithNodes (λ nodes. NormalAnswersWithin bounds nodes format vars)
    (λ nodes. RefusesOr (NormalPasses bounds nodes vars) (NormalRefusesWithin bounds vars))
    (IsToldAt list_names 0)

abbrev pub NormalEnds : Format → Bounds → List ℕ → Ending → Type 0
NormalEnds format bounds requirements = NormalEndsWith format bounds no_variables (requirements ∷ [])

-- ---- the result of a command

-- how a call ends by the result of a command that wrote this text
abbrev pub TellsRun : List (List ℕ) → ℕ → Result Status RunFault → List ℕ → Ending → Type 0
TellsRun names extras ran written (Answered text) = (ran ≡ Ok status.Answered) × (text ≡ written)
TellsRun names extras ran written (Different text) = (ran ≡ Ok status.Different) × (text ≡ written)
TellsRun names extras ran written (Refused place message) =
    (fault : RunFault) × (ran ≡ Err fault) × IsToldAt names extras fault place message
TellsRun names extras ran written OutOfMemory = Unit {0}
