-- The opened inputs and the result of the command on them, whatever opens them.
use Rattle.std.specs.Prelude.{◌≡◌, ◌⊎◌, ℕ, Bool, true, false, List, [], ◌∷◌, map, Option, Some, None}
use Rattle.std.specs.Prelude.{Result, Ok, Err}
use Rattle.std.specs.List.{AllZip}
use Rattle.pep508_url.specs.Vars.{Variables}
use Rattle.pep508_tree.specs.Meaning.{NodeRecord}
use Rattle.reqs_json.specs.declared.format.Format.{Format}
use Rattle.reqs_io_faults.specs.declared.fault.Input.{Input}
use Rattle.reqs_io_faults.specs.declared.fault.Input.TheVariants.{First, Second, Third}
use Rattle.reqs_io_faults.specs.declared.fault.RunFault.{RunFault}
use Rattle.reqs_io_faults.specs.declared.fault.RunFault.TheVariants.{Memory}
use Rattle.reqs_io_faults.specs.declared.fault.Status.{Status}
use Rattle.reqs_io_faults.specs.declared.bounds.Bounds.{Bounds}
use Rattle.reqs_io_faults.specs.Ends.{Answering, Refusing, Runs}
use Rattle.reqs_io_faults.specs.Within.{RefusesOr}
use Rattle.reqs_answers.specs.Check.{ChecksAs, ChecksBy, CheckRefuses}
use Rattle.reqs_answers.specs.Matrix.{MatrixAnswersAs, MatrixRefuses}
use Rattle.reqs_answers.specs.Matrix.{MatrixAnswersWithin, MatrixRefusesWithin, MatrixPasses}
use Rattle.reqs_answers.specs.Matrix.{MatrixAnswersBy}
use Rattle.reqs_lists.specs.Comparison.{SameAnswersAs, SameAnswersWithin, SameRefuses, SameRefusesWithin}
use Rattle.reqs_lists.specs.Comparison.{SamePasses}
use Rattle.reqs_lists.specs.Contradictions.{ConflictsAnswerAs, ConflictsRefuse}
use Rattle.reqs_lists.specs.Contradictions.{ConflictsAnswerWithin, ConflictsRefuseWithin, ConflictsPass}
use Rattle.reqs_lists.specs.Contradictions.{ConflictsAnswerBy}
use Rattle.reqs_lists.specs.Covered.{CoversAnswersAs, CoversAnswersWithin, CoversPasses}
use Rattle.reqs_lists.specs.Normal.{NormalAnswersAs, NormalAnswersWithin, NormalRefuses, NormalRefusesWithin}
use Rattle.reqs_lists.specs.Normal.{NormalPasses}
use Rattle.reqtable_assumption.specs.Where.{Condition}
use Rattle.reqs_assuming.specs.Comparison.{SameAnswersWhere, SameRefusesWhere, SamePassesWhere}
use Rattle.reqs_assuming.specs.Contradictions.{ConflictsAnswerWhere, ConflictsRefuseWhere, ConflictsPassWhere}
use Rattle.reqs_assuming.specs.Covered.{CoversAnswersWhere, CoversPassesWhere}
use Rattle.reqs_command.specs.Asked.{bounds_or_greatest}
use Rattle.reqs_command.specs.declared.request.Asked.{Asked}
use Rattle.reqs_command.specs.declared.request.Asked.TheVariants.{Check, Matrix, Same, Covers}
use Rattle.reqs_command.specs.declared.request.Asked.TheVariants.{Conflicts, Normal}
use Rattle.reqs_command.specs.declared.opened.Opened.{Opened}
use Rattle.reqs_command.specs.declared.opened.Opened.TheVariants as opened

-- ---- a command by the bytes of its inputs

-- what a command may answer in a format
abbrev pub answering : Asked → Format → Variables → List (List ℕ) → Answering
answering Check format vars extras = ChecksAs format vars extras
answering (Matrix limit) format vars extras = MatrixAnswersAs format limit vars extras
answering (Same limit) format vars extras = SameAnswersAs format limit vars
answering (Covers limit) format vars extras = CoversAnswersAs format limit vars
answering (Conflicts limit) format vars extras = ConflictsAnswerAs format limit vars
answering Normal format vars extras = NormalAnswersAs format vars

-- the faults for which a command may refuse its inputs
abbrev pub refusing : Asked → Variables → List (List ℕ) → Refusing
refusing Check vars extras = CheckRefuses vars extras
refusing (Matrix limit) vars extras = MatrixRefuses limit vars extras
refusing (Same limit) vars extras = SameRefuses limit vars
refusing (Covers limit) vars extras = SameRefuses limit vars
refusing (Conflicts limit) vars extras = ConflictsRefuse limit vars
refusing Normal vars extras = NormalRefuses vars

-- the command ends with this result, for the bytes that its readers have
abbrev pub RunsAsked : {W : Type 0} → Asked → Format → Variables → List (List ℕ) → List (Option (List ℕ))
    → (W → Option (List ℕ)) → W → W → Result Status RunFault → Type 0
RunsAsked asked format vars extras told contents old new result =
    Runs (answering asked format vars extras) (refusing asked vars extras) told contents old new result

-- ---- within bounds

-- what a command may answer within bounds, with these nodes afterwards
abbrev pub answering_within : Bounds → List NodeRecord → Asked → Format → Variables → List (List ℕ)
    → Answering
answering_within bounds nodes Check format vars extras = ChecksAs format vars extras
answering_within bounds nodes (Matrix limit) format vars extras =
    MatrixAnswersWithin bounds nodes format limit vars extras
answering_within bounds nodes (Same limit) format vars extras =
    SameAnswersWithin bounds nodes format limit vars
answering_within bounds nodes (Covers limit) format vars extras =
    CoversAnswersWithin bounds nodes format limit vars
answering_within bounds nodes (Conflicts limit) format vars extras =
    ConflictsAnswerWithin bounds nodes format limit vars
answering_within bounds nodes Normal format vars extras = NormalAnswersWithin bounds nodes format vars

-- the faults for which a command may refuse its inputs within bounds, with these nodes afterwards
abbrev pub refusing_within : Bounds → List NodeRecord → Asked → Variables → List (List ℕ) → Refusing
refusing_within bounds nodes Check vars extras = CheckRefuses vars extras
refusing_within bounds nodes (Matrix limit) vars extras =
    RefusesOr (MatrixPasses bounds nodes limit vars extras) (MatrixRefusesWithin bounds limit vars extras)
refusing_within bounds nodes (Same limit) vars extras =
    RefusesOr (SamePasses bounds nodes limit vars) (SameRefusesWithin bounds limit vars)
refusing_within bounds nodes (Covers limit) vars extras =
    RefusesOr (CoversPasses bounds nodes limit vars) (SameRefusesWithin bounds limit vars)
refusing_within bounds nodes (Conflicts limit) vars extras =
    RefusesOr (ConflictsPass bounds nodes limit vars) (ConflictsRefuseWithin bounds limit vars)
refusing_within bounds nodes Normal vars extras =
    RefusesOr (NormalPasses bounds nodes vars) (NormalRefusesWithin bounds vars)

-- the command ends with this result within bounds, for the bytes that its readers have
abbrev pub RunsWithin : {W : Type 0} → Bounds → Asked → Format → Variables → List (List ℕ)
    → List (Option (List ℕ)) → (W → Option (List ℕ)) → W → W → Result Status RunFault → Type 0
RunsWithin bounds asked format vars extras told contents old new result =
    (nodes : List NodeRecord)
    × Runs (answering_within bounds nodes asked format vars extras)
    (refusing_within bounds nodes asked vars extras) told contents old new result

-- the command ends with this result, within bounds if there are any
abbrev pub RunsBounded : {W : Type 0} → Option Bounds → Asked → Format → Variables → List (List ℕ)
    → List (Option (List ℕ)) → (W → Option (List ℕ)) → W → W → Result Status RunFault → Type 0
RunsBounded None asked format vars extras told contents old new result =
    RunsAsked asked format vars extras told contents old new result
RunsBounded (Some bounds) asked format vars extras told contents old new result =
    RunsWithin bounds asked format vars extras told contents old new result

-- ---- strictly

-- what a strict command may answer within bounds; the others know of no such thing
abbrev pub answering_strictly : Bounds → List NodeRecord → Asked → Format → Variables → List (List ℕ)
    → Answering
answering_strictly bounds nodes Check format vars extras = ChecksBy true format vars extras
answering_strictly bounds nodes (Matrix limit) format vars extras =
    MatrixAnswersBy true bounds nodes format limit vars extras
answering_strictly bounds nodes (Conflicts limit) format vars extras =
    ConflictsAnswerBy true bounds nodes format limit vars
answering_strictly bounds nodes asked format vars extras =
    answering_within bounds nodes asked format vars extras

-- the strict command ends with this result within bounds, for the bytes that its readers have
abbrev pub RunsStrictly : {W : Type 0} → Bounds → Asked → Format → Variables → List (List ℕ)
    → List (Option (List ℕ)) → (W → Option (List ℕ)) → W → W → Result Status RunFault → Type 0
RunsStrictly bounds asked format vars extras told contents old new result =
    (nodes : List NodeRecord)
    × Runs (answering_strictly bounds nodes asked format vars extras)
    (refusing_within bounds nodes asked vars extras) told contents old new result

-- ---- where a condition holds

-- what a command, strict or not, may answer where the condition holds, within bounds, with these nodes
-- afterwards; those that judge candidates, and `normal`, know no condition
abbrev pub answering_where : Condition → Bool → Bounds → List NodeRecord → Asked → Format → Variables
    → List (List ℕ) → Answering
answering_where condition strict bounds nodes (Same limit) format vars extras =
    SameAnswersWhere condition bounds nodes format limit vars
answering_where condition strict bounds nodes (Covers limit) format vars extras =
    CoversAnswersWhere condition bounds nodes format limit vars
answering_where condition strict bounds nodes (Conflicts limit) format vars extras =
    ConflictsAnswerWhere condition strict bounds nodes format limit vars
answering_where condition true bounds nodes asked format vars extras =
    answering_strictly bounds nodes asked format vars extras
answering_where condition false bounds nodes asked format vars extras =
    answering_within bounds nodes asked format vars extras

-- the faults for which it may refuse its inputs
abbrev pub refusing_where : Condition → Bounds → List NodeRecord → Asked → Variables → List (List ℕ)
    → Refusing
refusing_where condition bounds nodes (Same limit) vars extras =
    RefusesOr (SamePassesWhere condition bounds nodes limit vars)
    (SameRefusesWhere condition bounds limit vars)
refusing_where condition bounds nodes (Covers limit) vars extras =
    RefusesOr (CoversPassesWhere condition bounds nodes limit vars)
    (SameRefusesWhere condition bounds limit vars)
refusing_where condition bounds nodes (Conflicts limit) vars extras =
    RefusesOr (ConflictsPassWhere condition bounds nodes limit vars)
    (ConflictsRefuseWhere condition bounds limit vars)
refusing_where condition bounds nodes asked vars extras = refusing_within bounds nodes asked vars extras

-- the command ends with this result where the condition holds, for the bytes that its readers have
abbrev pub RunsWhere : {W : Type 0} → Condition → Bool → Bounds → Asked → Format → Variables
    → List (List ℕ) → List (Option (List ℕ)) → (W → Option (List ℕ)) → W → W → Result Status RunFault → Type 0
RunsWhere condition strict bounds asked format vars extras told contents old new result =
    (nodes : List NodeRecord)
    × Runs (answering_where condition strict bounds nodes asked format vars extras)
    (refusing_where condition bounds nodes asked vars extras) told contents old new result

-- ---- by its options

-- the command ends with this result: where a condition holds, if there is one, strict or not, and within
-- bounds, which are the greatest where it has no others but a condition or is strict
abbrev pub RunsBy : {W : Type 0} → Option Condition → Bool → Option Bounds → Asked → Format → Variables
    → List (List ℕ) → List (Option (List ℕ)) → (W → Option (List ℕ)) → W → W → Result Status RunFault → Type 0
RunsBy (Some condition) strict bounds asked format vars extras told contents old new result =
    RunsWhere condition strict (bounds_or_greatest bounds) asked format vars extras told contents old new
    result
RunsBy None true bounds asked format vars extras told contents old new result =
    RunsStrictly (bounds_or_greatest bounds) asked format vars extras told contents old new result
RunsBy None false bounds asked format vars extras told contents old new result =
    RunsBounded bounds asked format vars extras told contents old new result

-- ---- opened inputs

-- the inputs of a command, in the order of the command line
abbrev pub inputs_of : Asked → List Input
inputs_of Check = First ∷ Second ∷ Third ∷ []
inputs_of (Matrix limit) = First ∷ Second ∷ Third ∷ []
inputs_of (Same limit) = First ∷ Second ∷ []
inputs_of (Covers limit) = First ∷ Second ∷ []
inputs_of (Conflicts limit) = First ∷ []
inputs_of Normal = First ∷ []

-- the command that has these inputs, and the inputs in the same order
abbrev pub asked_of : {S : Type 0} → Opened S → Asked
asked_of (opened.Check requirements environment candidates) = Check
asked_of (opened.Matrix requirements environments candidates limit) = Matrix limit
asked_of (opened.Same left right limit) = Same limit
asked_of (opened.Covers lock requirements limit) = Covers limit
asked_of (opened.Conflicts requirements limit) = Conflicts limit
asked_of (opened.Normal requirements) = Normal

abbrev pub readers_of : {S : Type 0} → Opened S → List S
readers_of (opened.Check requirements environment candidates) = requirements ∷ environment ∷ candidates ∷ []
readers_of (opened.Matrix requirements environments candidates limit) =
    requirements ∷ environments ∷ candidates ∷ []
readers_of (opened.Same left right limit) = left ∷ right ∷ []
readers_of (opened.Covers lock requirements limit) = lock ∷ requirements ∷ []
readers_of (opened.Conflicts requirements limit) = requirements ∷ []
readers_of (opened.Normal requirements) = requirements ∷ []

-- readers are what was returned for the inputs, each at its place
abbrev pub AreGiven : {S : Type 0} → (Input → Result S RunFault → Type 0) → List Input → List S → Type 0
AreGiven gives inputs readers = AllZip (λ input reader. gives input (Ok reader)) inputs readers

-- all inputs of a command are opened, or one is not
abbrev pub Opens : {S : Type 0} → Asked → (Input → Result S RunFault → Type 0)
    → Result (Opened S) RunFault → Type 0
Opens asked gives (Ok opened) =
    (asked_of opened ≡ asked) × AreGiven gives (inputs_of asked) (readers_of opened)
Opens asked gives (Err fault) = (input : Input) × gives input (Err fault)

-- ---- running the command on them

-- all inputs were opened, and the command ends with this result on them
pub record RunsAll {S W : Type 0} (condition : Option Condition) (strict : Bool) (bounds : Option Bounds)
    (asked : Asked) (format : Format) (gives : Input → Result S RunFault → Type 0)
    (remaining : S → Option (List ℕ)) (vars : Variables) (extras : List (List ℕ))
    (contents : W → Option (List ℕ)) (old new : W) (result : Result Status RunFault) : Type 0 where
  pub readers : List S
  pub opened : AreGiven gives (inputs_of asked) readers
  pub runs : RunsBy condition strict bounds asked format vars extras (map remaining readers) contents old new
      result

-- an input wasn't opened, or there was no memory for the variables, and nothing was written
abbrev pub IsRefusedBefore : {S W : Type 0} → (Input → Result S RunFault → Type 0) → W → W
    → Result Status RunFault → Type 0
IsRefusedBefore gives old new (Ok status) = ⊥
IsRefusedBefore gives old new (Err fault) =
    (((input : Input) × gives input (Err fault)) ⊎ (fault ≡ Memory)) × (new ≡ old)

-- how the command ends on the inputs that are opened
abbrev pub RunsOpened : {S W : Type 0} → Option Condition → Bool → Option Bounds → Asked → Format
    → (Input → Result S RunFault → Type 0) → (S → Option (List ℕ)) → Variables → List (List ℕ)
    → (W → Option (List ℕ)) → W → W → Result Status RunFault → Type 0
RunsOpened condition strict bounds asked format gives remaining vars extras contents old new result =
    RunsAll condition strict bounds asked format gives remaining vars extras contents old new result
    ⊎ IsRefusedBefore gives old new result
