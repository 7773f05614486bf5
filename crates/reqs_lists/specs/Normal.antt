-- The command `normal`, from the bytes of a list to those of its normal text.
use Rattle.std.specs.Prelude.{◌≡◌, ◌≤◌, ◌⊎◌, ℕ, List, [], ◌∷◌, length, codes, Option, Some, Result}
use Rattle.std.specs.List.{AllByRecursion}
use Rattle.serde_json.specs.Data.{Data, object, no_members, member}
use Rattle.pep508_url.specs.Vars.{Variables}
use Rattle.pep508_tree.specs.Meaning.{NodeRecord}
use Rattle.reqtable_requirements.specs.LineReading.{LineRecord}
use Rattle.reqtable_normal.specs.Bounded.{IsPrintable, IsFirstError}
use Rattle.reqtable_normal.specs.Normalized.{IsNormalText, IsFirstFault}
use Rattle.reqtable_normal.specs.declared.error.NormalError.TheVariants.{Line, TooManyClauses}
use Rattle.reqtable_normal.specs.declared.error.NormalCause.{NormalCause}
use Rattle.reqtable_normal.specs.declared.error.NormalCause.TheVariants as cause
use Rattle.reqs_json.specs.declared.format.Format.{Format}
use Rattle.reqs_json.specs.declared.format.Format.TheVariants.{Text, Json}
use Rattle.reqs_json.specs.Lines.{lines_value, line_of}
use Rattle.reqs_io_faults.specs.declared.fault.Input.TheVariants.{First}
use Rattle.reqs_io_faults.specs.declared.fault.RefusedCause.{RefusedCause}
use Rattle.reqs_io_faults.specs.declared.fault.RefusedCause.TheVariants as refused
use Rattle.reqs_io_faults.specs.declared.fault.RunFault.{RunFault}
use Rattle.reqs_io_faults.specs.declared.fault.RunFault.TheVariants as run
use Rattle.reqs_io_faults.specs.declared.fault.Status.{Status}
use Rattle.reqs_io_faults.specs.declared.fault.Status.TheVariants as status
use Rattle.reqs_io_faults.specs.Ends.{Runs}
use Rattle.reqs_io_faults.specs.declared.bounds.Bounds.{Bounds}
use Rattle.reqs_io_faults.specs.Within.{RefusesOr}
use Rattle.reqs_io_faults.specs.declared.bounds.Excess.TheVariants as excess
use Rattle.reqs_lists.specs.Lists.{IsOfLists, one_list, IsRead, RefusesLists, PassesInFirst}

-- the cause of the command's fault for this cause
abbrev pub refused_for : NormalCause → RefusedCause
refused_for cause.Url = refused.Url
refused_for cause.SingleQuote = refused.SingleQuote
refused_for cause.DeprecatedKey = refused.DeprecatedKey
refused_for cause.Bound = refused.Bound

-- a normal text as an object, which has its lines
abbrev pub normal_value : List ℕ → Data
normal_value text = object (member (codes "requirements") (lines_value text) no_members)

-- a normal text in a format
abbrev pub normal_in : Format → List ℕ → List ℕ
normal_in Text text = text
normal_in Json text = line_of (normal_value text)

-- the answer on lines is their normal text in a format
abbrev pub IsNormalAnswer : Format → List LineRecord → Status → List ℕ → Type 0
IsNormalAnswer format lines ended text =
    (ended ≡ status.Answered)
    × ((normal : List ℕ) × IsNormalText lines normal × (text ≡ normal_in format normal))

-- the fault names the first line without a normal text, and the cause
abbrev pub HasNoNormal : List LineRecord → RunFault → Type 0
HasNoNormal lines fault =
    (number : ℕ) × (why : NormalCause) × (fault ≡ run.Refused First number (refused_for why))
    × IsFirstFault lines number why

abbrev pub NormalAnswersAs : Format → Variables → List (List ℕ) → Status → List ℕ → Type 0
NormalAnswersAs format vars inputs ended text =
    IsRead (one_list vars inputs) (λ lines. IsNormalAnswer format lines ended text)

abbrev pub NormalRefuses : Variables → List (List ℕ) → RunFault → Type 0
NormalRefuses vars inputs = RefusesLists (IsOfLists vars inputs) HasNoNormal (one_list vars inputs)

-- `normal` ends with this result, for the bytes that its reader has of the requirements
abbrev pub RunsNormal : {W : Type 0} → Format → Variables → Option (List ℕ) → (W → Option (List ℕ)) → W → W
    → Result Status RunFault → Type 0
RunsNormal format vars requirements contents old new result =
    Runs (NormalAnswersAs format vars) (NormalRefuses vars) (requirements ∷ []) contents old new result

-- ---- with bounds

-- the answer on lines whose markers have at most `most` clauses
abbrev pub IsFewNormal : Format → ℕ → List LineRecord → Status → List ℕ → Type 0
IsFewNormal format most lines ended text =
    IsNormalAnswer format lines ended text × AllByRecursion (IsPrintable (Some most)) lines

-- the fault names the first line that can't be printed, since it has no normal text, and the cause
abbrev pub HasFaultyLine : ℕ → List LineRecord → RunFault → Type 0
HasFaultyLine most lines fault =
    (number : ℕ) × (why : NormalCause) × (fault ≡ run.Refused First number (refused_for why))
    × IsFirstError (Some most) lines (Line number why)

-- the fault names the first line that can't be printed, since its marker has more clauses
abbrev pub HasLongLine : ℕ → List LineRecord → RunFault → Type 0
HasLongLine most lines fault =
    (number : ℕ) × (fault ≡ run.TooMany (excess.ClausesAt First number most))
    × IsFirstError (Some most) lines (TooManyClauses number)

-- the answer for the texts of lists, with at most `bounds.nodes` nodes
abbrev pub NormalAnswersWithin : Bounds → List NodeRecord → Format → Variables → List (List ℕ) → Status
    → List ℕ → Type 0
NormalAnswersWithin bounds nodes format vars inputs ended text =
    IsRead (one_list vars inputs) (λ lines. IsFewNormal format bounds.clauses lines ended text)
    × (length nodes ≤ bounds.nodes)

abbrev pub NormalRefusesWithin : Bounds → Variables → List (List ℕ) → RunFault → Type 0
NormalRefusesWithin bounds vars inputs =
    RefusesLists (IsOfLists vars inputs) (HasFaultyLine bounds.clauses) (one_list vars inputs)

-- a bound was passed: on the nodes, or else on the clauses of a line's marker
abbrev pub NormalPasses : Bounds → List NodeRecord → Variables → List (List ℕ) → RunFault → Type 0
NormalPasses bounds nodes vars inputs fault =
    PassesInFirst vars bounds.nodes nodes inputs fault
    ⊎ IsRead (one_list vars inputs) (λ lines.
    (length nodes ≤ bounds.nodes) × HasLongLine bounds.clauses lines fault)

-- `normal` ends with this result where the bounds are these, with these nodes afterwards
abbrev pub RunsNormalWithin : {W : Type 0} → Bounds → List NodeRecord → Format → Variables → Option (List ℕ)
    → (W → Option (List ℕ)) → W → W → Result Status RunFault → Type 0
RunsNormalWithin bounds nodes format vars requirements contents old new result =
    Runs (NormalAnswersWithin bounds nodes format vars)
    (RefusesOr (NormalPasses bounds nodes vars) (NormalRefusesWithin bounds vars))
    (requirements ∷ []) contents old new result
