-- The command `same`, from the bytes of two lists to those of its answer.
use Rattle.std.specs.Prelude.{◌≡◌, ◌⊎◌, ℕ, true, false, List, [], ◌∷◌, ◌++◌, codes, unwrap_or, Option, Result}
use Rattle.std.specs.Prelude.{◌≤◌, ◌<◌, length, Ok, Err, String, string_bytes}
use Rattle.std.specs.Global.{Global}
use Rattle.serde_json.specs.Data.{Data, boolean, string, object, no_members, member}
use Rattle.pep508_url.specs.Vars.{Variables}
use Rattle.pep508_diagram.specs.Diagram.{Diagram}
use Rattle.pep508_diagram.specs.Question.{Question, Valuation, truth, IsCanonical}
use Rattle.pep508_diagram.specs.Shortened.{HasShortVersions}
use Rattle.pep508_tree.specs.Tree.{Tree}
use Rattle.pep508_tree.specs.Meaning.{NodeRecord, holds}
use Rattle.pep508_marker_display.specs.Counted.{clause_count}
use Rattle.pep508_marker_text_laws.specs.MarkerText.{marker_text}
use Rattle.reqtable_requirements.specs.LineReading.{LineRecord}
use Rattle.reqtable_cases.specs.Requires.{RequireTheSame, IsFirstDifference}
use Rattle.reqtable_compare.specs.Compared.{MayCompare, Compares, ComparesWithin}
use Rattle.reqtable_compare.specs.declared.sides.LineCause.{LineCause}
use Rattle.reqtable_compare.specs.declared.sides.LineCause.TheVariants as cause
use Rattle.reqtable_compare.specs.declared.sides.Same.{Same}
use Rattle.reqtable_compare.specs.declared.sides.SameError.{SameError}
use Rattle.reqtable_compare.specs.declared.sides.SameError.TheVariants as errors
use Rattle.reqtable_compare.specs.declared.sides.Side.{Side}
use Rattle.reqtable_compare.specs.declared.sides.Side.TheVariants.{Left, Right}
use Rattle.reqs_json.specs.declared.format.Format.{Format}
use Rattle.reqs_json.specs.declared.format.Format.TheVariants.{Text, Json}
use Rattle.reqs_json.specs.Lines.{value_or_null, line_of}
use Rattle.reqs_io_faults.specs.declared.fault.Input.{Input}
use Rattle.reqs_io_faults.specs.declared.fault.Input.TheVariants.{First, Second}
use Rattle.reqs_io_faults.specs.declared.fault.RefusedCause.TheVariants as refused
use Rattle.reqs_io_faults.specs.declared.fault.RunFault.{RunFault}
use Rattle.reqs_io_faults.specs.declared.fault.RunFault.TheVariants as run
use Rattle.reqs_io_faults.specs.declared.fault.Status.{Status}
use Rattle.reqs_io_faults.specs.declared.fault.Status.TheVariants as status
use Rattle.reqs_io_faults.specs.Ends.{Runs}
use Rattle.reqs_io_faults.specs.declared.bounds.Bounds.{Bounds}
use Rattle.reqs_io_faults.specs.Within.{RefusesOr, Outgrows}
use Rattle.reqs_io_faults.specs.declared.bounds.Excess.TheVariants as excess
use Rattle.reqs_lists.specs.Lists.{IsOfLists, two_lists, IsRead, RefusesLists, PassesInEither}

-- what two lists require
abbrev pub Lists : Type 0
Lists = List LineRecord × List LineRecord

-- ---- the text

-- where a difference is
abbrev pub place_text : Diagram Question → List ℕ
place_text diagram = unwrap_or (marker_text diagram) (codes "all environments")

abbrev pub difference_text : List ℕ → Diagram Question → List ℕ
difference_text name diagram =
    codes "no\n" ++ (name ++ (codes "\n" ++ (place_text diagram ++ codes "\n")))

-- the answers as objects; null is the marker of a difference that is everywhere
abbrev pub same_value : Data
same_value = object (member (codes "same") (boolean true) no_members)

abbrev pub difference_value : List ℕ → Diagram Question → Data
difference_value name diagram = object (
    member (codes "marker") (value_or_null string (marker_text diagram)) (
    member (codes "package") (string name) (
    member (codes "same") (boolean false) no_members)))

-- the answers in a format
abbrev pub same_in : Format → List ℕ
same_in Text = codes "yes\n"
same_in Json = line_of same_value

abbrev pub difference_in : Format → List ℕ → Diagram Question → List ℕ
difference_in Text name diagram = difference_text name diagram
difference_in Json name diagram = line_of (difference_value name diagram)

-- ---- the result for lists

-- the first package that differs, and the one diagram that has no needless question, has each version in its
-- shortest spelling, and holds exactly where the first two cases hold together that require different things
pub record IsToldDifference (lists : Lists) (name : List ℕ) (diagram : Diagram Question) : Type 0 where
  pub nodes : List NodeRecord
  pub tree : Tree
  pub difference : IsFirstDifference lists.0 lists.1 nodes name tree
  pub canonical : IsCanonical diagram
  pub short : HasShortVersions diagram
  pub means : (v : Valuation) → truth diagram v ≡ holds nodes tree v

-- both lists can be compared, and they require the same, or this is their first difference
abbrev pub IsSameAnswer : Format → ℕ → Lists → Status → List ℕ → Type 0
IsSameAnswer format limit lists ended text =
    MayCompare limit lists.0 lists.1
    × (((ended ≡ status.Answered) × (text ≡ same_in format) × RequireTheSame lists.0 lists.1)
    ⊎ ((ended ≡ status.Different) × ((name : List ℕ) × (diagram : Diagram Question)
    × IsToldDifference lists name diagram × (text ≡ difference_in format name diagram))))

-- ---- why they are refused

abbrev pub input_of : Side → Input
input_of Left = First
input_of Right = Second

abbrev pub line_fault : Input → ℕ → LineCause → RunFault
line_fault input number cause.Url = run.Refused input number refused.Url
line_fault input number cause.ExactEqual = run.Refused input number refused.ExactEqual
line_fault input number cause.PostAfterBound = run.Refused input number refused.PostAfterBound
line_fault input number cause.NumberAtEnd = run.NumberAtEnd input number

abbrev pub fault_of : ℕ → SameError → RunFault
fault_of limit (errors.Line side number why) = line_fault (input_of side) number why
fault_of limit (errors.TooManyCases side name) = run.TooManyCases (input_of side) limit name
fault_of limit (errors.TooManyCasesInAll side) = run.Memory
fault_of limit errors.Memory = run.Memory

-- the fault is the reason why parsed lists can't be compared
abbrev pub CantBeCompared : ℕ → Lists → RunFault → Type 0
CantBeCompared limit lists fault =
    (error : SameError) × (fault ≡ fault_of limit error)
    × ((nodes : List NodeRecord) × Compares limit nodes lists.0 lists.1 (Err error))

-- ---- the command

abbrev pub SameAnswersAs : Format → ℕ → Variables → List (List ℕ) → Status → List ℕ → Type 0
SameAnswersAs format limit vars inputs ended text =
    IsRead (two_lists vars inputs) (λ lists. IsSameAnswer format limit lists ended text)

abbrev pub SameRefuses : ℕ → Variables → List (List ℕ) → RunFault → Type 0
SameRefuses limit vars inputs fault =
    RefusesLists (IsOfLists vars inputs) (CantBeCompared limit) (two_lists vars inputs) fault

-- `same` ends with this result, for the bytes that its readers have of the left and the right list
abbrev pub RunsSame : {W : Type 0} → Format → ℕ → Variables → Option (List ℕ) → Option (List ℕ)
    → (W → Option (List ℕ)) → W → W → Result Status RunFault → Type 0
RunsSame format limit vars left right contents old new result =
    Runs (SameAnswersAs format limit vars) (SameRefuses limit vars)
    (left ∷ right ∷ []) contents old new result

-- ---- with bounds

-- the fault is the reason why parsed lists can't be compared, with at most `most` cases of all packages of
-- either
abbrev pub CantBeWithin : ℕ → ℕ → Lists → RunFault → Type 0
CantBeWithin limit most lists fault =
    (error : SameError) × (fault ≡ fault_of limit error)
    × ((nodes : List NodeRecord) × ComparesWithin limit most nodes lists.0 lists.1 (Err error))

-- what is found of parsed lists, or why they can't be compared
abbrev pub ComparesOrRefuses : ℕ → ℕ → List NodeRecord → Lists → Result Same RunFault → Type 0
ComparesOrRefuses limit most nodes lists (Ok same) =
    ComparesWithin limit most nodes lists.0 lists.1 (Ok same)
ComparesOrRefuses limit most nodes lists (Err fault) =
    (fault ≡ run.Memory) ⊎ CantBeWithin limit most lists fault

-- all packages of a list together have more cases than there may be, which the fault says of that list
abbrev pub HasMoreCases : ℕ → ℕ → Lists → RunFault → Type 0
HasMoreCases limit most lists fault =
    (side : Side) × (fault ≡ run.TooMany (excess.Cases (input_of side) most))
    × ((nodes : List NodeRecord)
    × ComparesWithin limit most nodes lists.0 lists.1 (Err (errors.TooManyCasesInAll side)))

-- a bound was passed while lists were compared: on the nodes, or else on the cases of all packages of a list
abbrev pub OutgrowsOrCases : Bounds → List NodeRecord → ℕ → Lists → RunFault → Type 0
OutgrowsOrCases bounds nodes limit lists fault =
    Outgrows bounds.nodes nodes fault
    ⊎ ((length nodes ≤ bounds.nodes) × HasMoreCases limit bounds.cases lists fault)

-- the marker of the first difference, if there is one, has at most `most` clauses
abbrev pub HasFewClauses : ℕ → Lists → Type 0
HasFewClauses most lists =
    (name : List ℕ) (diagram : Diagram Question) → IsToldDifference lists name diagram
    → clause_count diagram ≤ most

-- the answer on such lists
abbrev pub IsFewSame : Format → ℕ → ℕ → Lists → Status → List ℕ → Type 0
IsFewSame format limit most lists ended text =
    IsSameAnswer format limit lists ended text × HasFewClauses most lists

-- the fault names the package of the first difference, whose marker has more clauses
abbrev pub HasLongDifference : ℕ → ℕ → Lists → RunFault → Type 0
HasLongDifference limit most lists fault =
    MayCompare limit lists.0 lists.1 × ((name : List ℕ) × (diagram : Diagram Question)
    × (fault ≡ run.TooMany (excess.ClausesFor name most)) × IsToldDifference lists name diagram
    × (most < clause_count diagram))

-- the text of a difference in a format, if its diagram has at most `most` clauses
abbrev pub TellsWithin : Format → ℕ → List ℕ → Diagram Question → Result (String Global) RunFault → Type 0
TellsWithin format most name diagram (Ok text) =
    (string_bytes text ≡ difference_in format name diagram) × (clause_count diagram ≤ most)
TellsWithin format most name diagram (Err fault) =
    (fault ≡ run.Memory)
    ⊎ ((fault ≡ run.TooMany (excess.ClausesFor name most)) × (most < clause_count diagram))

-- a bound was passed once lists were parsed: while they were compared, or else on the clauses of the first
-- difference
abbrev pub OutgrowsOrLong : Bounds → List NodeRecord → ℕ → Lists → RunFault → Type 0
OutgrowsOrLong bounds nodes limit lists fault =
    OutgrowsOrCases bounds nodes limit lists fault
    ⊎ ((length nodes ≤ bounds.nodes) × HasLongDifference limit bounds.clauses lists fault)

-- the answer for the texts of lists, with at most `bounds.nodes` nodes
abbrev pub SameAnswersWithin : Bounds → List NodeRecord → Format → ℕ → Variables → List (List ℕ) → Status
    → List ℕ → Type 0
SameAnswersWithin bounds nodes format limit vars inputs ended text =
    IsRead (two_lists vars inputs) (λ lists. IsFewSame format limit bounds.clauses lists ended text)
    × (length nodes ≤ bounds.nodes)

abbrev pub SameRefusesWithin : Bounds → ℕ → Variables → List (List ℕ) → RunFault → Type 0
SameRefusesWithin bounds limit vars inputs fault =
    RefusesLists (IsOfLists vars inputs) (CantBeWithin limit bounds.cases) (two_lists vars inputs) fault

-- a bound was passed: at a line, or once lists were parsed
abbrev pub SamePasses : Bounds → List NodeRecord → ℕ → Variables → List (List ℕ) → RunFault → Type 0
SamePasses bounds nodes limit vars inputs fault =
    PassesInEither vars bounds.nodes nodes inputs fault
    ⊎ IsRead (two_lists vars inputs) (λ lists. OutgrowsOrLong bounds nodes limit lists fault)

-- `same` ends with this result where the bounds are these, with these nodes afterwards
abbrev pub RunsSameWithin : {W : Type 0} → Bounds → List NodeRecord → Format → ℕ → Variables
    → Option (List ℕ) → Option (List ℕ) → (W → Option (List ℕ)) → W → W → Result Status RunFault → Type 0
RunsSameWithin bounds nodes format limit vars left right contents old new result =
    Runs (SameAnswersWithin bounds nodes format limit vars)
    (RefusesOr (SamePasses bounds nodes limit vars) (SameRefusesWithin bounds limit vars))
    (left ∷ right ∷ []) contents old new result
