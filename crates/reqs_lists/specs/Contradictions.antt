-- The command `conflicts`, from the bytes of a list to those of its conflicts.
use Rattle.std.specs.Prelude.{◌≡◌, ◌⊎◌, ℕ, Bool, true, false, List, [], ◌∷◌, ◌++◌, map, codes, Option}
use Rattle.std.specs.Prelude.{◌≤◌, length, Result, Ok, Err, Vec}
use Rattle.std.specs.Global.{Global}
use Rattle.std.specs.List.{flat_map, join_with_byte}
use Rattle.std.specs.Fmt.{decimal}
use Rattle.serde_json.specs.Data.{Data, boolean, string, object, no_members, member}
use Rattle.pep508_url.specs.Vars.{Variables}
use Rattle.pep508_tree.specs.Meaning.{NodeRecord}
use Rattle.reqtable_requirements.specs.LineReading.{LineRecord}
use Rattle.reqtable_cases.specs.Lines.{IsFirstTooMany}
use Rattle.reqtable_conflicts.specs.Contradictions.{ConflictRecord, conflict_record, FindsConflicts}
use Rattle.reqtable_conflicts.specs.Contradictions.{FindsWithin}
use Rattle.reqtable_conflicts.specs.declared.contradicting.Conflict.{Conflict}
use Rattle.reqtable_table.specs.InAll.{HasTooManyInAll}
use Rattle.reqtable_table.specs.declared.table.TableError.TheVariants.{TooManyCases}
use Rattle.reqs_json.specs.declared.format.Format.{Format}
use Rattle.reqs_json.specs.declared.format.Format.TheVariants.{Text, Json}
use Rattle.reqs_json.specs.Lines.{array_of, number_of, line_of}
use Rattle.reqs_io_faults.specs.declared.fault.Input.TheVariants.{First}
use Rattle.reqs_io_faults.specs.declared.fault.RunFault.{RunFault}
use Rattle.reqs_io_faults.specs.declared.fault.RunFault.TheVariants as run
use Rattle.reqs_io_faults.specs.declared.fault.Status.{Status}
use Rattle.reqs_io_faults.specs.declared.fault.Status.TheVariants as status
use Rattle.reqs_io_faults.specs.Ends.{Runs, status_of_answer}
use Rattle.reqs_io_faults.specs.declared.bounds.Bounds.{Bounds}
use Rattle.reqs_io_faults.specs.declared.bounds.Excess.TheVariants as excess
use Rattle.reqs_io_faults.specs.Within.{RefusesOr, Outgrows}
use Rattle.reqs_lists.specs.Lists.{IsOfLists, one_list, IsRead, RefusesLists, PassesInFirst}

-- ---- the text

-- what follows the lines of a conflict, if some specifier of them names a pre-release
abbrev pub prerelease_text : Bool → List ℕ
prerelease_text true = codes " pre"
prerelease_text false = []

-- the package of a conflict, and the numbers of its lines with commas between them
abbrev pub conflict_text : ConflictRecord → List ℕ
conflict_text found =
    found.name ++ (codes " " ++ (join_with_byte 44 (map decimal found.numbers)
    ++ (prerelease_text found.prerelease ++ codes "\n")))

abbrev pub conflicts_text : List ConflictRecord → List ℕ
conflicts_text found = flat_map conflict_text found

-- a conflict as an object
abbrev pub conflict_value : ConflictRecord → Data
conflict_value found = object (
    member (codes "lines") (array_of number_of found.numbers) (
    member (codes "package") (string found.name) (
    member (codes "prerelease") (boolean found.prerelease) no_members)))

abbrev pub conflicts_value : List ConflictRecord → Data
conflicts_value found = object (member (codes "conflicts") (array_of conflict_value found) no_members)

-- the conflicts in a format
abbrev pub conflicts_in : Format → List ConflictRecord → List ℕ
conflicts_in Text found = conflicts_text found
conflicts_in Json found = line_of (conflicts_value found)

-- ---- the result for lines

-- the text of all conflicts, if no package has more cases than the limit
abbrev pub IsConflictsAnswer : Format → ℕ → List LineRecord → Status → List ℕ → Type 0
IsConflictsAnswer format limit lines ended text =
    (ended ≡ status.Answered)
    × ((found : List ConflictRecord) × FindsConflicts (λ all. all) limit lines (Ok found)
    × (text ≡ conflicts_in format found))

-- the fault names the first package that has more cases than the limit
abbrev pub HasTooManyCases : ℕ → List LineRecord → RunFault → Type 0
HasTooManyCases limit lines fault =
    (name : List ℕ) × (fault ≡ run.TooManyCases First limit name) × IsFirstTooMany limit lines name

-- ---- the command

abbrev pub ConflictsAnswerAs : Format → ℕ → Variables → List (List ℕ) → Status → List ℕ → Type 0
ConflictsAnswerAs format limit vars inputs ended text =
    IsRead (one_list vars inputs) (λ lines. IsConflictsAnswer format limit lines ended text)

abbrev pub ConflictsRefuse : ℕ → Variables → List (List ℕ) → RunFault → Type 0
ConflictsRefuse limit vars inputs fault =
    RefusesLists (IsOfLists vars inputs) (HasTooManyCases limit) (one_list vars inputs) fault

-- `conflicts` ends with this result, for the bytes that its reader has of the requirements
abbrev pub RunsConflicts : {W : Type 0} → Format → ℕ → Variables → Option (List ℕ)
    → (W → Option (List ℕ)) → W → W → Result Status RunFault → Type 0
RunsConflicts format limit vars requirements contents old new result =
    Runs (ConflictsAnswerAs format limit vars) (ConflictsRefuse limit vars)
    (requirements ∷ []) contents old new result

-- ---- with bounds

-- the text of all conflicts that are found with a bound on the cases of all packages together
abbrev pub IsFewConflicts : Format → ℕ → ℕ → List LineRecord → Status → List ℕ → Type 0
IsFewConflicts format limit most lines ended text =
    (ended ≡ status.Answered)
    × ((found : List ConflictRecord) × FindsWithin (λ all. all) limit most lines (Ok found)
    × (text ≡ conflicts_in format found))

-- the fault names the first package that has more cases than the limit, found with that bound
abbrev pub HasTooManyWithin : ℕ → ℕ → List LineRecord → RunFault → Type 0
HasTooManyWithin limit most lines fault =
    (name : List ℕ) × (fault ≡ run.TooManyCases First limit name)
    × FindsWithin (λ (all : List ConflictRecord). all) limit most lines (Err (TooManyCases name))

-- all packages together have more cases than there may be, which the fault says
abbrev pub HasMoreCases : ℕ → ℕ → List LineRecord → RunFault → Type 0
HasMoreCases limit most lines fault =
    (fault ≡ run.TooMany (excess.Cases First most)) × HasTooManyInAll limit most lines

-- a bound was passed once lines were parsed: on the nodes, or else on the cases of all packages
abbrev pub OutgrowsOrCases : Bounds → List NodeRecord → ℕ → List LineRecord → RunFault → Type 0
OutgrowsOrCases bounds nodes limit lines fault =
    Outgrows bounds.nodes nodes fault
    ⊎ ((length nodes ≤ bounds.nodes) × HasMoreCases limit bounds.cases lines fault)

-- the conflicts of lines, or why they are refused
abbrev pub FindsOrRefuses : ℕ → ℕ → List LineRecord → Result (Vec Conflict Global) RunFault → Type 0
FindsOrRefuses limit most lines (Ok found) =
    FindsWithin (λ all. all) limit most lines (Ok (map conflict_record found.items))
FindsOrRefuses limit most lines (Err fault) = (fault ≡ run.Memory) ⊎ HasTooManyWithin limit most lines fault

-- the answer for the texts of lists, with at most `bounds.nodes` nodes
abbrev pub ConflictsAnswerWithin : Bounds → List NodeRecord → Format → ℕ → Variables → List (List ℕ) → Status
    → List ℕ → Type 0
ConflictsAnswerWithin bounds nodes format limit vars inputs ended text =
    IsRead (one_list vars inputs) (λ lines. IsFewConflicts format limit bounds.cases lines ended text)
    × (length nodes ≤ bounds.nodes)

abbrev pub ConflictsRefuseWithin : Bounds → ℕ → Variables → List (List ℕ) → RunFault → Type 0
ConflictsRefuseWithin bounds limit vars inputs fault =
    RefusesLists (IsOfLists vars inputs) (HasTooManyWithin limit bounds.cases) (one_list vars inputs) fault

-- a bound was passed: at a line, or once lines were parsed
abbrev pub ConflictsPass : Bounds → List NodeRecord → ℕ → Variables → List (List ℕ) → RunFault → Type 0
ConflictsPass bounds nodes limit vars inputs fault =
    PassesInFirst vars bounds.nodes nodes inputs fault
    ⊎ IsRead (one_list vars inputs) (λ lines. OutgrowsOrCases bounds nodes limit lines fault)

-- `conflicts` ends with this result where the bounds are these, with these nodes afterwards
abbrev pub RunsConflictsWithin : {W : Type 0} → Bounds → List NodeRecord → Format → ℕ → Variables
    → Option (List ℕ) → (W → Option (List ℕ)) → W → W → Result Status RunFault → Type 0
RunsConflictsWithin bounds nodes format limit vars requirements contents old new result =
    Runs (ConflictsAnswerWithin bounds nodes format limit vars)
    (RefusesOr (ConflictsPass bounds nodes limit vars) (ConflictsRefuseWithin bounds limit vars))
    (requirements ∷ []) contents old new result

-- ---- strictly

-- the status after these conflicts: that of a strict command says whether there are any
abbrev pub conflicts_status : Bool → List ConflictRecord → Status
conflicts_status strict [] = status.Answered
conflicts_status strict (first ∷ others) = status_of_answer strict

-- the text of all conflicts, and the status after them
abbrev pub IsConflictsBy : Bool → Format → ℕ → ℕ → List LineRecord → Status → List ℕ → Type 0
IsConflictsBy strict format limit most lines ended text =
    (found : List ConflictRecord) × (ended ≡ conflicts_status strict found)
    × FindsWithin (λ all. all) limit most lines (Ok found) × (text ≡ conflicts_in format found)

-- the answer for the texts of lists, with at most `bounds.nodes` nodes
abbrev pub ConflictsAnswerBy : Bool → Bounds → List NodeRecord → Format → ℕ → Variables → List (List ℕ)
    → Status → List ℕ → Type 0
ConflictsAnswerBy strict bounds nodes format limit vars inputs ended text =
    IsRead (one_list vars inputs) (λ lines. IsConflictsBy strict format limit bounds.cases lines ended text)
    × (length nodes ≤ bounds.nodes)

-- `conflicts`, strict or not, ends with this result where the bounds are these, with these nodes afterwards
abbrev pub RunsConflictsBy : {W : Type 0} → Bool → Bounds → List NodeRecord → Format → ℕ → Variables
    → Option (List ℕ) → (W → Option (List ℕ)) → W → W → Result Status RunFault → Type 0
RunsConflictsBy strict bounds nodes format limit vars requirements contents old new result =
    Runs (ConflictsAnswerBy strict bounds nodes format limit vars)
    (RefusesOr (ConflictsPass bounds nodes limit vars) (ConflictsRefuseWithin bounds limit vars))
    (requirements ∷ []) contents old new result
