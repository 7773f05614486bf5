-- The command `covers`, from the bytes of two lists to those of its answer.
use Rattle.std.specs.Prelude.{◌≡◌, ◌⊎◌, ℕ, true, false, List, ◌∷◌, [], ◌++◌, map, codes, Option, Some, Result}
use Rattle.std.specs.Prelude.{◌≤◌, ◌<◌, length, Ok, Err, String, string_bytes}
use Rattle.std.specs.List.{join_with_byte}
use Rattle.std.specs.Fmt.{decimal}
use Rattle.std.specs.Global.{Global}
use Rattle.serde_json.specs.Data.{Data, boolean, string, object, no_members, member}
use Rattle.pep508_url.specs.Vars.{Variables}
use Rattle.pep508_diagram.specs.Diagram.{Diagram}
use Rattle.pep508_diagram.specs.Question.{Question, Valuation, truth, IsCanonical}
use Rattle.pep508_diagram.specs.Shortened.{HasShortVersions}
use Rattle.pep508_tree.specs.Tree.{Tree}
use Rattle.pep508_tree.specs.Meaning.{NodeRecord, holds}
use Rattle.pep508_marker_display.specs.Counted.{clause_count}
use Rattle.pep508_marker_text_laws.specs.MarkerText.{marker_text}
use Rattle.reqtable_compare.specs.Compared.{MayCompare}
use Rattle.reqtable_covers.specs.declared.answer.Covers.{Covers}
use Rattle.reqtable_covers.specs.Covering.{CoversLines, IsFirstUncovered, FindsCovered}
use Rattle.reqs_json.specs.declared.format.Format.{Format}
use Rattle.reqs_json.specs.declared.format.Format.TheVariants.{Text, Json}
use Rattle.reqs_json.specs.Lines.{array_of, number_of, value_or_null, line_of}
use Rattle.reqs_io_faults.specs.declared.fault.RunFault.{RunFault}
use Rattle.reqs_io_faults.specs.declared.fault.RunFault.TheVariants as run
use Rattle.reqs_io_faults.specs.declared.fault.Status.{Status}
use Rattle.reqs_io_faults.specs.declared.fault.Status.TheVariants as status
use Rattle.reqs_io_faults.specs.Ends.{Runs}
use Rattle.reqs_io_faults.specs.declared.bounds.Bounds.{Bounds}
use Rattle.reqs_io_faults.specs.declared.bounds.Excess.TheVariants as excess
use Rattle.reqs_io_faults.specs.Within.{RefusesOr}
use Rattle.reqs_lists.specs.Lists.{two_lists, IsRead, PassesInEither}
use Rattle.reqs_lists.specs.Comparison.{Lists, difference_text, SameRefuses, SameRefusesWithin}
use Rattle.reqs_lists.specs.Comparison.{CantBeWithin, OutgrowsOrCases}

-- ---- the text

-- the numbers of lines with commas between them
abbrev pub numbers_text : List ℕ → List ℕ
numbers_text numbers = join_with_byte 44 (map decimal numbers)

-- the package that isn't covered and where, as a difference is written, and the lines by which it isn't
abbrev pub uncovered_text : List ℕ → Diagram Question → List ℕ → List ℕ
uncovered_text name diagram numbers = difference_text name diagram ++ (numbers_text numbers ++ codes "\n")

-- the answers as objects; null is the marker of a place that is everywhere
abbrev pub covers_value : Data
covers_value = object (member (codes "covers") (boolean true) no_members)

abbrev pub uncovered_value : List ℕ → Diagram Question → List ℕ → Data
uncovered_value name diagram numbers = object (
    member (codes "covers") (boolean false) (
    member (codes "lines") (array_of number_of numbers) (
    member (codes "marker") (value_or_null string (marker_text diagram)) (
    member (codes "package") (string name) no_members))))

-- the answers in a format
abbrev pub covers_in : Format → List ℕ
covers_in Text = codes "yes\n"
covers_in Json = line_of covers_value

abbrev pub uncovered_in : Format → List ℕ → Diagram Question → List ℕ → List ℕ
uncovered_in Text name diagram numbers = uncovered_text name diagram numbers
uncovered_in Json name diagram numbers = line_of (uncovered_value name diagram numbers)

-- ---- the result for lists, a lock and what it has to cover

-- the first package that isn't covered, and the one diagram that has no needless question, has each version
-- in its shortest spelling, and holds exactly where the first two cases hold together of which the lock's
-- doesn't cover the other; and the numbers of the other list's lines that apply there
pub record IsToldUncovered (lists : Lists) (name : List ℕ) (diagram : Diagram Question) (numbers : List ℕ)
    : Type 0 where
  pub nodes : List NodeRecord
  pub tree : Tree
  pub uncovered : IsFirstUncovered lists.0 lists.1 nodes name tree numbers
  pub canonical : IsCanonical diagram
  pub short : HasShortVersions diagram
  pub means : (v : Valuation) → truth diagram v ≡ holds nodes tree v

-- both lists can be compared, and the first covers the second, or this is the first place where it doesn't
abbrev pub IsCoversAnswer : Format → ℕ → Lists → Status → List ℕ → Type 0
IsCoversAnswer format limit lists ended text =
    MayCompare limit lists.0 lists.1
    × (((ended ≡ status.Answered) × (text ≡ covers_in format) × CoversLines lists.0 lists.1)
    ⊎ ((ended ≡ status.Different) × ((name : List ℕ) × (diagram : Diagram Question) × (numbers : List ℕ)
    × IsToldUncovered lists name diagram numbers × (text ≡ uncovered_in format name diagram numbers))))

-- ---- the command

abbrev pub CoversAnswersAs : Format → ℕ → Variables → List (List ℕ) → Status → List ℕ → Type 0
CoversAnswersAs format limit vars inputs ended text =
    IsRead (two_lists vars inputs) (λ lists. IsCoversAnswer format limit lists ended text)

-- `covers` ends with this result, for the bytes that its readers have of the lock and of the requirements;
-- it refuses what `same` refuses
abbrev pub RunsCovers : {W : Type 0} → Format → ℕ → Variables → Option (List ℕ) → Option (List ℕ)
    → (W → Option (List ℕ)) → W → W → Result Status RunFault → Type 0
RunsCovers format limit vars lock requirements contents old new result =
    Runs (CoversAnswersAs format limit vars) (SameRefuses limit vars)
    (lock ∷ requirements ∷ []) contents old new result

-- ---- with bounds

-- what is found of parsed lists, or why they can't be compared
abbrev pub CoversOrRefuses : ℕ → ℕ → List NodeRecord → Lists → Result Covers RunFault → Type 0
CoversOrRefuses limit most nodes lists (Ok covers) =
    FindsCovered limit (Some most) nodes lists.0 lists.1 (Ok covers)
CoversOrRefuses limit most nodes lists (Err fault) =
    (fault ≡ run.Memory) ⊎ CantBeWithin limit most lists fault

-- the marker of the first place that isn't covered, if there is one, has at most `most` clauses
abbrev pub HasFewUncovered : ℕ → Lists → Type 0
HasFewUncovered most lists =
    (name : List ℕ) (diagram : Diagram Question) (numbers : List ℕ) →
    IsToldUncovered lists name diagram numbers → clause_count diagram ≤ most

-- the answer on such lists
abbrev pub IsFewCovers : Format → ℕ → ℕ → Lists → Status → List ℕ → Type 0
IsFewCovers format limit most lists ended text =
    IsCoversAnswer format limit lists ended text × HasFewUncovered most lists

-- the fault names the first package that isn't covered, where the marker of the place has more clauses
abbrev pub HasLongUncovered : ℕ → ℕ → Lists → RunFault → Type 0
HasLongUncovered limit most lists fault =
    MayCompare limit lists.0 lists.1 × ((name : List ℕ) × (diagram : Diagram Question) × (numbers : List ℕ)
    × (fault ≡ run.TooMany (excess.ClausesFor name most)) × IsToldUncovered lists name diagram numbers
    × (most < clause_count diagram))

-- the text of a place that isn't covered in a format, if its diagram has at most `most` clauses
abbrev pub TellsUncovered : Format → ℕ → List ℕ → Diagram Question → List ℕ
    → Result (String Global) RunFault → Type 0
TellsUncovered format most name diagram numbers (Ok text) =
    (string_bytes text ≡ uncovered_in format name diagram numbers) × (clause_count diagram ≤ most)
TellsUncovered format most name diagram numbers (Err fault) =
    (fault ≡ run.Memory)
    ⊎ ((fault ≡ run.TooMany (excess.ClausesFor name most)) × (most < clause_count diagram))

-- a bound was passed once lists were parsed: while they were compared, or else on the clauses of the first
-- place that isn't covered
abbrev pub OutgrowsOrUncovered : Bounds → List NodeRecord → ℕ → Lists → RunFault → Type 0
OutgrowsOrUncovered bounds nodes limit lists fault =
    OutgrowsOrCases bounds nodes limit lists fault
    ⊎ ((length nodes ≤ bounds.nodes) × HasLongUncovered limit bounds.clauses lists fault)

-- the answer for the texts of lists, with at most `bounds.nodes` nodes
abbrev pub CoversAnswersWithin : Bounds → List NodeRecord → Format → ℕ → Variables → List (List ℕ) → Status
    → List ℕ → Type 0
CoversAnswersWithin bounds nodes format limit vars inputs ended text =
    IsRead (two_lists vars inputs) (λ lists. IsFewCovers format limit bounds.clauses lists ended text)
    × (length nodes ≤ bounds.nodes)

-- a bound was passed: at a line, or once lists were parsed
abbrev pub CoversPasses : Bounds → List NodeRecord → ℕ → Variables → List (List ℕ) → RunFault → Type 0
CoversPasses bounds nodes limit vars inputs fault =
    PassesInEither vars bounds.nodes nodes inputs fault
    ⊎ IsRead (two_lists vars inputs) (λ lists. OutgrowsOrUncovered bounds nodes limit lists fault)

-- `covers` ends with this result where the bounds are these, with these nodes afterwards
abbrev pub RunsCoversWithin : {W : Type 0} → Bounds → List NodeRecord → Format → ℕ → Variables
    → Option (List ℕ) → Option (List ℕ) → (W → Option (List ℕ)) → W → W → Result Status RunFault → Type 0
RunsCoversWithin bounds nodes format limit vars lock requirements contents old new result =
    Runs (CoversAnswersWithin bounds nodes format limit vars)
    (RefusesOr (CoversPasses bounds nodes limit vars) (SameRefusesWithin bounds limit vars))
    (lock ∷ requirements ∷ []) contents old new result
