-- The command `matrix`, from the bytes of its inputs to the bytes of its answers.
use Rattle.std.specs.Prelude.{◌≡◌, ◌≤◌, ◌⊎◌, ℕ, Bool, true, false, suc, List, [], ◌∷◌, ◌++◌, length, codes}
use Rattle.std.specs.Prelude.{Option, Result, Ok, Err}
use Rattle.std.specs.List.{list_any, AllZip}
use Rattle.std.specs.Fmt.{decimal}
use Rattle.pep508_url.specs.Vars.{Variables}
use Rattle.pep508_tree.specs.Meaning.{NodeRecord}
use Rattle.pep508_environment.specs.Environment.{EnvironmentRecord}
use Rattle.pep508_evaluation.specs.Valuations.{valuation_of}
use Rattle.reqtable_candidates.specs.declared.candidates.Candidate.{Candidate}
use Rattle.reqtable_answer.specs.Answer.{Admits, RowRecord, IsAnswer, IsAnswerText}
use Rattle.reqs_json.specs.declared.format.Format.{Format}
use Rattle.reqs_json.specs.declared.format.Format.TheVariants.{Text, Json}
use Rattle.reqs_json.specs.Lines.{line_of}
use Rattle.reqs_json.specs.Rows.{answers_value}
use Rattle.reqtable_requirements.specs.Asks.{asks_of}
use Rattle.reqtable_requirements.specs.LineReading.{LineRecord}
use Rattle.reqtable_requirements.specs.Requirements.{StandsFor}
use Rattle.reqtable_requirements.specs.declared.requirements.Line.{Line}
use Rattle.reqtable_cases.specs.Lines.{HasTooMany, IsFirstTooMany}
use Rattle.reqtable_table.specs.Cases.{BuildsWithin}
use Rattle.reqtable_table.specs.InAll.{HasMoreInAll, HasTooManyInAll}
use Rattle.reqtable_table.specs.Kept.{KeptPackage}
use Rattle.reqtable_table.specs.declared.table.TableError.{TableError}
use Rattle.reqtable_table.specs.declared.table.TableError.TheVariants as table
use Rattle.reqs_io_faults.specs.declared.fault.Input.TheVariants.{First, Second, Third}
use Rattle.reqs_io_faults.specs.declared.fault.RunFault.{RunFault}
use Rattle.reqs_io_faults.specs.declared.fault.RunFault.TheVariants.{TooManyCases, TooMany, Memory, Write}
use Rattle.reqs_io_faults.specs.declared.fault.Status.{Status}
use Rattle.reqs_io_faults.specs.declared.fault.Status.TheVariants.{Answered}
use Rattle.reqs_io_faults.specs.Faults.{Cause, IsOfTexts, Refuses}
use Rattle.reqs_io_faults.specs.Inputs.{environments_from}
use Rattle.reqs_io_faults.specs.Ends.{of_input, status_of_answer, Runs}
use Rattle.reqs_io_faults.specs.Within.{PassesAt, Outgrows, RefusesOr}
use Rattle.reqs_io_faults.specs.declared.bounds.Bounds.{Bounds}
use Rattle.reqs_io_faults.specs.declared.bounds.Excess.TheVariants as excess
use Rattle.reqs_io.specs.Front.{WritesWhole, AppendsFront}
use Rattle.reqs_answers.specs.declared.environments.Judged.{Judged}
use Rattle.reqs_answers.specs.Check.{on_request}
use Rattle.reqs_answers.specs.Strict.{has_none}
use Rattle.reqs_answers.specs.Texts.{ReadTexts, texts_of}

-- ---- the text

-- the line before the answer for an environment
abbrev pub environment_line : ℕ → List ℕ
environment_line number = codes "env " ++ decimal number ++ codes "\n"

-- for each environment, numbered from this number on, its line and then the text of the answer
abbrev pub IsMatrixText : Admits → List (List ℕ) → List LineRecord → List Candidate → ℕ
    → List EnvironmentRecord → List ℕ → Type 0
IsMatrixText admits extras lines candidates number [] text = text ≡ []
IsMatrixText admits extras lines candidates number (environment ∷ environments) text =
    (answer : List ℕ) × (rest : List ℕ)
    × IsAnswerText admits (asks_of (valuation_of environment extras) lines) candidates answer
    × IsMatrixText admits extras lines candidates (suc number) environments rest
    × (text ≡ environment_line number ++ answer ++ rest)

-- the rows that are the answer in each environment
abbrev pub AreAnswers : Admits → List (List ℕ) → List LineRecord → List Candidate → List EnvironmentRecord
    → List (List RowRecord) → Type 0
AreAnswers admits extras lines candidates environments answers =
    AllZip
    (λ environment rows. IsAnswer admits (asks_of (valuation_of environment extras) lines) candidates rows)
    environments answers

-- the text of all answers in a format: lines, or the line of the object that has the rows of each
abbrev pub IsMatrixIn : Format → Admits → List (List ℕ) → List LineRecord → List Candidate
    → List EnvironmentRecord → List ℕ → Type 0
IsMatrixIn Text admits extras lines candidates environments text =
    IsMatrixText admits extras lines candidates 1 environments text
IsMatrixIn Json admits extras lines candidates environments text =
    (answers : List (List RowRecord)) × AreAnswers admits extras lines candidates environments answers
    × (text ≡ line_of (answers_value candidates answers))

-- the status after the answers: that of a strict command says whether one of their rows is `none`
abbrev pub HasStatus : Bool → List (List ℕ) → List LineRecord → List Candidate → List EnvironmentRecord
    → Status → Type 0
HasStatus true extras lines candidates environments status =
    (answers : List (List RowRecord)) × AreAnswers on_request extras lines candidates environments answers
    × (status ≡ status_of_answer (list_any has_none answers))
HasStatus false extras lines candidates environments status = status ≡ Answered

-- texts one after another, each after the line of its environment
abbrev pub numbered : ℕ → List (List ℕ) → List ℕ
numbered number [] = []
numbered number (answer ∷ answers) = environment_line number ++ answer ++ numbered (suc number) answers

-- ---- the result for texts

abbrev pub MatrixTexts : Type 0
MatrixTexts = Result (ReadTexts (List EnvironmentRecord)) Cause

-- no package has more cases than the limit, and the text has the answers for all environments
pub record IsWithinLimit (format : Format) (limit : ℕ) (read : ReadTexts (List EnvironmentRecord))
    (text : List ℕ) : Type 0 where
  pub few : (name : List ℕ) → HasTooMany limit read.lines name → ⊥
  pub is_text : IsMatrixIn format on_request read.extras read.lines read.candidates read.second text

-- the fault names the first package that has more cases than the limit
abbrev pub IsOverLimit : ℕ → List LineRecord → RunFault → Type 0
IsOverLimit limit lines fault =
    (name : List ℕ) × (fault ≡ TooManyCases First limit name) × IsFirstTooMany limit lines name

-- texts are parsed to values with this property
abbrev pub IsRead : MatrixTexts → (ReadTexts (List EnvironmentRecord) → Type 0) → Type 0
IsRead texts Holds = (read : ReadTexts (List EnvironmentRecord)) × (texts ≡ Ok read) × Holds read

-- lines represent those of some text
abbrev pub AreRead : List NodeRecord → List Line → Type 0
AreRead nodes lines = (vars : Variables) × (said : List LineRecord) × AllZip (StandsFor vars nodes) lines said

abbrev pub matrix_texts : Variables → List (List ℕ) → List (List ℕ) → MatrixTexts
matrix_texts vars extras inputs =
    texts_of (environments_from Second) vars extras
    (of_input inputs First) (of_input inputs Second) (of_input inputs Third)

-- the text was written, and the command ends with this status; or a prefix of it was written; or nothing,
-- since memory ran out
abbrev pub WritesText : {W : Type 0} → (W → Option (List ℕ)) → W → W → List ℕ → Status
    → Result Status RunFault → Type 0
WritesText contents old new text status (Ok ended) = (ended ≡ status) × WritesWhole contents old new text
WritesText contents old new text status (Err fault) =
    ((fault ≡ Write) × AppendsFront (contents old) (contents new) text) ⊎ ((fault ≡ Memory) × (new ≡ old))

-- ---- the command

abbrev pub MatrixAnswersAs : Format → ℕ → Variables → List (List ℕ) → List (List ℕ) → Status → List ℕ
    → Type 0
MatrixAnswersAs format limit vars extras inputs status text =
    (status ≡ Answered)
    × IsRead (matrix_texts vars extras inputs) (λ read. IsWithinLimit format limit read text)

abbrev pub MatrixRefuses : ℕ → Variables → List (List ℕ) → List (List ℕ) → RunFault → Type 0
MatrixRefuses limit vars extras inputs fault =
    Refuses (IsOfTexts vars First (of_input inputs First)) fault (matrix_texts vars extras inputs)
    ⊎ IsRead (matrix_texts vars extras inputs) (λ read. IsOverLimit limit read.lines fault)

-- `matrix` ends with this result, for the bytes that its readers have of the requirements, the environments
-- and the candidates
abbrev pub RunsMatrix : {W : Type 0} → Format → ℕ → Variables → List (List ℕ) → Option (List ℕ)
    → Option (List ℕ) → Option (List ℕ) → (W → Option (List ℕ)) → W → W → Result Status RunFault → Type 0
RunsMatrix format limit vars extras requirements environments candidates contents old new result =
    Runs (MatrixAnswersAs format limit vars extras) (MatrixRefuses limit vars extras)
    (requirements ∷ environments ∷ candidates ∷ []) contents old new result

-- ---- with bounds

-- all packages together have at most `in_all` cases
abbrev pub AreFewInAll : ℕ → ℕ → List LineRecord → Type 0
AreFewInAll limit in_all lines = (last : List ℕ) → HasMoreInAll limit in_all lines last → ⊥

-- the fault names the first package that has more cases than the limit, and with no more than the limit of
-- its cases the packages up to it have at most `in_all`
abbrev pub IsOverLimitWithin : ℕ → ℕ → List LineRecord → RunFault → Type 0
IsOverLimitWithin limit in_all lines fault =
    (name : List ℕ) × (fault ≡ TooManyCases First limit name) × IsFirstTooMany limit lines name
    × (HasMoreInAll limit in_all lines name → ⊥)

-- the fault names the bound on all cases, and up to some package there are more, while none before it has
-- more than the limit
abbrev pub IsOverInAll : ℕ → ℕ → List LineRecord → RunFault → Type 0
IsOverInAll limit in_all lines fault =
    (fault ≡ TooMany (excess.Cases First in_all)) × HasTooManyInAll limit in_all lines

-- a bound was passed once lines were parsed: on the nodes, or else on all cases
abbrev pub OutgrowsOrOver : Bounds → List NodeRecord → ℕ → List LineRecord → RunFault → Type 0
OutgrowsOrOver bounds nodes limit lines fault =
    Outgrows bounds.nodes nodes fault
    ⊎ ((length nodes ≤ bounds.nodes) × IsOverInAll limit bounds.cases lines fault)

-- the fault where no table is built
abbrev pub unbuilt : ℕ → ℕ → TableError → RunFault
unbuilt limit in_all (table.TooManyCases name) = TooManyCases First limit name
unbuilt limit in_all table.TooManyCasesInAll = TooMany (excess.Cases First in_all)
unbuilt limit in_all table.Memory = Memory

-- a table of lines is built, with these nodes, or refused for a package that has too many cases
abbrev pub TablesWithin : ℕ → ℕ → List NodeRecord → List LineRecord → Result (List KeptPackage) RunFault
    → Type 0
TablesWithin limit in_all nodes lines (Ok table) = BuildsWithin limit in_all nodes lines (Ok table)
TablesWithin limit in_all nodes lines (Err fault) =
    (fault ≡ Memory) ⊎ IsOverLimitWithin limit in_all lines fault

-- what is answered from few cases: the text has the answers, and the status is the one after them
abbrev pub IsMatrixAnswer : Bool → Format → ℕ → ℕ → MatrixTexts → Status → List ℕ → Type 0
IsMatrixAnswer strict format limit in_all texts status text =
    IsRead texts (λ read. IsWithinLimit format limit read text × AreFewInAll limit in_all read.lines
    × HasStatus strict read.extras read.lines read.candidates read.second status)

-- a status and a text are those of the answers; or the texts are refused for this fault, or, once all are
-- parsed, for a package that has too many cases
abbrev pub AnswersAll : (RunFault → Type 0) → Bool → Format → ℕ → ℕ → Result Judged RunFault → MatrixTexts
    → Type 0
AnswersAll IsOne strict format limit in_all (Ok judged) texts =
    IsMatrixAnswer strict format limit in_all texts judged.status judged.text.whole
AnswersAll IsOne strict format limit in_all (Err fault) texts =
    Refuses IsOne fault texts ⊎ IsRead texts (λ read. IsOverLimitWithin limit in_all read.lines fault)

-- a bound was passed: on the nodes at a line of the requirements, or else one once all texts were parsed
abbrev pub PassesIn : Bounds → List NodeRecord → ℕ → Variables → List ℕ → MatrixTexts → RunFault → Type 0
PassesIn bounds nodes limit vars requirements texts fault =
    PassesAt vars First bounds.nodes nodes requirements fault
    ⊎ IsRead texts (λ read. OutgrowsOrOver bounds nodes limit read.lines fault)

abbrev pub MatrixAnswersWithin : Bounds → List NodeRecord → Format → ℕ → Variables → List (List ℕ)
    → List (List ℕ) → Status → List ℕ → Type 0
MatrixAnswersWithin bounds nodes format limit vars extras inputs status text =
    (status ≡ Answered)
    × IsRead (matrix_texts vars extras inputs)
    (λ read. IsWithinLimit format limit read text × AreFewInAll limit bounds.cases read.lines)
    × (length nodes ≤ bounds.nodes)

abbrev pub MatrixRefusesWithin : Bounds → ℕ → Variables → List (List ℕ) → List (List ℕ) → RunFault → Type 0
MatrixRefusesWithin bounds limit vars extras inputs fault =
    Refuses (IsOfTexts vars First (of_input inputs First)) fault (matrix_texts vars extras inputs)
    ⊎ IsRead (matrix_texts vars extras inputs)
    (λ read. IsOverLimitWithin limit bounds.cases read.lines fault)

abbrev pub MatrixPasses : Bounds → List NodeRecord → ℕ → Variables → List (List ℕ) → List (List ℕ) → RunFault
    → Type 0
MatrixPasses bounds nodes limit vars extras inputs =
    PassesIn bounds nodes limit vars (of_input inputs First) (matrix_texts vars extras inputs)

-- `matrix` ends with this result where the bounds are these, with these nodes afterwards
abbrev pub RunsMatrixWithin : {W : Type 0} → Bounds → List NodeRecord → Format → ℕ → Variables
    → List (List ℕ) → Option (List ℕ) → Option (List ℕ) → Option (List ℕ) → (W → Option (List ℕ)) → W → W
    → Result Status RunFault → Type 0
RunsMatrixWithin bounds nodes format limit vars extras requirements environments candidates contents old new
    result =
    Runs (MatrixAnswersWithin bounds nodes format limit vars extras)
    (RefusesOr (MatrixPasses bounds nodes limit vars extras) (MatrixRefusesWithin bounds limit vars extras))
    (requirements ∷ environments ∷ candidates ∷ []) contents old new result

-- ---- strictly

abbrev pub MatrixAnswersBy : Bool → Bounds → List NodeRecord → Format → ℕ → Variables → List (List ℕ)
    → List (List ℕ) → Status → List ℕ → Type 0
MatrixAnswersBy strict bounds nodes format limit vars extras inputs status text =
    IsMatrixAnswer strict format limit bounds.cases (matrix_texts vars extras inputs) status text
    × (length nodes ≤ bounds.nodes)

-- `matrix`, strict or not, ends with this result where the bounds are these, with these nodes afterwards
abbrev pub RunsMatrixBy : {W : Type 0} → Bool → Bounds → List NodeRecord → Format → ℕ → Variables
    → List (List ℕ) → Option (List ℕ) → Option (List ℕ) → Option (List ℕ) → (W → Option (List ℕ)) → W → W
    → Result Status RunFault → Type 0
RunsMatrixBy strict bounds nodes format limit vars extras requirements environments candidates contents old
    new result =
    Runs (MatrixAnswersBy strict bounds nodes format limit vars extras)
    (RefusesOr (MatrixPasses bounds nodes limit vars extras) (MatrixRefusesWithin bounds limit vars extras))
    (requirements ∷ environments ∷ candidates ∷ []) contents old new result
