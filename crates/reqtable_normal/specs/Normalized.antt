-- The normal text of requirement lines, and which lines have none.
use Rattle.std.specs.Prelude.{◌≡◌, ℕ, Bool, false, not, List, ◌∷◌, ◌++◌, codes, filter, Option, Some, None}
use Rattle.std.specs.Prelude.{Result, Ok, Err, String, if◌then◌else◌}
use Rattle.std.specs.List.{AllByRecursion, AllZip, flat_map}
use Rattle.std.specs.String.{string_bytes}
use Rattle.pep508_marker.specs.Expression.{ExpressionRecord}
use Rattle.pep508_diagram.specs.Diagram.{Diagram, Leaf, Test}
use Rattle.pep508_diagram.specs.Question.{Question, Valuation, truth, IsCanonical}
use Rattle.pep508_diagram.specs.Shortened.{HasShortVersions}
use Rattle.pep508_expression.specs.Expressions.{expression_holds}
use Rattle.pep508_marker_parser.specs.Formula.{Formula, formula_holds}
use Rattle.pep508_marker_text_laws.specs.MarkerText.{marker_text}
use Rattle.pep508_questions.specs.Asks.{asks_any, has_quote, is_of_deprecated_key, is_other_bound}
use Rattle.pep508_requirement_text.specs.FrontReading.{Front}
use Rattle.pep508_requirement_ref.specs.RequirementPrint.{requirement_text}
use Rattle.reqtable_answer.specs.Asks.{has_url}
use Rattle.reqtable_answer.specs.Says.{Says}
use Rattle.reqtable_requirements.specs.LineReading.{LineRecord}
use Rattle.reqtable_normal.specs.declared.error.NormalCause.{NormalCause}
use Rattle.reqtable_normal.specs.declared.error.NormalCause.TheVariants as cause
use Rattle.reqtable_normal.specs.declared.error.NormalError.{NormalError}
use Rattle.reqtable_normal.specs.declared.error.NormalError.TheVariants.{Line, TooManyClauses, Memory}

-- ---- the record of a line

-- the diagram holds where the formula does, has no needless question, and has each version in its shortest
-- spelling: there is exactly one such diagram
pub record IsDiagramOf (formula : Formula ExpressionRecord) (diagram : Diagram Question) : Type 0 where
  pub canonical : IsCanonical diagram
  pub short : HasShortVersions diagram
  pub means : (v : Valuation) → truth diagram v ≡ formula_holds (λ e. expression_holds e v) formula

-- what a line requires, its specifiers in the order of versions, and the diagram of its marker
pub record NormalLine : Type 0 where
  pub front : Front
  pub diagram : Diagram Question

pub record IsNormalOf (line : LineRecord) (normal : NormalLine) : Type 0 where
  pub front : Says normal.front line.front
  pub diagram : IsDiagramOf line.formula normal.diagram

-- ---- which lines have no normal text

-- the first cause for which a marker has no normal text; one that always or never holds has no question
abbrev pub marker_fault : Diagram Question → Option NormalCause
marker_fault diagram =
    if asks_any has_quote diagram then Some cause.SingleQuote
    else (if asks_any is_of_deprecated_key diagram then Some cause.DeprecatedKey
    else (if asks_any is_other_bound diagram then Some cause.Bound else None))

-- the first cause for which a line has no normal text, in this order
abbrev pub normal_fault : NormalLine → Option NormalCause
normal_fault line = if has_url line.front then Some cause.Url else marker_fault line.diagram

-- the line has a normal text
pub record IsFaultless (line : LineRecord) : Type 0 where
  pub normal : NormalLine
  pub is_normal : IsNormalOf line normal
  pub no_fault : normal_fault normal ≡ None

-- the first line without a normal text has this number, and this is the cause
pub record IsFirstFault (said : List LineRecord) (number : ℕ) (cause : NormalCause) : Type 0 where
  pub front : List LineRecord
  pub line : LineRecord
  pub back : List LineRecord
  pub normal : NormalLine
  pub split : said ≡ front ++ line ∷ back
  pub before : AllByRecursion IsFaultless front
  pub numbered : number ≡ line.number
  pub is_normal : IsNormalOf line normal
  pub is_fault : normal_fault normal ≡ Some cause

-- ---- the text

abbrev pub never_holds : Diagram Question → Bool
never_holds (Leaf b) = not b
never_holds (Test q low high) = false

-- the lines whose markers can hold
abbrev pub kept : List NormalLine → List NormalLine
kept lines = filter (λ line. not (never_holds line.diagram)) lines

abbrev pub line_text : NormalLine → List ℕ
line_text line = requirement_text line.front (marker_text line.diagram) ++ codes "\n"

abbrev pub lines_text : List NormalLine → List ℕ
lines_text lines = flat_map line_text (kept lines)

-- a text is the normal one of lines, all of which have one
pub record IsNormalText (said : List LineRecord) (text : List ℕ) : Type 0 where
  pub lines : List NormalLine
  pub are_normal : AllZip IsNormalOf said lines
  pub faultless : AllByRecursion (λ line. normal_fault line ≡ None) lines
  pub is_text : text ≡ lines_text lines

-- the result for lines: their normal text, or the first that has none with the cause, or out of memory
abbrev pub Normalizes : {Y : Type 0} → List LineRecord → Result (String Y) NormalError → Type 0
Normalizes said (Ok text) = IsNormalText said (string_bytes text)
Normalizes said (Err (Line number fault)) = IsFirstFault said number fault
Normalizes said (Err (TooManyClauses number)) = ⊥
Normalizes said (Err Memory) = Unit {0}
