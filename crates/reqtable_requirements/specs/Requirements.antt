-- The results of reading a requirements text.
use Rattle.std.specs.Prelude.{◌≡◌, ℕ, List, ◌∷◌, ◌++◌, Option, Some, None, Result, Ok, Err}
use Rattle.std.specs.List.{AllZip}
use Rattle.read_outcome.specs.Outcome.{Answers, Tells}
use Rattle.pep508_url.specs.Vars.{Variables}
use Rattle.pep508_url.specs.UrlFaults.{told_url}
use Rattle.pep508_url.specs.UrlTexts.{Verbatim}
use Rattle.pep508_url.specs.Lacking.{lacks_memory}
use Rattle.pep508_url.specs.declared.url_error.VerbatimUrlError.{VerbatimUrlError}
use Rattle.pep508_tree.specs.Meaning.{NodeRecord}
use Rattle.pep508_error.specs.declared.error.Pep508Error.{Pep508Error}
use Rattle.pep508_error.specs.declared.error.Pep508ErrorSource.{Pep508ErrorSource}
use Rattle.pep508_error.specs.declared.error.Pep508ErrorSource.TheVariants as sources
use Rattle.pep508_formula.specs.Postfix.{formula_of}
use Rattle.pep508_marker_parser.specs.MarkerOutcome.{IsTreeOf}
use Rattle.pep508_requirement.specs.RequirementReading.{AsksFor, IsRefused}
use Rattle.reqtable_candidates.specs.TextLines.{text_lines, lines_of_text}
use Rattle.reqtable_requirements.specs.declared.marked.MarkedLine.{MarkedLine}
use Rattle.reqtable_requirements.specs.declared.requirements.Line.{Line}
use Rattle.reqtable_requirements.specs.declared.requirements.RequirementsError.{RequirementsError}
use Rattle.reqtable_requirements.specs.declared.requirements.RequirementsError.TheVariants as errors
use Rattle.reqtable_requirements.specs.LineReading.{LineRecord, LinesFault, NotText, NoRequirement}
use Rattle.reqtable_requirements.specs.LineReading.{NumberAtEnd, url_of, line_of}

-- the lines of a requirements text, or the offset of its first byte that is not UTF-8, or else its first
-- invalid line
abbrev pub requirements_of : Variables → List ℕ → Result (List LineRecord) LinesFault
requirements_of vars = lines_of_text (line_of vars) NotText

-- what may be returned for the text of a URL
abbrev pub ReadsUrl : Variables → List ℕ → Result Verbatim VerbatimUrlError → Type 0
ReadsUrl vars text outcome = Answers (λ url. url) told_url outcome (url_of vars text)

-- a parsed line represents a record: its marker is a tree of these nodes that holds where the formula does
pub record StandsFor (vars : Variables) (nodes : List NodeRecord) (line : Line) (said : LineRecord)
    : Type 0 where
  pub number : line.number ≡ said.number
  pub name : line.requirement.name ≡ said.front.name
  pub extras : line.requirement.extras.items ≡ said.front.extras
  pub asks : AsksFor (ReadsUrl vars) said.front.source line.requirement.version_or_url
  pub tree : IsTreeOf nodes line.requirement.marker said.formula

-- a parsed line represents a record: the formula of its marker is the record's
pub record SaysLine (vars : Variables) (line : MarkedLine) (said : LineRecord) : Type 0 where
  pub number : line.number ≡ said.number
  pub name : line.requirement.name ≡ said.front.name
  pub extras : line.requirement.extras.items ≡ said.front.extras
  pub asks : AsksFor (ReadsUrl vars) said.front.source line.requirement.version_or_url
  pub formula : formula_of line.requirement.formula ≡ said.formula

-- the fault of a text for an error; none for running out of memory, nor for a bound that was passed
abbrev pub told_requirements : RequirementsError → Option LinesFault
told_requirements (errors.NotText offset) = Some (NotText offset)
told_requirements (errors.Line number error) = Some (NoRequirement number)
told_requirements (errors.NumberAtEnd number) = Some (NumberAtEnd number)
told_requirements (errors.TooManyNodes number most) = None
told_requirements errors.Memory = None

-- the error of a line is that of reading its text; none passes a bound
abbrev pub IsErrorOf : Variables → ℕ → List ℕ → RequirementsError → Type 0
IsErrorOf vars number text (errors.Line named error) =
    (named ≡ number) × IsRefused (ReadsUrl vars) lacks_memory vars text error
IsErrorOf vars number text (errors.TooManyNodes named most) = ⊥
IsErrorOf vars number text error = Unit {0}

-- the result of reading one line
abbrev pub ReadsLine : Variables → ℕ → List ℕ → Result MarkedLine RequirementsError → Type 0
ReadsLine vars number text (Ok line) =
    (said : LineRecord) × (line_of vars number text ≡ Ok said) × SaysLine vars line said
ReadsLine vars number text (Err error) =
    Tells (told_requirements error) (line_of vars number text) × IsErrorOf vars number text error

-- the error is that of some line's text; none passes a bound
abbrev pub IsErrorIn : Variables → List (ℕ × List ℕ) → RequirementsError → Type 0
IsErrorIn vars texts (errors.Line number error) =
    (front : List (ℕ × List ℕ)) × (text : List ℕ) × (back : List (ℕ × List ℕ))
    × (texts ≡ front ++ (number, text) ∷ back) × IsRefused (ReadsUrl vars) lacks_memory vars text error
IsErrorIn vars texts (errors.TooManyNodes number most) = ⊥
IsErrorIn vars texts error = Unit {0}

-- the result of reading some lines, by how they are read: lines each of which represents its record
abbrev pub ReadsLines : {X L : Type 0} → (L → LineRecord → Type 0) → (X → List L) → Variables
    → List (ℕ × List ℕ) → Result (List LineRecord) LinesFault → Result X RequirementsError → Type 0
ReadsLines Stands view vars texts reading (Ok lines) =
    (said : List LineRecord) × (reading ≡ Ok said) × AllZip Stands (view lines) said
ReadsLines Stands view vars texts reading (Err error) =
    Tells (told_requirements error) reading × IsErrorIn vars texts error

-- the result of reading a requirements text, with these nodes afterwards: lines that represent those of the
-- text; or the first fault, in a line with the error of its text; or out of memory
abbrev pub ReadsRequirements : Variables → List NodeRecord → List ℕ → Result (List Line) RequirementsError
    → Type 0
ReadsRequirements vars nodes bytes result =
    ReadsLines (StandsFor vars nodes) (λ lines. lines) vars (text_lines bytes) (requirements_of vars bytes)
    result

-- the result of reading a requirements text without making marker trees
abbrev pub SaysRequirements : Variables → List ℕ → Result (List MarkedLine) RequirementsError → Type 0
SaysRequirements vars bytes result =
    ReadsLines (SaysLine vars) (λ lines. lines) vars (text_lines bytes) (requirements_of vars bytes) result

-- the error of a line for an error of its requirement
abbrev pub refusal_by : ℕ → Pep508Error Verbatim VerbatimUrlError
    → Pep508ErrorSource Verbatim VerbatimUrlError → RequirementsError
refusal_by number error sources.Memory = errors.Memory
refusal_by number error sources.NumberAtEnd = errors.NumberAtEnd number
refusal_by number error source = errors.Line number error

abbrev pub refusal_of : ℕ → Pep508Error Verbatim VerbatimUrlError → RequirementsError
refusal_of number error = refusal_by number error error.message
