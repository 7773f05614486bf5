-- Normal texts of markers (PEP 508, "Environment Markers"), and which markers have none.
use Rattle.std.specs.Prelude.{◌≡◌, ◌⊎◌, ◌<◌, ◌≤◌, ℕ, Bool, false, not, if◌then◌else◌, List, [], ◌++◌, codes}
use Rattle.std.specs.Prelude.{unwrap_or, Option, Some, None}
use Rattle.std.specs.Fmt.{decimal}
use Rattle.pep508_diagram.specs.Diagram.{Diagram, Leaf, Test}
use Rattle.pep508_diagram.specs.Question.{Question, Valuation, truth, IsCanonical}
use Rattle.pep508_diagram.specs.Shortened.{HasShortVersions}
use Rattle.pep508_marker_text_laws.specs.MarkerText.{marker_text}
use Rattle.pep508_marker_display.specs.Counted.{clause_count}
use Rattle.pep508_questions.specs.Asks.{asks_any, has_quote, is_of_deprecated_key, is_other_bound}
use Rattle.reqs_c_reply.specs.declared.place.Place.{Place}
use Rattle.reqs_c_reply.specs.Endings.{Ending, EndsIn, span}
use Rattle.reqs_c_markers.specs.declared.normal_texts.TextFault.{TextFault}
use Rattle.reqs_c_markers.specs.declared.normal_texts.TextFault.TheVariants.{SingleQuote, DeprecatedKey}
use Rattle.reqs_c_markers.specs.declared.normal_texts.TextFault.TheVariants.{VersionBound, NeverHolds}

-- the diagram has no needless question, and has each version in its shortest spelling: there is one such
-- diagram for each meaning
pub record IsNormalDiagram (diagram : Diagram Question) : Type 0 where
  pub canonical : IsCanonical diagram
  pub short : HasShortVersions diagram

-- ---- which markers have no normal text

abbrev pub never_holds : Diagram Question → Bool
never_holds (Leaf b) = not b
never_holds (Test q low high) = false

-- the first cause for which the text of a marker would be read as another marker, or not as one; a marker
-- that always holds has no question
abbrev pub text_fault : Diagram Question → Option TextFault
text_fault diagram =
    if asks_any has_quote diagram then Some SingleQuote
    else (if asks_any is_of_deprecated_key diagram then Some DeprecatedKey
    else (if asks_any is_other_bound diagram then Some VersionBound
    else (if never_holds diagram then Some NeverHolds else None)))

abbrev pub text_fault_words : TextFault → List ℕ
text_fault_words SingleQuote = codes "single quote"
text_fault_words DeprecatedKey = codes "deprecated key"
text_fault_words VersionBound = codes "version bound"
text_fault_words NeverHolds = codes "never holds"

-- ---- the text

-- the text is the normal one of a marker with this diagram, empty if that always holds, and the diagram has
-- at most `most` clauses
pub record IsTextOfDiagram (most : ℕ) (diagram : Diagram Question) (text : List ℕ) : Type 0 where
  pub no_fault : text_fault diagram ≡ None
  pub few : clause_count diagram ≤ most
  pub is_text : text ≡ unwrap_or (marker_text diagram) []

-- a marker with this diagram has no normal text, and the message is the reason; the place is the first
-- argument
pub record HasNoText (diagram : Diagram Question) (place : Place) (message : List ℕ) : Type 0 where
  pub fault : TextFault
  pub is_fault : text_fault diagram ≡ Some fault
  pub stands : place ≡ span 1 0 0
  pub says : message ≡ codes "no normal text: " ++ text_fault_words fault

-- a marker with this diagram has a normal text, but the diagram more than `most` clauses
pub record HasMoreClauses (most : ℕ) (diagram : Diagram Question) (place : Place) (message : List ℕ)
    : Type 0 where
  pub no_fault : text_fault diagram ≡ None
  pub more : most < clause_count diagram
  pub stands : place ≡ span 1 0 0
  pub says : message ≡ codes "more than " ++ (decimal most ++ codes " clauses")

abbrev pub LacksText : ℕ → Diagram Question → Place → List ℕ → Type 0
LacksText most diagram place message =
    HasNoText diagram place message ⊎ HasMoreClauses most diagram place message

-- how a call for the normal text of a diagram with at most `most` clauses ends
abbrev pub DiagramEnds : ℕ → Diagram Question → Ending → Type 0
DiagramEnds most diagram = EndsIn (IsTextOfDiagram most diagram) (LacksText most diagram)

-- ---- by meaning

-- the text is the normal one of a marker with values that are wanted
pub record IsTextOf (most : ℕ) (IsWanted : (Valuation → Bool) → Type 0) (text : List ℕ) : Type 0 where
  pub diagram : Diagram Question
  pub is_normal : IsNormalDiagram diagram
  pub wanted : IsWanted (truth diagram)
  pub is_text : IsTextOfDiagram most diagram text

-- a marker with values that are wanted has no normal text of at most `most` clauses, and the message is the
-- reason
pub record IsNoTextOf (most : ℕ) (IsWanted : (Valuation → Bool) → Type 0) (place : Place) (message : List ℕ)
    : Type 0 where
  pub diagram : Diagram Question
  pub is_normal : IsNormalDiagram diagram
  pub wanted : IsWanted (truth diagram)
  pub has_none : LacksText most diagram place message
