-- Which texts are requirement lines (PEP 508, "Grammar"), and which bytes are requirements texts.
use Rattle.std.specs.Prelude.{◌≡◌, ℕ, List, Ok}
use Rattle.std.specs.List.{AllZip}
use Rattle.std.specs.Str.{IsUtf8}
use Rattle.pep508_url.specs.Vars.{Variables}
use Rattle.pep508_url.specs.UrlTexts.{Verbatim}
use Rattle.pep508_marker_parser.specs.MarkerReading.{Marker}
use Rattle.pep508_requirement_text.specs.FrontReading.{Source}
use Rattle.pep508_requirement_text.specs.FrontReading.Source.{Any, Specifiers, Url}
use Rattle.pep508_requirement.specs.RequirementText.{IsMarkedText}
use Rattle.reqtable_candidates.specs.TextLines.{text_lines}
use Rattle.reqtable_requirements.specs.LineReading.{LineRecord, url_of}

-- a URL that is required is valid
abbrev pub HasItsUrl : Variables → Source → Type 0
HasItsUrl vars Any = Unit {0}
HasItsUrl vars (Specifiers given) = Unit {0}
HasItsUrl vars (Url text) = (url : Verbatim) × (url_of vars text ≡ Ok url)

-- the text is that of the line, apart from the line's number
pub record IsRequirementLine (vars : Variables) (text : List ℕ) (line : LineRecord) : Type 0 where
  pub marker : Marker
  pub is_text : IsMarkedText text line.front marker
  pub has_url : HasItsUrl vars line.front.source
  pub formula : line.formula ≡ marker.formula

-- the line is that of a numbered text
abbrev pub IsNumberedLine : Variables → ℕ × List ℕ → LineRecord → Type 0
IsNumberedLine vars numbered line = IsRequirementLine vars numbered.1 line × (line.number ≡ numbered.0)

-- the bytes are UTF-8 in which each line that is not blank is a requirement, and these are the lines
abbrev pub IsRequirementsText : Variables → List ℕ → List LineRecord → Type 0
IsRequirementsText vars bytes lines = IsUtf8 bytes × AllZip (IsNumberedLine vars) (text_lines bytes) lines
