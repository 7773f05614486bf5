-- Requirement lines, and how a line's text is read (PEP 508, "Grammar").
use Rattle.std.specs.Prelude.{ℕ, List, Some, Result, Ok, Err}
use Rattle.std.specs.Str.{skip_leading_whitespace}
use Rattle.pep508_url.specs.Vars.{Variables}
use Rattle.pep508_url.specs.UrlFaults.{UrlFault}
use Rattle.pep508_url.specs.UrlTexts.{Verbatim, verbatim_reading}
use Rattle.pep508_marker.specs.Expression.{ExpressionRecord}
use Rattle.pep508_marker_parser.specs.Formula.{Formula}
use Rattle.pep508_marker_parser.specs.SideReading as markers
use Rattle.pep508_marker_parser.specs.MarkerReading.{Marker}
use Rattle.pep508_requirement_text.specs.FrontReading.{Source, Front, Refused, front_reading}
use Rattle.pep508_requirement_text.specs.FrontReading.Source.{Any, Specifiers, Url}
use Rattle.pep508_requirement.specs.MarkerBehind.{marker_behind}

-- a line: its number, the name, extras and versions or URL that it requires, and the formula of its marker
pub record LineRecord : Type 0 where
  pub number : ℕ
  pub front : Front
  pub formula : Formula ExpressionRecord

-- why bytes are not a requirements text: the offset of the first byte that is not UTF-8; or the number of the
-- first line that is not a requirement, or that compares with a version number that can't be raised
pub data LinesFault : Type 0 where
  NotText : ℕ → LinesFault
  NoRequirement : ℕ → LinesFault
  NumberAtEnd : ℕ → LinesFault

-- a URL in the project's directory
abbrev pub url_of : Variables → List ℕ → Result Verbatim UrlFault
url_of vars text = verbatim_reading vars text (Some vars.project_root)

abbrev pub with_marker : ℕ → Front → Result Marker markers.Refused → Result LineRecord LinesFault
with_marker number front (Ok marker) =
    Ok (record { number = number; front = front; formula = marker.formula })
with_marker number front (Err markers.Malformed) = Err (NoRequirement number)
with_marker number front (Err markers.TooDeep) = Err (NoRequirement number)
with_marker number front (Err markers.AtEnd) = Err (NumberAtEnd number)

abbrev pub with_rest : ℕ → Front → List ℕ → Result LineRecord LinesFault
with_rest number front rest = with_marker number front (marker_behind (skip_leading_whitespace rest))

abbrev pub with_url : ℕ → Front → List ℕ → Result Verbatim UrlFault → Result LineRecord LinesFault
with_url number front rest (Ok url) = with_rest number front rest
with_url number front rest (Err fault) = Err (NoRequirement number)

abbrev pub with_source : Variables → ℕ → Front → List ℕ → Source → Result LineRecord LinesFault
with_source vars number front rest Any = with_rest number front rest
with_source vars number front rest (Specifiers given) = with_rest number front rest
with_source vars number front rest (Url text) = with_url number front rest (url_of vars text)

abbrev pub with_front : Variables → ℕ → Result (Front × List ℕ) Refused → Result LineRecord LinesFault
with_front vars number (Ok found) = with_source vars number found.0 found.1 found.0.source
with_front vars number (Err refused) = Err (NoRequirement number)

-- the line of a text, or why it is invalid: for its front, its URL, or its marker
unfoldable pub line_of : Variables → ℕ → List ℕ → Result LineRecord LinesFault
line_of vars number text = with_front vars number (front_reading text)
