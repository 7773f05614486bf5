-- Which requirements are read from their print (PEP 508, "Grammar").
use Rattle.std.specs.Prelude.{◌≡◌, ℕ, ◌<◌, List, length, Some}
use Rattle.std.specs.List.{AllByRecursion}
use Rattle.pep508_name.specs.Name.{name_of}
use Rattle.pep508_diagram.specs.Diagram.{Diagram}
use Rattle.pep508_diagram.specs.Question.{Question}
use Rattle.pep508_marker_parser.specs.MarkerReading.{Marker}
use Rattle.pep508_requirement_text.specs.FrontReading.{Front}
use Rattle.pep508_requirement_text.specs.FrontReading.Source.{Any, Specifiers, Url}
use Rattle.pep508_requirement_text.specs.FrontReading as front
use Rattle.pep508_requirement.specs.RequirementText.{IsMarkedText}
use Rattle.pep508_reading_back.specs.Diagrams.{SaysDiagram}
use Rattle.pep508_reading_back.specs.Readable.{IsPrintableSpecifier}

-- nothing, or some specifiers, and no URL
abbrev pub IsReadableSource : front.Source → Type 0
IsReadableSource Any = Unit {0}
IsReadableSource (Specifiers given) = (0 < length given) × AllByRecursion IsPrintableSpecifier given
IsReadableSource (Url url) = ⊥

-- no requirement, or specifiers, and no URL
abbrev pub NamesNoUrl : front.Source → Type 0
NamesNoUrl Any = Unit {0}
NamesNoUrl (Specifiers given) = Unit {0}
NamesNoUrl (Url url) = ⊥

-- names in normal form
pub record IsReadableFront (front : Front) : Type 0 where
  pub is_name : name_of front.name ≡ Some front.name
  pub are_names : AllByRecursion (λ name. name_of name ≡ Some name) front.extras
  pub is_source : IsReadableSource front.source

-- the text is that of a requirement with this front and a marker that holds where the diagram does
abbrev pub ReadsRequirement : List ℕ → Front → Diagram Question → Type 0
ReadsRequirement text front diagram =
    (marker : Marker) × IsMarkedText text front marker × SaysDiagram diagram marker
