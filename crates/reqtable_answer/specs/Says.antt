-- The records of borrowed requirements, and what they represent.
use Rattle.std.specs.Prelude.{◌≡◌, List, [], map, Option, Some, None}
use Rattle.std.specs.List.{AllZip}
use Rattle.pep440_specifier_list.specs.Lists.{IsInOrder}
use Rattle.pep508_url.specs.UrlTexts.{Verbatim}
use Rattle.pep508_url.specs.declared.url_error.VerbatimUrlError.{VerbatimUrlError}
use Rattle.pep508_requirement_text.specs.FrontReading.{Source, Front}
use Rattle.pep508_requirement_text.specs.FrontReading.Source.{Any, Specifiers, Url}
use Rattle.pep508_requirement.specs.declared.marked_requirement.MarkedRequirement.{MarkedRequirement}
use Rattle.pep508_requirement.specs.declared.requirement.Requirement.{Requirement}
use Rattle.pep508_requirement.specs.declared.version_or_url.VersionOrUrl.{VersionOrUrl}
use Rattle.pep508_requirement.specs.declared.version_or_url.VersionOrUrl.TheVariants as asked
use Rattle.reqtable_answer.specs.declared.ask.Ask.{Ask}
use Rattle.reqtable_answer.specs.declared.ask.AskSource.{AskSource}
use Rattle.reqtable_answer.specs.declared.ask.AskSource.TheVariants as lent

-- ---- records of values

-- what is required, with the specifiers in the order of their versions, and without the URL's text
abbrev pub source_seen : AskSource → Source
source_seen lent.Any = Any
source_seen (lent.Specifiers list) = Specifiers list.now
source_seen lent.Url = Url []

abbrev pub ask_seen : Ask → Front
ask_seen ask = record { name = ask.name.now; extras = ask.extras.now; source = source_seen ask.source }

abbrev pub asks_seen : List Ask → List Front
asks_seen = map ask_seen

-- a requirement of a project, whose URLs are kept as they were given
abbrev pub Asked : Type 0
Asked = Requirement Verbatim VerbatimUrlError

-- the record of a requirement's specifiers or URL, without the URL's text
abbrev pub wanted_seen : Option (VersionOrUrl Verbatim VerbatimUrlError) → Source
wanted_seen None = Any
wanted_seen (Some (asked.VersionSpecifier list)) = Specifiers list
wanted_seen (Some (asked.Url url)) = Url []

abbrev pub requirement_seen : Asked → Front
requirement_seen requirement = record {
  name = requirement.name;
  extras = requirement.extras.items;
  source = wanted_seen requirement.version_or_url;
}

-- the record of a requirement whose marker is a formula
abbrev pub marked_seen : MarkedRequirement Verbatim VerbatimUrlError → Front
marked_seen requirement = record {
  name = requirement.name;
  extras = requirement.extras.items;
  source = wanted_seen requirement.version_or_url;
}

-- ---- what they represent

-- specifiers in the order of their versions represent the given ones, and any URL represents a URL
abbrev pub SaysSource : Source → Source → Type 0
SaysSource Any Any = Unit {0}
SaysSource Any said = ⊥
SaysSource (Specifiers list) (Specifiers given) = IsInOrder given list
SaysSource (Specifiers list) said = ⊥
SaysSource (Url shown) (Url text) = Unit {0}
SaysSource (Url shown) said = ⊥

-- the record of a requirement represents another record
pub record Says (shown said : Front) : Type 0 where
  pub name : shown.name ≡ said.name
  pub extras : shown.extras ≡ said.extras
  pub source : SaysSource shown.source said.source

-- the records of all requirements represent these, one by one
abbrev pub SayAll : List Ask → List Front → Type 0
SayAll asks said = AllZip Says (asks_seen asks) said
