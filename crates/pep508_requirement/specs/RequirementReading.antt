-- The result of reading a requirement's text, by its front and by the marker after it. `Reads` says what
-- may be returned for the text of a URL: that depends on the type of URLs.
use Rattle.std.specs.Prelude.{◌≡◌, ◌⊎◌, ℕ, Bool, false, List, Option, Some, None, Result, Ok, Err, IfSome}
use Rattle.std.specs.Str.{skip_leading_whitespace}
use Rattle.pep440_specifier_list.specs.Lists.{IsInOrder}
use Rattle.pep508_url.specs.Vars.{Variables}
use Rattle.pep508_tree.specs.Meaning.{NodeRecord}
use Rattle.pep508_error.specs.declared.refusal.RefusalKind.{RefusalKind}
use Rattle.pep508_error.specs.declared.refusal.RefusalKind.TheVariants as kinds
use Rattle.pep508_error.specs.declared.error.Pep508Error.{Pep508Error}
use Rattle.pep508_error.specs.declared.error.Pep508ErrorSource.{Pep508ErrorSource}
use Rattle.pep508_error.specs.declared.error.Pep508ErrorSource.TheVariants as sources
use Rattle.pep508_error.specs.Errors.{told_error}
use Rattle.pep508_marker_parser.specs.MarkerReading.{Marker}
use Rattle.pep508_marker_parser.specs.SideReading as marker_reading
use Rattle.pep508_marker_parser.specs.MarkerOutcome.{IsTreeOf}
use Rattle.pep508_marker_parser.specs.Outcome as outcome
use Rattle.pep508_requirement_text.specs.FrontReading.{Source, Front, Refused, front_reading}
use Rattle.pep508_requirement_text.specs.FrontReading.Source.{Any, Specifiers, Url}
use Rattle.pep508_requirement_text.specs.FrontOutcome.{Fits}
use Rattle.pep508_requirement.specs.MarkerBehind.{marker_behind}
use Rattle.pep508_requirement.specs.declared.requirement.Requirement.{Requirement}
use Rattle.pep508_requirement.specs.declared.version_or_url.VersionOrUrl.{VersionOrUrl}
use Rattle.pep508_requirement.specs.declared.version_or_url.VersionOrUrl.TheVariants as asked

-- the requirement's specifiers or URL are those of the text: nothing, the given specifiers in order, or a
-- URL that is read from the given text
abbrev pub AsksFor : {T E : Type 0} → (List ℕ → Result T E → Type 0) → Source → Option (VersionOrUrl T E)
    → Type 0
AsksFor Reads Any None = Unit {0}
AsksFor Reads Any (Some what) = ⊥
AsksFor Reads (Specifiers given) (Some (asked.VersionSpecifier list)) = IsInOrder given list
AsksFor Reads (Specifiers given) what = ⊥
AsksFor Reads (Url text) (Some (asked.Url url)) = Reads text (Ok url)
AsksFor Reads (Url text) what = ⊥

-- the front of the text is read, its URL too, and after white space these characters are left
pub record IsReadUpTo {T E : Type 0} (Reads : List ℕ → Result T E → Type 0) (text : List ℕ) (front : Front)
    (what : Option (VersionOrUrl T E)) (left : List ℕ) : Type 0 where
  pub rest : List ℕ
  pub reading : front_reading text ≡ Ok (front, rest)
  pub asks : AsksFor Reads front.source what
  pub behind : skip_leading_whitespace rest ≡ left

-- the text is read as this requirement, whose marker is a tree of these nodes; it has no origin
pub record IsRead {T E : Type 0} (Reads : List ℕ → Result T E → Type 0) (nodes : List NodeRecord)
    (text : List ℕ) (r : Requirement T E) : Type 0 where
  pub front : Front
  pub left : List ℕ
  pub marker : Marker
  pub whole : IsReadUpTo Reads text front r.version_or_url left
  pub name : r.name ≡ front.name
  pub extras : r.extras.items ≡ front.extras
  pub is_marker : marker_behind left ≡ Ok marker
  pub tree : IsTreeOf nodes r.marker marker.formula
  pub origin : r.origin ≡ None

-- the front of the text is refused, for a reason of this kind of refusal
pub record IsFrontRefused (vars : Variables) (text : List ℕ) (kind : RefusalKind) : Type 0 where
  pub refused : Refused
  pub reading : front_reading text ≡ Err refused
  pub fits : Fits vars kind refused

-- the front has a URL with this error, which is not for lack of memory
pub record IsUrlRefused {T E : Type 0} (Reads : List ℕ → Result T E → Type 0) (lacks : E → Bool)
    (text : List ℕ) (error : E) : Type 0 where
  pub front : Front
  pub rest : List ℕ
  pub url : List ℕ
  pub reading : front_reading text ≡ Ok (front, rest)
  pub source : front.source ≡ Url url
  pub reads : Reads url (Err error)
  pub told : lacks error ≡ false

-- front and URL are read, and the marker after them is refused, for a reason of this kind of refusal
pub record IsMarkerRefused {T E : Type 0} (Reads : List ℕ → Result T E → Type 0) (text : List ℕ)
    (kind : RefusalKind) : Type 0 where
  pub front : Front
  pub what : Option (VersionOrUrl T E)
  pub left : List ℕ
  pub refused : marker_reading.Refused
  pub read : IsReadUpTo Reads text front what left
  pub is_marker : marker_behind left ≡ Err refused
  pub fits : outcome.Fits kind refused

-- why a text is refused, by its error
abbrev pub RefusedBy : {T E : Type 0} → (List ℕ → Result T E → Type 0) → (E → Bool) → Variables → List ℕ
    → Pep508ErrorSource T E → Type 0
RefusedBy Reads lacks vars text sources.Memory = Unit {0}
RefusedBy Reads lacks vars text sources.NumberAtEnd = IsMarkerRefused Reads text kinds.NumberAtEnd
RefusedBy Reads lacks vars text (sources.UrlError error) = IsUrlRefused Reads lacks text error
RefusedBy Reads lacks vars text (sources.UnsupportedRequirement message) =
    IsFrontRefused vars text (kinds.UnsupportedRequirement message)
RefusedBy Reads lacks vars text (sources.String message) =
    IsFrontRefused vars text (kinds.String message) ⊎ IsMarkerRefused Reads text (kinds.String message)

-- the text is refused with this error, which shows it, or memory ran out
pub record IsRefused {T E : Type 0} (Reads : List ℕ → Result T E → Type 0) (lacks : E → Bool)
    (vars : Variables) (text : List ℕ) (error : Pep508Error T E) : Type 0 where
  pub cause : RefusedBy Reads lacks vars text error.message
  pub input : IfSome (told_error error) (λ fault. fault.input ≡ text)

-- the results of reading the text, with these nodes afterwards
abbrev pub ReadsRequirement : {T E : Type 0} → (List ℕ → Result T E → Type 0) → (E → Bool) → Variables
    → List NodeRecord → List ℕ → Result (Requirement T E) (Pep508Error T E) → Type 0
ReadsRequirement Reads lacks vars nodes text (Ok r) = IsRead Reads nodes text r
ReadsRequirement Reads lacks vars nodes text (Err error) = IsRefused Reads lacks vars text error
