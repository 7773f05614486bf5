-- The result of reading a requirement without a name, by its URL and extras and by the marker after them.
-- `Reads` says what may be returned for the text of a URL without its extras.
use Rattle.std.specs.Prelude.{◌≡◌, ◌⊎◌, ℕ, Bool, false, List, None, Result, Ok, Err, IfSome}
use Rattle.std.specs.Str.{skip_leading_whitespace}
use Rattle.pep508_url.specs.Vars.{Variables}
use Rattle.pep508_url.specs.Expansion.{expanded}
use Rattle.pep508_tree.specs.Meaning.{NodeRecord}
use Rattle.pep508_error.specs.declared.refusal.RefusalKind.{RefusalKind}
use Rattle.pep508_error.specs.declared.refusal.RefusalKind.TheVariants as kinds
use Rattle.pep508_error.specs.declared.error.Pep508Error.{Pep508Error}
use Rattle.pep508_error.specs.declared.error.Pep508ErrorSource.{Pep508ErrorSource}
use Rattle.pep508_error.specs.declared.error.Pep508ErrorSource.TheVariants as sources
use Rattle.pep508_error.specs.Errors.{told_error}
use Rattle.pep508_marker_parser.specs.MarkerReading.{Marker}
use Rattle.pep508_marker_parser.specs.SideReading as marker_reading
use Rattle.pep508_marker_parser.specs.Outcome.{Fits}
use Rattle.pep508_marker_parser.specs.MarkerOutcome.{IsTreeOf}
use Rattle.pep508_requirement_text.specs.FrontReading.Refused.{Malformed}
use Rattle.pep508_requirement_text.specs.UnnamedReading.{UnnamedFront, IsUnnamedReading}
use Rattle.pep508_requirement.specs.MarkerBehind.{marker_behind}
use Rattle.pep508_requirement.specs.declared.unnamed.UnnamedRequirement.{UnnamedRequirement}

-- what may be returned for a text: the URL that is read from its expansion, given as the text
abbrev pub ReadsGiven : {T E : Type 0} → (List ℕ → Result T E → Type 0) → (T → List ℕ → T → Type 0)
    → Variables → List ℕ → Result T E → Type 0
ReadsGiven {T} {E} Reads IsGiven vars text (Ok url) =
    (read : T) × Reads (expanded vars text) (Ok read) × IsGiven read text url
ReadsGiven Reads IsGiven vars text (Err error) = Reads (expanded vars text) (Err error)

-- the text is read as this requirement, whose marker is a tree of these nodes; it has no origin
pub record IsUnnamedRead {T E : Type 0} (Reads : List ℕ → Result T E → Type 0) (nodes : List NodeRecord)
    (text : List ℕ) (r : UnnamedRequirement T E) : Type 0 where
  pub front : UnnamedFront
  pub rest : List ℕ
  pub marker : Marker
  pub reading : IsUnnamedReading text (Ok (front, rest))
  pub url : Reads front.url (Ok r.url)
  pub extras : r.extras.items ≡ front.extras
  pub is_marker : marker_behind (skip_leading_whitespace rest) ≡ Ok marker
  pub tree : IsTreeOf nodes r.marker marker.formula
  pub origin : r.origin ≡ None

-- the URL has this error, which is not for lack of memory
pub record IsUnnamedUrlRefused {T E : Type 0} (Reads : List ℕ → Result T E → Type 0) (lacks : E → Bool)
    (text : List ℕ) (error : E) : Type 0 where
  pub front : UnnamedFront
  pub rest : List ℕ
  pub reading : IsUnnamedReading text (Ok (front, rest))
  pub reads : Reads front.url (Err error)
  pub told : lacks error ≡ false

-- the URL and its extras are read, and the marker after them is refused, for a reason of this kind of
-- refusal
pub record IsUnnamedMarkerRefused {T E : Type 0} (Reads : List ℕ → Result T E → Type 0) (text : List ℕ)
    (kind : RefusalKind) : Type 0 where
  pub front : UnnamedFront
  pub rest : List ℕ
  pub read : T
  pub refused : marker_reading.Refused
  pub reading : IsUnnamedReading text (Ok (front, rest))
  pub url : Reads front.url (Ok read)
  pub is_marker : marker_behind (skip_leading_whitespace rest) ≡ Err refused
  pub fits : Fits kind refused

-- why a text is refused, by its error
abbrev pub UnnamedRefusedBy : {T E : Type 0} → (List ℕ → Result T E → Type 0) → (E → Bool) → List ℕ
    → Pep508ErrorSource T E → Type 0
UnnamedRefusedBy Reads lacks text sources.Memory = Unit {0}
UnnamedRefusedBy Reads lacks text sources.NumberAtEnd = IsUnnamedMarkerRefused Reads text kinds.NumberAtEnd
UnnamedRefusedBy Reads lacks text (sources.UrlError error) = IsUnnamedUrlRefused Reads lacks text error
UnnamedRefusedBy Reads lacks text (sources.UnsupportedRequirement message) = ⊥
UnnamedRefusedBy Reads lacks text (sources.String message) =
    IsUnnamedReading text (Err Malformed) ⊎ IsUnnamedMarkerRefused Reads text (kinds.String message)

-- the text is refused with this error, which shows it, or memory ran out
pub record IsUnnamedRefused {T E : Type 0} (Reads : List ℕ → Result T E → Type 0) (lacks : E → Bool)
    (text : List ℕ) (error : Pep508Error T E) : Type 0 where
  pub cause : UnnamedRefusedBy Reads lacks text error.message
  pub input : IfSome (told_error error) (λ fault. fault.input ≡ text)

-- the results of reading the text, with these nodes afterwards
abbrev pub ReadsUnnamedRequirement : {T E : Type 0} → (List ℕ → Result T E → Type 0) → (E → Bool)
    → List NodeRecord → List ℕ → Result (UnnamedRequirement T E) (Pep508Error T E) → Type 0
ReadsUnnamedRequirement Reads lacks nodes text (Ok r) = IsUnnamedRead Reads nodes text r
ReadsUnnamedRequirement Reads lacks nodes text (Err error) = IsUnnamedRefused Reads lacks text error
