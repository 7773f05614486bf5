-- A requirement without a name is read where one is written, and only there.
use Rattle.std.proofs.Common.{◌≡◌, ℕ, Bool, List, Result, Ok, Err, inl, inr}
use Rattle.std.proofs.Common.{ap, sym, ◌∙◌}
use Rattle.std.specs.Str.{skip_leading_whitespace}
use Rattle.pep508_tree.specs.Meaning.{NodeRecord}
use Rattle.pep508_error.specs.declared.refusal.RefusalKind.{RefusalKind}
use Rattle.pep508_error.specs.declared.error.Pep508ErrorSource.{Pep508ErrorSource}
use Rattle.pep508_error.specs.declared.error.Pep508ErrorSource.TheVariants as sources
use Rattle.pep508_marker_parser.specs.MarkerReading.{Marker}
use Rattle.pep508_marker_parser.specs.SideReading as marker_reading
use Rattle.pep508_marker_parser.specs.MarkerOutcome.{IsTreeOf}
use Rattle.pep508_requirement_text.specs.FrontReading.{Reading}
use Rattle.pep508_requirement_text.specs.FrontReading.Refused.{Malformed}
use Rattle.pep508_requirement_text.specs.UnnamedReading.{UnnamedFront, IsUnnamedReading}
use Rattle.pep508_requirement_text.specs.UnnamedText.{IsUnnamedText}
use Rattle.pep508_requirement.specs.MarkerBehind.{marker_behind}
use Rattle.pep508_requirement.specs.RequirementText.{IsUnnamedMarkedText, IsOfText}
use Rattle.pep508_requirement.specs.UnnamedRequirementReading.{IsUnnamedRead, IsUnnamedMarkerRefused}
use Rattle.pep508_requirement.specs.UnnamedRequirementReading.{UnnamedRefusedBy}
use Rattle.pep508_requirement.specs.declared.unnamed.UnnamedRequirement.{UnnamedRequirement}
use Rattle.pep508_requirement.proofs.Behind.{FoundLaw, AgainLaw, marker_same, behind_found, behind_again}

-- what is read of a front is written, and what is written is read, and nothing else is
abbrev pub UnnamedFound : Type 0
UnnamedFound =
    (text : List ℕ) (front : UnnamedFront) (rest : List ℕ) → IsUnnamedReading text (Ok (front, rest))
    → IsUnnamedText text front rest

abbrev pub UnnamedAgain : Type 0
UnnamedAgain =
    (text : List ℕ) (front : UnnamedFront) (rest : List ℕ) → IsUnnamedText text front rest
    → IsUnnamedReading text (Ok (front, rest))

abbrev pub OneReading : Type 0
OneReading =
    (text : List ℕ) (reading other : Reading UnnamedFront) → IsUnnamedReading text reading
    → IsUnnamedReading text other → reading ≡ other

-- front and marker are read of the text
pub record AreRead (text : List ℕ) (front : UnnamedFront) (marker : Marker) : Type 0 where
  pub rest : List ℕ
  pub reading : IsUnnamedReading text (Ok (front, rest))
  pub is_marker : marker_behind (skip_leading_whitespace rest) ≡ Ok marker

pub are_read : UnnamedAgain → AgainLaw → (text : List ℕ) (front : UnnamedFront) (marker : Marker)
    → IsUnnamedMarkedText text front marker → AreRead text front marker
are_read front_law law text front marker h = record {
  rest = h.0;
  reading = front_law text front h.0 h.1;
  is_marker = behind_again law h.0 marker h.2;
}

-- ---- there is one at most

abbrev read_as : UnnamedFront × List ℕ → Reading UnnamedFront
read_as found = Ok found

front_same : (found other : UnnamedFront × List ℕ) → read_as found ≡ Ok other → found ≡ other
front_same found other h = cc

pub one_requirement : OneReading → UnnamedAgain → AgainLaw → (text : List ℕ) (front other : UnnamedFront)
    (marker another : Marker) → IsUnnamedMarkedText text front marker → IsUnnamedMarkedText text other another
    → (front ≡ other) × (marker ≡ another)
one_requirement one front_law law text front other marker another h k =
    let a = are_read front_law law text front marker h in
    let b = are_read front_law law text other another k in
    let same : ◌≡◌ {A = UnnamedFront × List ℕ} (front, a.rest) (other, b.rest) =
    front_same (front, a.rest) (other, b.rest)
    (one text (Ok (front, a.rest)) (Ok (other, b.rest)) a.reading b.reading) in (
      ap (λ (found : UnnamedFront × List ℕ). found.0) same,
      marker_same marker another
          (sym a.is_marker
          ∙ ap (λ (found : UnnamedFront × List ℕ). marker_behind (skip_leading_whitespace found.1)) same
          ∙ b.is_marker),
    )

-- ---- what is read, and what is refused

module _ {T E : Type 0} (Reads : List ℕ → Result T E → Type 0) where
  pub read_written : UnnamedFound → FoundLaw → (nodes : List NodeRecord) (text : List ℕ) (r : UnnamedRequirement T E)
      → IsUnnamedRead Reads nodes text r
      → (front : UnnamedFront) × (marker : Marker) × IsUnnamedMarkedText text front marker
      × Reads front.url (Ok r.url) × (r.extras.items ≡ front.extras) × IsTreeOf nodes r.marker marker.formula
  read_written front_law law nodes text r h = (
    h.front,
    h.marker,
    (h.rest, front_law text h.front h.rest h.reading, behind_found law h.rest h.marker h.is_marker),
    h.url,
    h.extras,
    h.tree,
  )

  front_not_refused : OneReading → (text : List ℕ) (front : UnnamedFront) (marker : Marker)
      → AreRead text front marker → IsUnnamedReading text (Err Malformed) → ⊥
  front_not_refused one text front marker a h =
      let e : ◌≡◌ {A = Reading UnnamedFront} (Ok (front, a.rest)) (Err Malformed) =
      one text (Ok (front, a.rest)) (Err Malformed) a.reading h in
      cc

  marker_not_refused : OneReading → (text : List ℕ) (front : UnnamedFront) (marker : Marker) (kind : RefusalKind)
      → AreRead text front marker → IsUnnamedMarkerRefused Reads text kind → ⊥
  marker_not_refused one text front marker kind a h =
      let same : ◌≡◌ {A = UnnamedFront × List ℕ} (front, a.rest) (h.front, h.rest) =
      front_same (front, a.rest) (h.front, h.rest)
      (one text (Ok (front, a.rest)) (Ok (h.front, h.rest)) a.reading h.reading) in
      let e : ◌≡◌ {A = Result Marker marker_reading.Refused} (Ok marker) (Err h.refused) =
      sym a.is_marker
      ∙ ap (λ (found : UnnamedFront × List ℕ). marker_behind (skip_leading_whitespace found.1)) same ∙ h.is_marker in
      cc

  pub not_refused : OneReading → UnnamedAgain → AgainLaw → (lacks : E → Bool) (text : List ℕ)
      (source : Pep508ErrorSource T E) → UnnamedRefusedBy Reads lacks text source → IsOfText source
      → (front : UnnamedFront) (marker : Marker) → IsUnnamedMarkedText text front marker → ⊥
  not_refused one front_law law lacks text sources.Memory h of_text front marker k = of_text
  not_refused one front_law law lacks text (sources.UrlError error) h of_text front marker k = of_text
  not_refused one front_law law lacks text sources.NumberAtEnd h of_text front marker k =
      marker_not_refused one text front marker _ (are_read front_law law text front marker k) h
  not_refused one front_law law lacks text (sources.UnsupportedRequirement message) h of_text front marker k = h
  not_refused one front_law law lacks text (sources.String message) (inl h) of_text front marker k =
      front_not_refused one text front marker (are_read front_law law text front marker k) h
  not_refused one front_law law lacks text (sources.String message) (inr h) of_text front marker k =
      marker_not_refused one text front marker _ (are_read front_law law text front marker k) h
