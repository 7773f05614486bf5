-- A requirement is read where one is written, and only there.
use Rattle.std.proofs.Common.{◌≡◌, ℕ, Bool, List, Result, Ok, Err, inl, inr}
use Rattle.std.proofs.Common.{ap, sym, ◌∙◌}
use Rattle.std.specs.Str.{skip_leading_whitespace}
use Rattle.pep508_url.specs.Vars.{Variables}
use Rattle.pep508_tree.specs.Meaning.{NodeRecord}
use Rattle.pep508_error.specs.declared.refusal.RefusalKind.{RefusalKind}
use Rattle.pep508_error.specs.declared.error.Pep508ErrorSource.{Pep508ErrorSource}
use Rattle.pep508_error.specs.declared.error.Pep508ErrorSource.TheVariants as sources
use Rattle.pep508_marker_parser.specs.MarkerReading.{Marker}
use Rattle.pep508_marker_parser.specs.SideReading as marker_reading
use Rattle.pep508_marker_parser.specs.MarkerOutcome.{IsTreeOf}
use Rattle.pep508_requirement_text.specs.FrontReading.{Front, Refused, Reading, front_reading}
use Rattle.pep508_requirement_text.specs.FrontText.{IsFrontText}
use Rattle.pep508_requirement.specs.MarkerBehind.{marker_behind}
use Rattle.pep508_requirement.specs.RequirementText.{IsMarkedText, IsOfText}
use Rattle.pep508_requirement.specs.RequirementReading.{AsksFor, IsRead, IsFrontRefused, IsMarkerRefused}
use Rattle.pep508_requirement.specs.RequirementReading.{RefusedBy}
use Rattle.pep508_requirement.specs.declared.requirement.Requirement.{Requirement}
use Rattle.pep508_requirement.proofs.Behind.{FoundLaw, AgainLaw, marker_same, behind_found, behind_again}

-- what is read of a front is written, and what is written is read
abbrev pub FrontFound : Type 0
FrontFound =
    (text : List ℕ) (front : Front) (rest : List ℕ) → front_reading text ≡ Ok (front, rest)
    → IsFrontText text front rest

abbrev pub FrontAgain : Type 0
FrontAgain =
    (text : List ℕ) (front : Front) (rest : List ℕ) → IsFrontText text front rest
    → front_reading text ≡ Ok (front, rest)

-- front and marker are read of the text
pub record AreRead (text : List ℕ) (front : Front) (marker : Marker) : Type 0 where
  pub rest : List ℕ
  pub reading : front_reading text ≡ Ok (front, rest)
  pub is_marker : marker_behind (skip_leading_whitespace rest) ≡ Ok marker

pub are_read : FrontAgain → AgainLaw → (text : List ℕ) (front : Front) (marker : Marker)
    → IsMarkedText text front marker → AreRead text front marker
are_read front_law law text front marker h = record {
  rest = h.0;
  reading = front_law text front h.0 h.1;
  is_marker = behind_again law h.0 marker h.2;
}

pub written : FrontFound → FoundLaw → (text : List ℕ) (front : Front) (rest : List ℕ) (marker : Marker)
    → front_reading text ≡ Ok (front, rest) → marker_behind (skip_leading_whitespace rest) ≡ Ok marker
    → IsMarkedText text front marker
written front_law law text front rest marker e h =
    (rest, front_law text front rest e, behind_found law rest marker h)

-- ---- there is one at most

abbrev read_as : Front × List ℕ → Reading Front
read_as found = Ok found

front_same : (found other : Front × List ℕ) → read_as found ≡ Ok other → found ≡ other
front_same found other h = cc

pub one_requirement : FrontAgain → AgainLaw → (text : List ℕ) (front other : Front) (marker another : Marker)
    → IsMarkedText text front marker → IsMarkedText text other another → (front ≡ other) × (marker ≡ another)
one_requirement front_law law text front other marker another h k =
    let a = are_read front_law law text front marker h in
    let b = are_read front_law law text other another k in
    let same : ◌≡◌ {A = Front × List ℕ} (front, a.rest) (other, b.rest) =
    front_same (front, a.rest) (other, b.rest) (sym a.reading ∙ b.reading) in (
      ap (λ (found : Front × List ℕ). found.0) same,
      marker_same marker another
          (sym a.is_marker
          ∙ ap (λ (found : Front × List ℕ). marker_behind (skip_leading_whitespace found.1)) same ∙ b.is_marker),
    )

-- ---- what is read, and what is refused

module _ {T E : Type 0} (Reads : List ℕ → Result T E → Type 0) where
  pub read_written : FrontFound → FoundLaw → (nodes : List NodeRecord) (text : List ℕ) (r : Requirement T E)
      → IsRead Reads nodes text r
      → (front : Front) × (marker : Marker) × IsMarkedText text front marker × (r.name ≡ front.name)
      × (r.extras.items ≡ front.extras) × AsksFor Reads front.source r.version_or_url
      × IsTreeOf nodes r.marker marker.formula
  read_written front_law law nodes text r h = (
    h.front,
    h.marker,
    written front_law law text h.front h.whole.rest h.marker h.whole.reading
        (ap marker_behind h.whole.behind ∙ h.is_marker),
    h.name,
    h.extras,
    h.whole.asks,
    h.tree,
  )

  front_not_refused : (text : List ℕ) (front : Front) (marker : Marker) (vars : Variables) (kind : RefusalKind)
      → AreRead text front marker → IsFrontRefused vars text kind → ⊥
  front_not_refused text front marker vars kind a h =
      let e : ◌≡◌ {A = Reading Front} (Ok (front, a.rest)) (Err h.refused) = sym a.reading ∙ h.reading in cc

  marker_not_refused : (text : List ℕ) (front : Front) (marker : Marker) (kind : RefusalKind)
      → AreRead text front marker → IsMarkerRefused Reads text kind → ⊥
  marker_not_refused text front marker kind a h =
      let same : ◌≡◌ {A = Front × List ℕ} (front, a.rest) (h.front, h.read.rest) =
      front_same (front, a.rest) (h.front, h.read.rest) (sym a.reading ∙ h.read.reading) in
      let e : ◌≡◌ {A = Result Marker marker_reading.Refused} (Ok marker) (Err h.refused) =
      sym a.is_marker
      ∙ ap (λ (found : Front × List ℕ). marker_behind (skip_leading_whitespace found.1)) same
      ∙ ap marker_behind h.read.behind ∙ h.is_marker in
      cc

  pub not_refused : FrontAgain → AgainLaw → (lacks : E → Bool) (vars : Variables) (text : List ℕ)
      (source : Pep508ErrorSource T E) → RefusedBy Reads lacks vars text source → IsOfText source → (front : Front)
      (marker : Marker) → IsMarkedText text front marker → ⊥
  not_refused front_law law lacks vars text sources.Memory h of_text front marker k = of_text
  not_refused front_law law lacks vars text (sources.UrlError error) h of_text front marker k = of_text
  not_refused front_law law lacks vars text sources.NumberAtEnd h of_text front marker k =
      marker_not_refused text front marker _ (are_read front_law law text front marker k) h
  not_refused front_law law lacks vars text (sources.UnsupportedRequirement message) h of_text front marker k =
      front_not_refused text front marker vars _ (are_read front_law law text front marker k) h
  not_refused front_law law lacks vars text (sources.String message) (inl h) of_text front marker k =
      front_not_refused text front marker vars _ (are_read front_law law text front marker k) h
  not_refused front_law law lacks vars text (sources.String message) (inr h) of_text front marker k =
      marker_not_refused text front marker _ (are_read front_law law text front marker k) h
