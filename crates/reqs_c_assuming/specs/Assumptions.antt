-- How the call for the text of what is assumed ends.
use Rattle.std.specs.Prelude.{◌≡◌, ◌≢◌, ◌⊎◌, ℕ, Bool, List, [], ◌∷◌, Option, Some, None, IfSome}
use Rattle.pep440_specifier.specs.Matching.{SpecifierRecord}
use Rattle.pep508_marker_parser.specs.MarkerReading.{Marker}
use Rattle.reqs_assuming.specs.Assumptions.{assumption_text}
use Rattle.reqs_c_reply.specs.declared.place.Place.{Place}
use Rattle.reqs_c_reply.specs.Endings.{Ending, EndsIn}
use Rattle.reqs_c_versions.specs.Specifiers.{IsListIn, RefusesList}
use Rattle.reqs_c_markers.specs.Markers.{IsMarkerIn, RefusesMarker}

-- bytes, or none where there are none
abbrev pub given : List ℕ → Option (List ℕ)
given [] = None
given (byte ∷ bytes) = Some (byte ∷ bytes)

-- the bytes are a marker, if there are any
abbrev pub IsGivenMarker : List ℕ → Type 0
IsGivenMarker bytes = IfSome (given bytes) (λ text. (marker : Marker) × IsMarkerIn text marker)

-- there are bytes, and they are no marker
abbrev pub RefusesGiven : List ℕ → Place → List ℕ → Type 0
RefusesGiven bytes place message = (bytes ≢ []) × RefusesMarker 1 bytes place message

-- the text says all that is assumed
pub record IsAssumption (marker python : List ℕ) (real : Bool) (text : List ℕ) : Type 0 where
  pub specifiers : List SpecifierRecord
  pub is_marker : IsGivenMarker marker
  pub is_list : IsListIn python specifiers
  pub is_text : text ≡ assumption_text (given marker) specifiers real

-- how the call ends: with that text; or the marker is none, or it is one and the specifiers are none
abbrev pub AssumptionEnds : List ℕ → List ℕ → Bool → Ending → Type 0
AssumptionEnds marker python real =
    EndsIn (IsAssumption marker python real)
    (λ place message. RefusesGiven marker place message
    ⊎ (IsGivenMarker marker × RefusesList 2 python place message))
