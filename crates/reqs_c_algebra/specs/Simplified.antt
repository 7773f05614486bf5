-- The reply with the normal text of a simplified marker (PEP 508, "Environment Markers").
use Rattle.std.specs.Prelude.{◌≡◌, ◌⊎◌, ℕ, List, Option}
use Rattle.pep440_text.specs.Record.{VersionRecord}
use Rattle.pep508_diagram.specs.Question.{Valuation}
use Rattle.pep508_marker_parser.specs.MarkerReading.{Marker}
use Rattle.pep508_simplification.specs.Simplified.{IsSimplified, between, is_listed, with_named}
use Rattle.reqs_c_reply.specs.declared.place.Place.{Place}
use Rattle.reqs_c_reply.specs.Endings.{Ending, EndsIn}
use Rattle.reqs_c_markers.specs.declared.bounds.Bounds.{Bounds}
use Rattle.reqs_c_markers.specs.Markers.{Wants, marker_holds, IsMarkerIn, RefusesTree, GivesText}
use Rattle.reqs_c_markers.specs.Markers.{GivesNoText}
use Rattle.reqs_c_algebra.specs.Arguments.{AreNamesIn, RefusesNames}
use Rattle.reqs_c_algebra.specs.Arguments.{IsVersionOrNone, RefusesVersion, lower_bound, upper_bound}

-- ---- with extras that are present

-- the values are those of the marker with extras of these names present
abbrev pub HoldsWith : List (List ℕ) → Wants
HoldsWith names marker value =
    (v : Valuation) → value v ≡ marker_holds marker (with_named (is_listed names) v)

-- the second argument is these names, and the text is the normal one of the marker with extras of these names
pub record GivesWith (bounds : Bounds) (bytes extras text : List ℕ) : Type 0 where
  pub names : List (List ℕ)
  pub are_names : AreNamesIn extras names
  pub gives : GivesText bounds bytes (HoldsWith names) text

-- the first argument is a marker, and the second one is refused
pub record RefusesExtras (bytes extras : List ℕ) (place : Place) (message : List ℕ) : Type 0 where
  pub marker : Marker
  pub is_marker : IsMarkerIn bytes marker
  pub refuses : RefusesNames 2 extras place message

-- the marker with the names has no normal text within the bounds
pub record LacksWith (bounds : Bounds) (bytes extras : List ℕ) (place : Place) (message : List ℕ)
    : Type 0 where
  pub names : List (List ℕ)
  pub are_names : AreNamesIn extras names
  pub lacks : GivesNoText bounds bytes (HoldsWith names) place message

abbrev pub RefusesWith : Bounds → List ℕ → List ℕ → Place → List ℕ → Type 0
RefusesWith bounds bytes extras place message =
    RefusesTree 1 bounds.nodes bytes place message
    ⊎ (RefusesExtras bytes extras place message ⊎ LacksWith bounds bytes extras place message)

-- how a call for the normal text of a marker with these extras present, one per line, ends
abbrev pub SimplifiedExtrasEnds : Bounds → List ℕ → List ℕ → Ending → Type 0
SimplifiedExtrasEnds bounds bytes extras =
    EndsIn (GivesWith bounds bytes extras) (RefusesWith bounds bytes extras)

-- ---- for a range of versions of Python

-- the values are those of the marker, simplified to versions of Python from the first on and below the second
abbrev pub HoldsBetween : Option VersionRecord → Option VersionRecord → Wants
HoldsBetween least end marker value =
    IsSimplified (between (lower_bound least) (upper_bound end)) (marker_holds marker) value

-- the bounds are these versions, if there are any
pub record AreBounds (lower upper : List ℕ) (least end : Option VersionRecord) : Type 0 where
  pub is_least : IsVersionOrNone lower least
  pub is_end : IsVersionOrNone upper end

pub record GivesBetween (bounds : Bounds) (bytes lower upper text : List ℕ) : Type 0 where
  pub least : Option VersionRecord
  pub end : Option VersionRecord
  pub are_bounds : AreBounds lower upper least end
  pub gives : GivesText bounds bytes (HoldsBetween least end) text

-- the first argument is a marker, and the second one is refused
pub record RefusesLower (bytes lower : List ℕ) (place : Place) (message : List ℕ) : Type 0 where
  pub marker : Marker
  pub is_marker : IsMarkerIn bytes marker
  pub refuses : RefusesVersion 2 lower place message

-- the first argument is a marker and the second one a bound, and the third one is refused
pub record RefusesUpper (bytes lower upper : List ℕ) (place : Place) (message : List ℕ) : Type 0 where
  pub marker : Marker
  pub least : Option VersionRecord
  pub is_marker : IsMarkerIn bytes marker
  pub is_least : IsVersionOrNone lower least
  pub refuses : RefusesVersion 3 upper place message

pub record LacksBetween (bounds : Bounds) (bytes lower upper : List ℕ) (place : Place) (message : List ℕ)
    : Type 0 where
  pub least : Option VersionRecord
  pub end : Option VersionRecord
  pub are_bounds : AreBounds lower upper least end
  pub lacks : GivesNoText bounds bytes (HoldsBetween least end) place message

abbrev pub RefusesBetween : Bounds → List ℕ → List ℕ → List ℕ → Place → List ℕ → Type 0
RefusesBetween bounds bytes lower upper place message =
    RefusesTree 1 bounds.nodes bytes place message
    ⊎ (RefusesLower bytes lower place message
    ⊎ (RefusesUpper bytes lower upper place message ⊎ LacksBetween bounds bytes lower upper place message))

-- how a call for the normal text of a marker, simplified to a range of versions of Python, ends
abbrev pub SimplifiedPythonEnds : Bounds → List ℕ → List ℕ → List ℕ → Ending → Type 0
SimplifiedPythonEnds bounds bytes lower upper =
    EndsIn (GivesBetween bounds bytes lower upper) (RefusesBetween bounds bytes lower upper)
