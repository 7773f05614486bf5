-- What a requirement that was read prints is read with its name, its extras and its specifiers.
use Rattle.std.proofs.Common.{◌≡◌, ℕ, Bool, List, Option, Some, None, Result, Ok, Err, refl, sym, subst, ◌∙◌}
use Rattle.std.specs.List.{AllByRecursion}
use Rattle.std.specs.Str.{chars}
use Rattle.pep508_error.specs.declared.error.Pep508Error.{Pep508Error}
use Rattle.pep508_marker_parser.specs.MarkerOutcome.{IsTreeOf}
use Rattle.pep508_marker_parser.specs.MarkerReading.{Marker}
use Rattle.pep508_marker_parser.specs.MarkerText.{IsMarkerText}
use Rattle.pep508_marker_text_laws.specs.MarkerText.{marker_text}
use Rattle.pep508_name.specs.Name.{name_of}
use Rattle.pep508_name.proofs.Again.{normal_again}
use Rattle.pep508_requirement_text.specs.FrontReading.{Front}
use Rattle.pep508_requirement.specs.declared.requirement.Requirement.{Requirement}
use Rattle.pep508_requirement.specs.MarkerBehind.{no_marker}
use Rattle.pep508_requirement.specs.RequirementReading.{AsksFor, IsRead, ReadsRequirement}
use Rattle.pep508_requirement.specs.RequirementText.{IsMarkedText}
use Rattle.pep508_requirement_ref.specs.Views.{printed}
use Rattle.pep508_requirement_ref.specs.declared.requirement_ref.RequirementRef.{RequirementRef}
use Rattle.pep508_reading_back.specs.ReadViews.{AsksNoUrl, ShowsRead, KeepsFront}
use Rattle.pep508_reading_back.proofs.ReadFronts.{asked_readable, extras_normal}
use Rattle.pep508_reading_back.proofs.ReadRequirements.{WrittenIsRead}
use Rattle.pep508_reading_back.proofs.Requirements.{marked_read, unmarked_read}
use Rattle.pep508_reading_back.proofs.Views.{WrittenIsTaken, MakesMarker, IsReadableShown, SaysAt}
use Rattle.pep508_reading_back.proofs.Views.{shown_again}
use Rattle.pep508_tree.specs.Meaning.{NodeRecord}
use Rattle.pep508_tree_ref.specs.Lent.{tree_in}
use Rattle.pep508_tree_ref.specs.TreeIn.{diagram_in}
use Rattle.pep508_url.specs.Vars.{Variables}

-- what is read is written
abbrev pub ReadIsWritten : {T E : Type 0} → (List ℕ → Result T E → Type 0) → Type 0
ReadIsWritten {T} {E} Reads =
    (nodes : List NodeRecord) (text : List ℕ) (r : Requirement T E) → IsRead Reads nodes text r
    → (front : Front) × (marker : Marker) × IsMarkedText text front marker × (r.name ≡ front.name)
    × (r.extras.items ≡ front.extras) × AsksFor Reads front.source r.version_or_url
    × IsTreeOf nodes r.marker marker.formula

-- the text, if there is any, is that of a marker
abbrev pub IsOfMarker : Option (List ℕ) → Type 0
IsOfMarker written =
    (text : List ℕ) → written ≡ Some text → (marker : Marker) × IsMarkerText (chars text) marker

-- a requirement that was read is one that can be printed and read again
pub read_is_readable : {T E : Type 0} (Reads : List ℕ → Result T E → Type 0) → ReadIsWritten Reads →
    (text : List ℕ) (shown : RequirementRef T E) → ShowsRead Reads text shown →
    AsksNoUrl shown.version_or_url.now → IsReadableShown shown shown.version_or_url.now
read_is_readable Reads written text shown h n =
    let r = h.requirement in
    let w = written h.old text r h.is_read in
    let name_is : w.0.name ≡ shown.name.now = sym (h.shows.name ∙ w.3) in
    let extras_are : w.0.extras ≡ shown.extras.now = sym (h.shows.extras ∙ w.4) in
    let front = w.2.1 in
    record {
      name = subst (λ name. name_of name ≡ Some name) name_is
          (normal_again front.written w.0.name front.is_name);
      extras = subst (AllByRecursion (λ name. name_of name ≡ Some name)) extras_are
          (extras_normal front.brackets w.0.extras front.are_extras);
      asked = asked_readable Reads front.written front.asked w.2.0 w.0.source shown.version_or_url.now
          front.is_source (subst (AsksFor Reads w.0.source) (sym h.shows.version_or_url) w.5) n;
    }

makes_marker : (behind : Option (List ℕ)) → IsOfMarker behind → MakesMarker behind (λ marker. Unit {0})
makes_marker None h front good = (no_marker, unmarked_read front good, tt)
makes_marker (Some text) h front good =
    let read = h text refl in
    (read.0, marked_read front text read.0 good read.1, tt)

front_kept : {T E : Type 0} (nodes : List NodeRecord) (shown : RequirementRef T E)
    (result : Result (Requirement T E) (Pep508Error T E)) →
    SaysAt nodes shown (λ marker. Unit {0}) shown.version_or_url.now result → KeepsFront shown result
front_kept nodes shown (Ok r) h = record { name = h.0; extras = h.1; asks = h.2 }
front_kept nodes shown (Err error) h = h

pub read_keeps_front : {T E : Type 0} (Reads : List ℕ → Result T E → Type 0) (lacks : E → Bool)
    (vars : Variables)
    (nodes : List NodeRecord) (written : WrittenIsRead) (taken : WrittenIsTaken Reads lacks vars)
    (output : T → Option (List ℕ)) (shown : RequirementRef T E) →
    IsReadableShown shown shown.version_or_url.now →
    IsOfMarker (marker_text (diagram_in (tree_in shown.marker))) → (text : List ℕ) →
    printed output shown ≡ Some text →
    (result : Result (Requirement T E) (Pep508Error T E)) →
    ReadsRequirement Reads lacks vars nodes text result → KeepsFront shown result
read_keeps_front Reads lacks vars nodes written taken output shown good said text e result h =
    front_kept nodes shown result
    (shown_again Reads lacks vars nodes written taken shown output good (λ marker. Unit {0})
    (makes_marker (marker_text (diagram_in (tree_in shown.marker))) said) text e result h)
