-- What a requirement with its interner prints is read as what it shows.
use Rattle.std.proofs.Common.{◌≡◌, ℕ, Bool, List, Option, Some, None, Result, Ok, Err, option_map, ap, sym}
use Rattle.std.proofs.Common.{subst, ◌∙◌}
use Rattle.std.specs.List.{AllByRecursion}
use Rattle.pep508_diagram.specs.Question.{IsCanonical}
use Rattle.pep508_error.specs.declared.error.Pep508Error.{Pep508Error}
use Rattle.pep440_specifier.specs.Matching.{SpecifierRecord}
use Rattle.pep440_specifier_list.specs.Lists.{IsByVersion}
use Rattle.pep508_marker_parser.specs.MarkerOutcome.{IsTreeOf}
use Rattle.pep508_reading_back.specs.Diagrams.{SaysDiagram}
use Rattle.pep508_error.specs.declared.error.Pep508ErrorSource.{Pep508ErrorSource}
use Rattle.pep508_error.specs.declared.error.Pep508ErrorSource.TheVariants as sources
use Rattle.pep508_marker_parser.specs.MarkerReading.{Marker}
use Rattle.pep508_marker_text_laws.specs.MarkerText.{marker_text}
use Rattle.pep508_name.specs.Name.{name_of}
use Rattle.pep508_requirement_text.specs.FrontReading.{Front, Source, front_reading}
use Rattle.pep508_requirement_text.specs.FrontReading.Source.{Any, Specifiers, Url}
use Rattle.pep508_requirement.specs.declared.requirement.Requirement.{Requirement}
use Rattle.pep508_requirement.specs.declared.version_or_url.VersionOrUrl.{VersionOrUrl}
use Rattle.pep508_requirement.specs.declared.version_or_url.VersionOrUrl.TheVariants as asked
use Rattle.pep508_requirement.specs.RequirementReading.{AsksFor, RefusedBy, ReadsRequirement}
use Rattle.pep508_requirement.specs.RequirementText.{IsMarkedText, IsOfText}
use Rattle.pep508_requirement_ref.specs.RequirementPrint.{requirement_text}
use Rattle.pep508_requirement_ref.specs.Views.{printed, source_of}
use Rattle.pep508_requirement_ref.specs.declared.requirement_ref.RequirementRef.{RequirementRef}
use Rattle.pep508_reading_back.specs.ReadableRequirements.{IsReadableFront, IsReadableSource}
use Rattle.pep508_reading_back.specs.Views.{AsksAgain, IsReadableAsked, IsReadableView, IsWantOfMemory}
use Rattle.pep508_reading_back.specs.Views.{ReadsBack}
use Rattle.pep508_reading_back.proofs.ReadRequirements.{WrittenIsRead, one_answer, written_again}
use Rattle.pep508_reading_back.proofs.Requirements.{requirement_read}
use Rattle.pep508_reading_back.proofs.SortedLists.{in_order_again}
use Rattle.pep508_tree.specs.Meaning.{NodeRecord}
use Rattle.pep508_tree_ref.specs.Lent.{tree_in}
use Rattle.pep508_tree_ref.specs.TreeIn.{diagram_in}
use Rattle.pep508_url.specs.Vars.{Variables}

-- what is written is not refused by the grammar
abbrev pub WrittenIsTaken : {T E : Type 0} → (List ℕ → Result T E → Type 0) → (E → Bool) → Variables → Type 0
WrittenIsTaken {T} {E} Reads lacks vars =
    (text : List ℕ) (source : Pep508ErrorSource T E) → RefusedBy Reads lacks vars text source →
    IsOfText source
    → (front : Front) (marker : Marker) → IsMarkedText text front marker → ⊥

-- ---- refusals

source_same : (found other : Front × List ℕ) (text : List ℕ) → front_reading text ≡ Ok found →
    front_reading text ≡ Ok other → found.0.source ≡ other.0.source
source_same found other text e h =
    let same : found ≡ other = one_answer found other (front_reading text) e h in
    ap (λ (q : Front × List ℕ). q.0.source) same

no_url : (source : Source) (url : List ℕ) → IsReadableSource source → source ≡ Url url → ⊥
no_url Any url h e = cc
no_url (Specifiers given) url h e = cc
no_url (Url other) url h e = h

wants_memory : {T E : Type 0} (Reads : List ℕ → Result T E → Type 0) (lacks : E → Bool) (vars : Variables)
    (written : WrittenIsRead) (taken : WrittenIsTaken Reads lacks vars) (text : List ℕ) (front : Front)
    (marker : Marker) →
    IsReadableSource front.source → IsMarkedText text front marker → (source : Pep508ErrorSource T E) →
    RefusedBy Reads lacks vars text source → IsWantOfMemory source
wants_memory Reads lacks vars written taken text front marker good m sources.Memory h = tt
wants_memory Reads lacks vars written taken text front marker good m (sources.String message) h =
    absurd (taken text (sources.String message) h tt front marker m)
wants_memory Reads lacks vars written taken text front marker good m
    (sources.UnsupportedRequirement message) h =
    absurd (taken text (sources.UnsupportedRequirement message) h tt front marker m)
wants_memory Reads lacks vars written taken text front marker good m sources.NumberAtEnd h =
    absurd (taken text sources.NumberAtEnd h tt front marker m)
wants_memory Reads lacks vars written taken text front marker good m (sources.UrlError error) h =
    let w = written text front marker m in
    absurd
    (no_url front.source h.url good
    (source_same (front, w.0) (h.front, h.rest) text w.1 h.reading ∙ h.source))

-- ---- what is shown

abbrev pub shown_front : {T E : Type 0} → RequirementRef T E → Source → Front
shown_front shown source = record { name = shown.name.now; extras = shown.extras.now; source = source }

nothing_again : {T E : Type 0} (Reads : List ℕ → Result T E → Type 0) (other : Option (VersionOrUrl T E)) →
    AsksFor Reads Any other → AsksAgain None other
nothing_again Reads None h = tt
nothing_again Reads (Some other) h = h

specifiers_again : {T E : Type 0} (Reads : List ℕ → Result T E → Type 0) (list : List SpecifierRecord) →
    IsByVersion list → (other : Option (VersionOrUrl T E)) → AsksFor Reads (Specifiers list) other
    → AsksAgain (Some (asked.VersionSpecifier list)) other
specifiers_again Reads list sorted None h = h
specifiers_again Reads list sorted (Some (asked.Url url)) h = h
specifiers_again Reads list sorted (Some (asked.VersionSpecifier other)) h =
    sym (in_order_again list other sorted h)

-- what is read, by what was asked for: a tree of a marker of which this is said
abbrev pub SaysAt : {T E : Type 0} → List NodeRecord → RequirementRef T E → (Marker → Type 0)
    → Option (VersionOrUrl T E) → Result (Requirement T E) (Pep508Error T E) → Type 0
SaysAt nodes shown Said what (Ok r) =
    (r.name ≡ shown.name.now) × (r.extras.items ≡ shown.extras.now) × AsksAgain what r.version_or_url
    × (marker : Marker) × Said marker × IsTreeOf nodes r.marker marker.formula
SaysAt nodes shown Said what (Err error) = IsWantOfMemory error.message

-- the text of a front and a marker is that of one of which this is said
abbrev pub MakesMarker : Option (List ℕ) → (Marker → Type 0) → Type 0
MakesMarker text Said =
    (front : Front) → IsReadableFront front
    → (marker : Marker) × IsMarkedText (requirement_text front text) front marker × Said marker

pub the_text : (text other : List ℕ) → Some text ≡ Some other → text ≡ other
the_text text other e = cc

-- names in normal form, and no URL
pub record IsReadableShown {T E : Type 0} (shown : RequirementRef T E) (what : Option (VersionOrUrl T E))
    : Type 0 where
  pub name : name_of shown.name.now ≡ Some shown.name.now
  pub extras : AllByRecursion (λ name. name_of name ≡ Some name) shown.extras.now
  pub asked : IsReadableAsked what

module _ {T E : Type 0} (Reads : List ℕ → Result T E → Type 0) (lacks : E → Bool) (vars : Variables)
    (nodes : List NodeRecord) (written : WrittenIsRead) (taken : WrittenIsTaken Reads lacks vars)
    (shown : RequirementRef T E) where
  -- what is read of a text, where this was asked for
  abbrev Says : (Marker → Type 0) → Option (VersionOrUrl T E) → List ℕ → Type 0
  Says Said what text =
      (result : Result (Requirement T E) (Pep508Error T E))
      → ReadsRequirement Reads lacks vars nodes text result → SaysAt nodes shown Said what result

  by_front : (what : Option (VersionOrUrl T E)) (source : Source) →
      ((other : Option (VersionOrUrl T E)) → AsksFor Reads source other → AsksAgain what other) →
      IsReadableSource source → (Said : Marker → Type 0) (marker : Marker) → Said marker →
      (text : List ℕ) → IsMarkedText text (shown_front shown source) marker → Says Said what text
  by_front what source same good Said marker says text m (Ok r) h =
      let again = written_again written Reads nodes text (shown_front shown source) marker r m h in
      (again.0, again.1, same r.version_or_url again.2, marker, says, again.3)
  by_front what source same good Said marker says text m (Err error) h =
      wants_memory Reads lacks vars written taken text (shown_front shown source) marker good m error.message
      h.cause

  by_source : (what : Option (VersionOrUrl T E)) (source : Source) →
      ((other : Option (VersionOrUrl T E)) → AsksFor Reads source other → AsksAgain what other) →
      IsReadableFront (shown_front shown source) → (behind : Option (List ℕ)) (Said : Marker → Type 0) →
      MakesMarker behind Said → (text : List ℕ) →
      Some (requirement_text (shown_front shown source) behind) ≡ Some text → Says Said what text
  by_source what source same good behind Said makes text e =
      let front = shown_front shown source in
      let made = makes front good in
      by_front what source same good.is_source Said made.0 made.2 text
      (subst (λ t. IsMarkedText t front made.0) (the_text (requirement_text front behind) text e) made.1)

  by_asked : (output : T → Option (List ℕ)) (what : Option (VersionOrUrl T E)) → IsReadableShown shown what →
      (behind : Option (List ℕ)) (Said : Marker → Type 0) → MakesMarker behind Said → (text : List ℕ) →
      option_map (λ front. requirement_text front behind)
      (option_map (shown_front shown) (source_of output what)) ≡ Some text → Says Said what text
  by_asked output None good behind Said makes text e =
      by_source None Any (nothing_again Reads)
      (record { is_name = good.name; are_names = good.extras; is_source = tt }) behind Said makes text e
  by_asked output (Some (asked.VersionSpecifier list)) good behind Said makes text e =
      by_source (Some (asked.VersionSpecifier list)) (Specifiers list)
      (specifiers_again Reads list good.asked.1)
      (record { is_name = good.name; are_names = good.extras; is_source = (good.asked.0, good.asked.2) })
      behind Said makes text e
  by_asked output (Some (asked.Url url)) good behind Said makes text e = absurd good.asked

  -- what is printed is read again, if its marker is
  pub shown_again : (output : T → Option (List ℕ)) → IsReadableShown shown shown.version_or_url.now →
      (Said : Marker → Type 0) → MakesMarker (marker_text (diagram_in (tree_in shown.marker))) Said →
      (text : List ℕ) → printed output shown ≡ Some text → Says Said shown.version_or_url.now text
  shown_again output good Said makes text e =
      by_asked output shown.version_or_url.now good (marker_text (diagram_in (tree_in shown.marker))) Said
      makes text e

said_back : {T E : Type 0} (nodes : List NodeRecord) (shown : RequirementRef T E)
    (result : Result (Requirement T E) (Pep508Error T E)) →
    SaysAt nodes shown (SaysDiagram (diagram_in (tree_in shown.marker))) shown.version_or_url.now result →
    ReadsBack nodes shown result
said_back nodes shown (Ok r) h =
    record { front = record { name = h.0; extras = h.1; asks = h.2 }; marker = λ v. h.5.truth v ∙ h.4 v }
said_back nodes shown (Err error) h = h

pub view_reads_back : {T E : Type 0} (Reads : List ℕ → Result T E → Type 0) (lacks : E → Bool)
    (vars : Variables) (nodes : List NodeRecord) (written : WrittenIsRead)
    (taken : WrittenIsTaken Reads lacks vars) (output : T → Option (List ℕ)) (shown : RequirementRef T E) →
    IsCanonical (diagram_in (tree_in shown.marker)) → IsReadableView shown → (text : List ℕ) →
    printed output shown ≡ Some text → (result : Result (Requirement T E) (Pep508Error T E)) →
    ReadsRequirement Reads lacks vars nodes text result → ReadsBack nodes shown result
view_reads_back Reads lacks vars nodes written taken output shown c good text e result h =
    let d = diagram_in (tree_in shown.marker) in
    said_back nodes shown result
    (shown_again Reads lacks vars nodes written taken shown output
    (record { name = good.name; extras = good.extras; asked = good.asked }) (SaysDiagram d)
    (λ front readable. requirement_read front d readable c good.marker good.sometimes) text e result h)
