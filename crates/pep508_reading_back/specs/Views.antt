-- Which requirements with their interner are read from their print, and the requirements that are read.
use Rattle.std.specs.Prelude.{◌≡◌, ◌≢◌, ◌<◌, false, List, length, Option, Some, None, Result, Ok, Err}
use Rattle.std.specs.List.{AllByRecursion}
use Rattle.pep440_specifier_list.specs.Lists.{IsByVersion}
use Rattle.pep508_name.specs.Name.{name_of}
use Rattle.pep508_diagram.specs.Diagram.{Leaf}
use Rattle.pep508_diagram.specs.Question.{Valuation, truth}
use Rattle.pep508_error.specs.declared.error.Pep508Error.{Pep508Error}
use Rattle.pep508_error.specs.declared.error.Pep508ErrorSource.{Pep508ErrorSource}
use Rattle.pep508_error.specs.declared.error.Pep508ErrorSource.TheVariants.{Memory}
use Rattle.pep508_tree.specs.Meaning.{NodeRecord, holds}
use Rattle.pep508_tree_ref.specs.Lent.{tree_in}
use Rattle.pep508_tree_ref.specs.TreeIn.{diagram_in}
use Rattle.pep508_requirement.specs.declared.requirement.Requirement.{Requirement}
use Rattle.pep508_requirement.specs.declared.version_or_url.VersionOrUrl.{VersionOrUrl}
use Rattle.pep508_requirement.specs.declared.version_or_url.VersionOrUrl.TheVariants as asked
use Rattle.pep508_requirement_ref.specs.declared.requirement_ref.RequirementRef.{RequirementRef}
use Rattle.pep508_reading_back.specs.Diagrams.{IsReadableDiagram}
use Rattle.pep508_reading_back.specs.Readable.{IsPrintableSpecifier}

-- nothing, or some specifiers, which are sorted by version as in each list of them, and no URL
abbrev pub IsReadableAsked : {T E : Type 0} → Option (VersionOrUrl T E) → Type 0
IsReadableAsked None = Unit {0}
IsReadableAsked (Some (asked.VersionSpecifier list)) =
    (0 < length list) × IsByVersion list × AllByRecursion IsPrintableSpecifier list
IsReadableAsked (Some (asked.Url url)) = ⊥

-- names in normal form, and a marker that sometimes holds
pub record IsReadableView {T E : Type 0} (shown : RequirementRef T E) : Type 0 where
  pub name : name_of shown.name.now ≡ Some shown.name.now
  pub extras : AllByRecursion (λ name. name_of name ≡ Some name) shown.extras.now
  pub asked : IsReadableAsked shown.version_or_url.now
  pub marker : IsReadableDiagram (diagram_in (tree_in shown.marker))
  pub sometimes : diagram_in (tree_in shown.marker) ≢ Leaf false

-- nothing where there was nothing, and the same specifiers
abbrev pub AsksAgain : {T E : Type 0} → Option (VersionOrUrl T E) → Option (VersionOrUrl T E) → Type 0
AsksAgain None None = Unit {0}
AsksAgain (Some (asked.VersionSpecifier given)) (Some (asked.VersionSpecifier list)) = given ≡ list
AsksAgain what other = ⊥

-- the requirement has the name, the extras and the specifiers that are shown
pub record HasFront {T E : Type 0} (shown : RequirementRef T E) (r : Requirement T E) : Type 0 where
  pub name : r.name ≡ shown.name.now
  pub extras : r.extras.items ≡ shown.extras.now
  pub asks : AsksAgain shown.version_or_url.now r.version_or_url

-- the requirement's parts are those that are shown, and its marker, a tree of these nodes, means what the
-- shown one does
pub record SaysShown {T E : Type 0} (nodes : List NodeRecord) (shown : RequirementRef T E)
    (r : Requirement T E) : Type 0 where
  pub front : HasFront shown r
  pub marker : (v : Valuation) → holds nodes r.marker v ≡ truth (diagram_in (tree_in shown.marker)) v

abbrev pub IsWantOfMemory : {T E : Type 0} → Pep508ErrorSource T E → Type 0
IsWantOfMemory Memory = Unit {0}
IsWantOfMemory source = ⊥

-- a requirement that means what is shown, or lack of memory
abbrev pub ReadsBack : {T E : Type 0} → List NodeRecord → RequirementRef T E
    → Result (Requirement T E) (Pep508Error T E) → Type 0
ReadsBack nodes shown (Ok r) = SaysShown nodes shown r
ReadsBack nodes shown (Err error) = IsWantOfMemory error.message
