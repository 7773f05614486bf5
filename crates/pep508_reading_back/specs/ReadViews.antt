-- Requirements that were read, with their interner, and the parts that are kept when their print is read
-- again.
use Rattle.std.specs.Prelude.{ℕ, List, Option, Some, None, Result, Ok, Err}
use Rattle.pep508_error.specs.declared.error.Pep508Error.{Pep508Error}
use Rattle.pep508_tree.specs.Meaning.{NodeRecord, Extends}
use Rattle.pep508_requirement.specs.declared.requirement.Requirement.{Requirement}
use Rattle.pep508_requirement.specs.declared.version_or_url.VersionOrUrl.{VersionOrUrl}
use Rattle.pep508_requirement.specs.declared.version_or_url.VersionOrUrl.TheVariants as asked
use Rattle.pep508_requirement.specs.RequirementReading.{IsRead}
use Rattle.pep508_requirement_ref.specs.declared.requirement_ref.RequirementRef.{RequirementRef}
use Rattle.pep508_requirement_ref.specs.Views.{IsViewOf}
use Rattle.pep508_reading_back.specs.Views.{HasFront, IsWantOfMemory}

-- no requirement, or specifiers, and no URL
abbrev pub AsksNoUrl : {T E : Type 0} → Option (VersionOrUrl T E) → Type 0
AsksNoUrl None = Unit {0}
AsksNoUrl (Some (asked.VersionSpecifier list)) = Unit {0}
AsksNoUrl (Some (asked.Url url)) = ⊥

-- the view shows a requirement that was read from this text; since then its origin may have been set, and
-- its interner may have added other nodes
pub record ShowsRead {T E : Type 0} (Reads : List ℕ → Result T E → Type 0) (text : List ℕ)
    (shown : RequirementRef T E) : Type 0 where
  pub old : List NodeRecord
  pub now : List NodeRecord
  pub requirement : Requirement T E
  pub is_read : IsRead Reads old text requirement
  pub keeps : Extends old now
  pub shows : IsViewOf now (record requirement { origin = shown.origin.now }) shown

-- a requirement that has the name, the extras and the specifiers that are shown, or lack of memory
abbrev pub KeepsFront : {T E : Type 0} → RequirementRef T E → Result (Requirement T E) (Pep508Error T E)
    → Type 0
KeepsFront shown (Ok r) = HasFront shown r
KeepsFront shown (Err error) = IsWantOfMemory error.message
