-- Requirements as values.
use Rattle.std.specs.Prelude.{◌≡◌, Option, Some, None, option_map}
use Rattle.pep508_name.specs.Origin.{origin_of}
use Rattle.pep508_requirement.specs.declared.requirement.Requirement.{Requirement}
use Rattle.pep508_requirement.specs.declared.unnamed.UnnamedRequirement.{UnnamedRequirement}
use Rattle.pep508_requirement.specs.declared.version_or_url.VersionOrUrl.{VersionOrUrl}
use Rattle.pep508_requirement.specs.declared.version_or_url.VersionOrUrl.TheVariants as asked

-- a URL is left out
abbrev pub without_url : {T E : Type 0} → Option (VersionOrUrl T E) → Option (VersionOrUrl T E)
without_url None = None
without_url (Some (asked.VersionSpecifier list)) = Some (asked.VersionSpecifier list)
without_url (Some (asked.Url url)) = None

-- the one has the same parts as the other
pub record IsCopy {T E : Type 0} (copy original : Requirement T E) : Type 0 where
  pub name : copy.name ≡ original.name
  pub extras : copy.extras.items ≡ original.extras.items
  pub version_or_url : copy.version_or_url ≡ original.version_or_url
  pub marker : copy.marker ≡ original.marker
  pub origin : option_map origin_of copy.origin ≡ option_map origin_of original.origin

pub record IsUnnamedCopy {T E : Type 0} (copy original : UnnamedRequirement T E) : Type 0 where
  pub url : copy.url ≡ original.url
  pub extras : copy.extras.items ≡ original.extras.items
  pub marker : copy.marker ≡ original.marker
  pub origin : option_map origin_of copy.origin ≡ option_map origin_of original.origin
