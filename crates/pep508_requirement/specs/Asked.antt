-- The specifiers or the URL of a requirement.
use Rattle.std.specs.Prelude.{ℕ, List, Option, Some}
use Rattle.pep440_specifier_list.specs.ListText.{list_text}
use Rattle.pep508_requirement.specs.declared.version_or_url.VersionOrUrl.{VersionOrUrl}
use Rattle.pep508_requirement.specs.declared.version_or_url.VersionOrUrl.TheVariants as asked
use Rattle.pep508_requirement.specs.declared.version_or_url.VersionOrUrlRef.{VersionOrUrlRef}
use Rattle.pep508_requirement.specs.declared.version_or_url.VersionOrUrlRef.TheVariants as refs

-- the borrowed value
abbrev pub lent : {T E : Type 0} → VersionOrUrlRef T E → VersionOrUrl T E
lent (refs.VersionSpecifier list) = asked.VersionSpecifier list.now
lent (refs.Url url) = asked.Url url.now

-- its print, where a URL prints so
abbrev pub asked_text : {T E : Type 0} → (T → Option (List ℕ)) → VersionOrUrl T E → Option (List ℕ)
asked_text output (asked.VersionSpecifier list) = Some (list_text list)
asked_text output (asked.Url url) = output url
