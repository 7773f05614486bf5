-- The specifiers of a line.
use Rattle.std.specs.Prelude.{List, [], Option, Some, None}
use Rattle.pep440_specifier.specs.Matching.{SpecifierRecord}
use Rattle.pep508_url.specs.UrlTexts.{Verbatim}
use Rattle.pep508_url.specs.declared.url_error.VerbatimUrlError.{VerbatimUrlError}
use Rattle.pep508_requirement.specs.declared.version_or_url.VersionOrUrl.{VersionOrUrl}
use Rattle.pep508_requirement.specs.declared.version_or_url.VersionOrUrl.TheVariants.{VersionSpecifier, Url}
use Rattle.reqtable_requirements.specs.declared.requirements.Line.{Line}

abbrev pub specifiers_by : Option (VersionOrUrl Verbatim VerbatimUrlError) → List SpecifierRecord
specifiers_by None = []
specifiers_by (Some (VersionSpecifier list)) = list
specifiers_by (Some (Url url)) = []

-- the specifiers of a line; none if it accepts any version or requires a URL
abbrev pub specifiers_in : Line → List SpecifierRecord
specifiers_in line = specifiers_by line.requirement.version_or_url
