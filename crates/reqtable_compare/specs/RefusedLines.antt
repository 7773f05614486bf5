-- Parsed lines that can't be compared.
use Rattle.std.specs.Prelude.{Bool, List, [], ◌∷◌, Option, Some, None, is_none}
use Rattle.pep440_specifier.specs.Matching.{SpecifierRecord}
use Rattle.pep440_range.specs.Ranges.{range_of}
use Rattle.pep508_url.specs.UrlTexts.{Verbatim}
use Rattle.pep508_url.specs.declared.url_error.VerbatimUrlError.{VerbatimUrlError}
use Rattle.pep508_requirement.specs.declared.version_or_url.VersionOrUrl.{VersionOrUrl}
use Rattle.pep508_requirement.specs.declared.version_or_url.VersionOrUrl.TheVariants.{VersionSpecifier, Url}
use Rattle.reqtable_requirements.specs.declared.requirements.Line.{Line}
use Rattle.reqtable_compare.specs.declared.refusing.Refused.{Refused}
use Rattle.reqtable_compare.specs.declared.sides.LineCause.{LineCause}
use Rattle.reqtable_compare.specs.declared.sides.LineCause.TheVariants as causes
use Rattle.reqtable_compare.specs.declared.sides.Side.{Side}
use Rattle.reqtable_compare.specs.Refusals.{Refusal, members_cause, refused_by}

abbrev pub refused_seen : Refused → Refusal
refused_seen refused =
    record { side = refused.side; number = refused.number; cause = refused.cause }

abbrev pub is_unranged : SpecifierRecord → Bool
is_unranged s = is_none (range_of s)

abbrev pub cause_by : Option (VersionOrUrl Verbatim VerbatimUrlError) → Option LineCause
cause_by None = None
cause_by (Some (VersionSpecifier list)) = members_cause list
cause_by (Some (Url url)) = Some causes.Url

abbrev pub line_cause_in : Line → Option LineCause
line_cause_in line = cause_by line.requirement.version_or_url

-- the first refusal in parsed lines, or else the later one
abbrev pub lines_refusal : Side → List Line → Option Refusal → Option Refusal
lines_refusal side [] later = later
lines_refusal side (line ∷ lines) later =
    refused_by side line.number (line_cause_in line) (lines_refusal side lines later)
