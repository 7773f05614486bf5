-- The replies on the texts of requirements (PEP 508, "Grammar").
use Rattle.std.specs.Prelude.{◌≡◌, ◌⊎◌, ℕ, true, List, [], ◌∷◌, ◌++◌, codes, length, unwrap_or, Option}
use Rattle.std.specs.Prelude.{Some, None, Result, encode_utf8_all}
use Rattle.std.specs.Fmt.{decimal}
use Rattle.std.specs.List.{join_with_byte}
use Rattle.std.specs.Str.{is_utf8}
use Rattle.read_outcome.specs.Outcome.{Answers}
use Rattle.pep440_specifier_list.specs.ListText.{list_value_text}
use Rattle.pep508_url.specs.Lacking.{lacks_memory}
use Rattle.pep508_url.specs.UrlFaults.{told_url}
use Rattle.pep508_url.specs.UrlTexts.{Verbatim, verbatim_reading}
use Rattle.pep508_url.specs.Vars.{Variables}
use Rattle.pep508_url.specs.declared.url_error.VerbatimUrlError.{VerbatimUrlError}
use Rattle.pep508_requirement.specs.MarkedReading.{IsReadMarked}
use Rattle.pep508_requirement.specs.RequirementReading.{IsRefused}
use Rattle.pep508_requirement.specs.declared.marked_requirement.MarkedRequirement.{MarkedRequirement}
use Rattle.pep508_requirement.specs.declared.version_or_url.VersionOrUrl.{VersionOrUrl}
use Rattle.pep508_requirement.specs.declared.version_or_url.VersionOrUrl.TheVariants as asked
use Rattle.reqs_c_reply.specs.declared.place.Place.{Place}
use Rattle.reqs_c_reply.specs.Endings.{Ending, EndsIn, IsNotText}
use Rattle.reqs_c_markers.specs.Errors.{TextError, IsToldBy}

-- ---- reading

-- no environment variables are used, and relative paths are resolved against the root
abbrev pub no_variables : Variables
no_variables = record { pairs = []; project_root = codes "/" }

-- what may be returned for the text of a URL
abbrev pub ReadsUrl : List ℕ → Result Verbatim VerbatimUrlError → Type 0
ReadsUrl text outcome =
    Answers (λ url. url) told_url outcome
    (verbatim_reading no_variables text (Some no_variables.project_root))

-- ---- the parts

-- the specifiers with commas between them, and a URL as it is written, each on a line that is empty if there
-- is none
abbrev pub asked_lines : Option (VersionOrUrl Verbatim VerbatimUrlError) → List ℕ
asked_lines None = codes "\n\n"
asked_lines (Some (asked.VersionSpecifier list)) = list_value_text list ++ codes "\n\n"
asked_lines (Some (asked.Url url)) = codes "\n" ++ (unwrap_or url.given [] ++ codes "\n")

-- the name, extras with commas between them, specifiers, URL, each on a line
abbrev pub front_lines : MarkedRequirement Verbatim VerbatimUrlError → List ℕ
front_lines r =
    r.name ++ (codes "\n"
    ++ (join_with_byte 44 r.extras.items ++ (codes "\n" ++ asked_lines r.version_or_url)))

-- the text ends with these characters, which have `len` bytes, from byte `start` on
pub record EndsWith (text inside : List ℕ) (start len : ℕ) : Type 0 where
  pub before : List ℕ
  pub split : text ≡ before ++ encode_utf8_all inside
  pub starts : start ≡ length before
  pub counts : len ≡ length (encode_utf8_all inside)

-- the place of a marker in the text, by the characters that are left after the front and white space: all
-- that follows the first of them, the `;`
abbrev pub IsMarkerPlace : List ℕ → List ℕ → Option (ℕ × ℕ) → Type 0
IsMarkerPlace text [] None = Unit {0}
IsMarkerPlace text [] (Some place) = ⊥
IsMarkerPlace text (mark ∷ inside) None = ⊥
IsMarkerPlace text (mark ∷ inside) (Some place) = EndsWith text inside place.0 place.1

-- the first byte and the number of bytes; nothing if there is no marker
abbrev pub place_text : Option (ℕ × ℕ) → List ℕ
place_text None = []
place_text (Some place) = decimal place.0 ++ (codes " " ++ decimal place.1)

-- the parts are those of a requirement's front, each on a line, and then the place of its marker in the text,
-- by the characters that are left after the front
pub record HasParts (text left : List ℕ) (r : MarkedRequirement Verbatim VerbatimUrlError) (parts : List ℕ)
    : Type 0 where
  pub place : Option (ℕ × ℕ)
  pub stands : IsMarkerPlace text left place
  pub is_text : parts ≡ front_lines r ++ place_text place

-- these are the parts of the requirement in these bytes
pub record AreParts (bytes parts : List ℕ) : Type 0 where
  pub requirement : MarkedRequirement Verbatim VerbatimUrlError
  pub is_utf8_text : is_utf8 bytes ≡ true
  pub reads : IsReadMarked ReadsUrl bytes requirement
  pub has_parts : HasParts bytes reads.left requirement parts

-- bytes are a text that is not a requirement, for the reason of an error
pub record IsNoRequirement (bytes : List ℕ) (place : Place) (message : List ℕ) : Type 0 where
  pub error : TextError
  pub is_utf8_text : is_utf8 bytes ≡ true
  pub told : IsToldBy 1 error place message
  pub refused : IsRefused ReadsUrl lacks_memory no_variables bytes error

abbrev pub RefusesRequirement : List ℕ → Place → List ℕ → Type 0
RefusesRequirement bytes place message = IsNotText 1 bytes place message ⊎ IsNoRequirement bytes place message

-- how a call for the parts of a requirement ends
abbrev pub RequirementEnds : List ℕ → Ending → Type 0
RequirementEnds bytes = EndsIn (AreParts bytes) (RefusesRequirement bytes)
