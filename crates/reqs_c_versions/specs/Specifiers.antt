-- The replies on the texts of lists of specifiers (PEP 440).
use Rattle.std.specs.Prelude.{◌≡◌, ◌⊎◌, ℕ, ◌-◌, true, if◌then◌else◌, List, [], ◌∷◌, ◌++◌, map, Option, Some}
use Rattle.std.specs.Prelude.{None, Ok, Err}
use Rattle.std.specs.List.{flat_map}
use Rattle.std.specs.Str.{is_utf8}
use Rattle.pep440_version.specs.Record.{VersionRecord}
use Rattle.pep440_specifier.specs.Matching.{SpecifierRecord}
use Rattle.pep440_specifier.specs.SpecifierPrint.{specifier_text}
use Rattle.pep440_specifier.specs.SpecifierReading.{told_specifier}
use Rattle.pep440_specifier.specs.SpecifierErrorPrints.{specifier_error_text}
use Rattle.pep440_specifier.specs.declared.parse_error.VersionSpecifierParseError.{VersionSpecifierParseError}
use Rattle.pep440_specifier_list.specs.Lists.{matches_all}
use Rattle.pep440_specifier_list.specs.ListReading.{ListFault, list_reading, ReadsList}
use Rattle.reqs_c_reply.specs.declared.place.Place.{Place}
use Rattle.reqs_c_reply.specs.Endings.{Ending, EndsIn, span, IsNotText}
use Rattle.reqs_c_reply.specs.Lines.{batch_lines}
use Rattle.reqs_c_versions.specs.Versions.{version_in}

-- bytes are the text of this list, whose specifiers are in the order of their versions
abbrev pub IsListIn : List ℕ → List SpecifierRecord → Type 0
IsListIn bytes list = (is_utf8 bytes ≡ true) × ReadsList (Ok list) bytes

-- the argument of this number is a text whose first invalid piece is at this place, and the message is its
-- fault
pub record IsNoList (input : ℕ) (bytes : List ℕ) (place : Place) (message : List ℕ) : Type 0 where
  pub fault : ListFault
  pub error : VersionSpecifierParseError
  pub is_utf8_text : is_utf8 bytes ≡ true
  pub reading : list_reading bytes ≡ Err fault
  pub tells : told_specifier error ≡ Some fault.fault
  pub stands : place ≡ span input fault.start (fault.end - fault.start)
  pub says : message ≡ specifier_error_text error

-- why the argument of this number is refused
abbrev pub RefusesList : ℕ → List ℕ → Place → List ℕ → Type 0
RefusesList input bytes place message =
    IsNotText input bytes place message ⊎ IsNoList input bytes place message

-- ---- members

-- each text on a line of its own
abbrev pub as_lines : List (List ℕ) → List ℕ
as_lines texts = flat_map (λ text. text ++ (10 ∷ [])) texts

-- the text has the specifiers of the list in these bytes
pub record AreMembers (bytes text : List ℕ) : Type 0 where
  pub members : List SpecifierRecord
  pub is_list : IsListIn bytes members
  pub is_text : text ≡ as_lines (map specifier_text members)

-- how a call for the specifiers of a list ends
abbrev pub SpecifiersEnd : List ℕ → Ending → Type 0
SpecifiersEnd bytes = EndsIn (AreMembers bytes) (RefusesList 1 bytes)

-- ---- matching

-- `1` if the list accepts the version, `0` if it doesn't, `?` if there is none
abbrev pub taken_mark : List SpecifierRecord → Option VersionRecord → ℕ
taken_mark members None = 63
taken_mark members (Some version) = if matches_all members version then 49 else 48

-- the text has a byte for each line, by the version on the line
pub record AreTaken (bytes versions text : List ℕ) : Type 0 where
  pub members : List SpecifierRecord
  pub is_list : IsListIn bytes members
  pub is_text : text ≡ map (λ line. taken_mark members (version_in line)) (batch_lines versions)

-- how a call for which versions a list accepts ends
abbrev pub TakesEnd : List ℕ → List ℕ → Ending → Type 0
TakesEnd bytes versions = EndsIn (AreTaken bytes versions) (RefusesList 1 bytes)
