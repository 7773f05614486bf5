-- The arguments other than markers: extras, and bounds of versions of Python.
use Rattle.std.specs.Prelude.{◌≡◌, ◌⊎◌, ℕ, true, List, [], ◌∷◌, ◌++◌, codes, length, Option, Some, None}
use Rattle.std.specs.Prelude.{Result, Ok, Err}
use Rattle.std.specs.Str.{is_utf8}
use Rattle.std.specs.declared.ops.Bound.{Bound}
use Rattle.std.specs.declared.ops.Bound.TheVariants.{Included, Excluded, Unbounded}
use Rattle.pep440_text.specs.Record.{VersionRecord}
use Rattle.pep440_version.specs.VersionReading.{VersionFault, version_reading, told_version}
use Rattle.pep440_version.specs.ErrorPrints.{version_error_text}
use Rattle.pep440_version.specs.declared.parse_error.VersionParseError.{VersionParseError}
use Rattle.pep508_name.specs.Name.{name_reading}
use Rattle.reqtable_candidates.specs.TextLines.{with_first}
use Rattle.reqs_c_reply.specs.declared.place.Place.{Place}
use Rattle.reqs_c_reply.specs.Endings.{span, IsNotText}
use Rattle.reqs_c_reply.specs.Lines.{filled_lines}

-- ---- extras

-- the names on lines, or the first line that is not a name
abbrev pub names_of : List (List ℕ) → Result (List (List ℕ)) (List ℕ)
names_of [] = Ok []
names_of (line ∷ lines) = with_first (name_reading line) (names_of lines)

-- bytes are these names, one per line
pub record AreNamesIn (bytes : List ℕ) (names : List (List ℕ)) : Type 0 where
  pub is_utf8_text : is_utf8 bytes ≡ true
  pub are_names : names_of (filled_lines bytes) ≡ Ok names

-- a line is not a name, and the message names it at the argument of this number
pub record IsNoName (input : ℕ) (names : Result (List (List ℕ)) (List ℕ)) (place : Place) (message : List ℕ)
    : Type 0 where
  pub line : List ℕ
  pub is_none : names ≡ Err line
  pub stands : place ≡ span input 0 0
  pub says : message ≡ codes "extra " ++ (line ++ codes " is no name")

-- the first line of bytes that is not a name is refused
pub record HasNoName (input : ℕ) (bytes : List ℕ) (place : Place) (message : List ℕ) : Type 0 where
  pub is_utf8_text : is_utf8 bytes ≡ true
  pub no_name : IsNoName input (names_of (filled_lines bytes)) place message

abbrev pub RefusesNames : ℕ → List ℕ → Place → List ℕ → Type 0
RefusesNames input bytes place message =
    IsNotText input bytes place message ⊎ HasNoName input bytes place message

-- ---- bounds

-- bytes are the text of this version (PEP 440, "Public version identifiers")
pub record IsVersionIn (bytes : List ℕ) (version : VersionRecord) : Type 0 where
  pub is_utf8_text : is_utf8 bytes ≡ true
  pub is_version : version_reading bytes ≡ Ok version

-- empty bytes are no version, and others are the text of one
abbrev pub IsVersionOrNone : List ℕ → Option VersionRecord → Type 0
IsVersionOrNone [] None = Unit {0}
IsVersionOrNone [] (Some version) = ⊥
IsVersionOrNone (b ∷ bytes) None = ⊥
IsVersionOrNone (b ∷ bytes) (Some version) = IsVersionIn (b ∷ bytes) version

-- the argument of this number is a text that is refused for its first fault, which is in the message
pub record IsNoVersion (input : ℕ) (bytes : List ℕ) (place : Place) (message : List ℕ) : Type 0 where
  pub fault : VersionFault
  pub error : VersionParseError
  pub is_utf8_text : is_utf8 bytes ≡ true
  pub reading : version_reading bytes ≡ Err fault
  pub tells : told_version error ≡ Some fault
  pub stands : place ≡ span input 0 (length bytes)
  pub says : message ≡ version_error_text error

abbrev pub RefusesVersion : ℕ → List ℕ → Place → List ℕ → Type 0
RefusesVersion input [] place message = ⊥
RefusesVersion input (b ∷ bytes) place message =
    IsNotText input (b ∷ bytes) place message ⊎ IsNoVersion input (b ∷ bytes) place message

-- the bound that includes this version; without one there is no bound
abbrev pub lower_bound : Option VersionRecord → Bound VersionRecord
lower_bound None = Unbounded
lower_bound (Some version) = Included version

-- the bound that excludes this version; without one there is no bound
abbrev pub upper_bound : Option VersionRecord → Bound VersionRecord
upper_bound None = Unbounded
upper_bound (Some version) = Excluded version
