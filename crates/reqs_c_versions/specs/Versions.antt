-- The replies on the texts of versions (PEP 440).
use Rattle.std.specs.Prelude.{◌≡◌, ◌⊎◌, ℕ, ℤ, pos, negsuc, true, if◌then◌else◌, List, codes, length}
use Rattle.std.specs.Prelude.{Option, Some, None}
use Rattle.std.specs.Prelude.{Err}
use Rattle.std.specs.Str.{is_utf8}
use Rattle.std.specs.declared.cmp.Ordering.{Ordering}
use Rattle.std.specs.declared.cmp.Ordering.TheVariants.{Less, Equal, Greater}
use Rattle.pep440_version.specs.Record.{VersionRecord}
use Rattle.pep440_version.specs.Reading.{version_of}
use Rattle.pep440_version.specs.Print.{version_text}
use Rattle.pep440_version.specs.Order.{version_cmp}
use Rattle.pep440_version.specs.VersionReading.{VersionFault, version_reading, told_version}
use Rattle.pep440_version.specs.ErrorPrints.{version_error_text}
use Rattle.pep440_version.specs.declared.parse_error.VersionParseError.{VersionParseError}
use Rattle.pep440_key.specs.Key.{version_bytes}
use Rattle.reqs_c_reply.specs.declared.place.Place.{Place}
use Rattle.reqs_c_reply.specs.Endings.{Ending, EndsIn, span, written, IsNotText}

-- the version in these bytes, if they are the text of one
unfoldable pub version_in : List ℕ → Option VersionRecord
version_in bytes = if is_utf8 bytes then version_of bytes else None

-- the text is the normal one of the version in these bytes
pub record IsNormalText (bytes text : List ℕ) : Type 0 where
  pub version : VersionRecord
  pub is_version : version_in bytes ≡ Some version
  pub is_text : text ≡ version_text version

-- the argument of this number is a text that is refused for its first fault, which is in the message
pub record IsNoVersion (input : ℕ) (bytes : List ℕ) (place : Place) (message : List ℕ) : Type 0 where
  pub fault : VersionFault
  pub error : VersionParseError
  pub is_utf8_text : is_utf8 bytes ≡ true
  pub reading : version_reading bytes ≡ Err fault
  pub tells : told_version error ≡ Some fault
  pub stands : place ≡ span input 0 (length bytes)
  pub says : message ≡ version_error_text error

-- why the argument of this number is refused
abbrev pub RefusesVersion : ℕ → List ℕ → Place → List ℕ → Type 0
RefusesVersion input bytes place message =
    IsNotText input bytes place message ⊎ IsNoVersion input bytes place message

-- how a call for the normal text of a version ends
abbrev pub VersionEnds : List ℕ → Ending → Type 0
VersionEnds bytes = EndsIn (IsNormalText bytes) (RefusesVersion 1 bytes)

-- ---- order

-- the sign of an order
abbrev pub order_text : Ordering → List ℕ
order_text Less = codes "<"
order_text Equal = codes "="
order_text Greater = codes ">"

-- the text is how the versions of two texts compare
pub record IsOrder (left right text : List ℕ) : Type 0 where
  pub first : VersionRecord
  pub second : VersionRecord
  pub is_first : version_in left ≡ Some first
  pub is_second : version_in right ≡ Some second
  pub says : text ≡ order_text (version_cmp first second)

-- the second argument is refused, and the first is a version
pub record RefusesSecond (left right : List ℕ) (place : Place) (message : List ℕ) : Type 0 where
  pub version : VersionRecord
  pub is_version : version_in left ≡ Some version
  pub refuses : RefusesVersion 2 right place message

-- why one of two arguments is refused: the first before the second
abbrev pub RefusesVersions : List ℕ → List ℕ → Place → List ℕ → Type 0
RefusesVersions left right place message =
    RefusesVersion 1 left place message ⊎ RefusesSecond left right place message

-- how a call for the order of two versions ends
abbrev pub OrderEnds : List ℕ → List ℕ → Ending → Type 0
OrderEnds left right = EndsIn (IsOrder left right) (RefusesVersions left right)

-- ---- keys

-- the result for a version's key: -2 if there is none, and nothing is written; or its length, and its prefix
-- that fits is written
abbrev pub KeyGiven : Option VersionRecord → List ℕ → List ℕ → ℤ → Type 0
KeyGiven None old new code = (code ≡ negsuc 1) × (new ≡ old)
KeyGiven (Some version) old new code =
    (code ≡ pos (length (version_bytes version))) × (new ≡ written (version_bytes version) old)

-- a key's prefix that fits is written, and its length returned; or nothing is written
abbrev pub IsWritten : List ℕ → List ℕ → List ℕ → ℤ → Type 0
IsWritten key old new code =
    ((code ≡ negsuc 2) × (new ≡ old)) ⊎ ((code ≡ pos (length key)) × (new ≡ written key old))

-- the result for the key of a text's version; -3 means that memory ran out, which may happen at any time, and
-- then nothing is written
abbrev pub IsKey : List ℕ → List ℕ → List ℕ → ℤ → Type 0
IsKey bytes old new code =
    ((code ≡ negsuc 2) × (new ≡ old)) ⊎ KeyGiven (version_in bytes) old new code
