-- The versions whose print is read as them.
use Rattle.std.specs.Prelude.{◌≡◌, ℕ, ◌<◌, ◌≤◌, ◌^◌, true, IsTrue, List, length, map, None}
use Rattle.std.specs.Char.{is_ascii_alphanumeric, to_ascii_lowercase}
use Rattle.std.specs.List.{AllByRecursion}
use Rattle.std.specs.Str.{all_ascii_digits}
use Rattle.std.specs.Str.Parse.{digits_value}
use Rattle.pep440_text.specs.Record.{Segment, Text, Number, VersionRecord}
use Rattle.pep440_text.specs.Text.{Fits}

-- letters and digits, in lower case, that are no number of 64 bits (PEP 440, "Local version identifiers")
pub record IsPrintableText (bytes : List ℕ) : Type 0 where
  pub nonempty : 0 < length bytes
  pub letters : AllByRecursion (λ b. IsTrue (is_ascii_alphanumeric b)) bytes
  pub lower : map to_ascii_lowercase bytes ≡ bytes
  pub no_number : all_ascii_digits bytes ≡ true → 2 ^ 64 ≤ digits_value 10 bytes

abbrev pub IsPrintableSegment : Segment → Type 0
IsPrintableSegment (Text bytes) = IsPrintableText bytes
IsPrintableSegment (Number number) = number < 2 ^ 64

-- a version without a mark as a range's end, and whose numbers and segments a text can contain (PEP 440,
-- "Version scheme")
pub record IsPrintable (version : VersionRecord) : Type 0 where
  pub no_least : version.least ≡ None
  pub no_most : version.most ≡ None
  pub some_number : 0 < length version.release
  pub fits : Fits version
  pub segments : AllByRecursion IsPrintableSegment version.local
