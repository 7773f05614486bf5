-- What requirements on a package say together, as bytes that are the same exactly where that is.
use Rattle.std.specs.Prelude.{◌≡◌, ◌++◌, ℕ, Bool, List, [], ◌∷◌, if◌then◌else◌}
use Rattle.std.specs.List.{list_any}
use Rattle.std.specs.List.Sorted.{IsStrictlySortedBy}
use Rattle.std.specs.Ordering.{nat_cmp}
use Rattle.std.specs.Cmp.Lexicographic.{slice_cmp}
use Rattle.std.specs.Str.{bytes_eq}
use Rattle.version_ranges.specs.Point.{Point, BelowAll, At, JustAbove}
use Rattle.version_ranges.specs.Held.{IsNormal, holds_at}
use Rattle.pep440_version.specs.Record.{VersionRecord}
use Rattle.pep440_version.specs.Order.{version_cmp}
use Rattle.pep440_key.specs.Key.{component_bytes, version_bytes}
use Rattle.pep508_marker_key.specs.Told.{listed_bytes}
use Rattle.pep508_requirement_text.specs.FrontReading.{Front}
use Rattle.reqtable_answer.specs.Asks.{has_extra, names_prerelease}
use Rattle.reqtable_cases.specs.Usable.{points_of}

-- a place where a range begins or ends: below all versions, at one, or just above one
abbrev pub point_bytes : Point VersionRecord → List ℕ
point_bytes BelowAll = 2 ∷ []
point_bytes (At version) = 0 ∷ version_bytes version
point_bytes (JustAbove version) = 1 ∷ version_bytes version

abbrev pub flag_bytes : Bool → List ℕ
flag_bytes flag = if flag then 1 ∷ [] else 0 ∷ []

-- a package's name, extras, a range, and whether a pre-release is named
unfoldable pub head_bytes : List ℕ → List (List ℕ) → List (Point VersionRecord) → Bool → List ℕ
head_bytes name extras range prerelease =
    component_bytes name
    ++ (listed_bytes component_bytes extras ++ (listed_bytes point_bytes range ++ flag_bytes prerelease))

-- bytes are those of what these requirements say of a package: their extras, each once and in the order of
-- their bytes, the range in which all their specifiers' ranges meet (PEP 440, "Version specifiers"), in its one
-- form, and whether one of them names a pre-release
pub record IsHead (name : List ℕ) (asks : List Front) (bytes : List ℕ) : Type 0 where
  pub extras : List (List ℕ)
  pub range : List (Point VersionRecord)
  pub rising : IsStrictlySortedBy (slice_cmp nat_cmp) extras
  pub has : (extra : List ℕ) → list_any (bytes_eq extra) extras ≡ list_any (has_extra extra) asks
  pub normal : IsNormal version_cmp range
  pub points : (p : Point VersionRecord) → holds_at version_cmp range p ≡ points_of asks p
  pub is : bytes ≡ head_bytes name extras range (names_prerelease asks)
