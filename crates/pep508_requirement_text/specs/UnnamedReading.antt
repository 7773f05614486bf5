-- The reading of the front of a requirement without a name: a URL, and the extras at its end.
use Rattle.std.specs.Prelude.{◌≡◌, ◌⊎◌, ◌<◌, ℕ, true, List, [], length, Option, Some, None, Ok, Err}
use Rattle.std.specs.Prelude.{encode_utf8_all}
use Rattle.std.specs.Str.{chars, skip_leading_whitespace}
use Rattle.pep508_url.specs.Splits.{IsExtrasSplit}
use Rattle.pep508_requirement_text.specs.UrlEnds.{url_split}
use Rattle.pep508_requirement_text.specs.FrontReading.{Reading, extras_of}
use Rattle.pep508_requirement_text.specs.FrontReading.Refused.{Malformed}

-- a URL, and normal names
pub record UnnamedFront : Type 0 where
  pub url : List ℕ
  pub extras : List (List ℕ)

-- the characters of a URL after white space, and those that follow it
abbrev pub url_at : List ℕ → List ℕ × List ℕ
url_at text = url_split true 0 (skip_leading_whitespace (chars text))

-- the text is a URL and extras at its end, and these are the names between the brackets; without such
-- extras it is the URL, and there are no names
abbrev pub HasExtras : List ℕ → List ℕ → Option (List (List ℕ)) → Type 0
HasExtras text url names =
    ((brackets : List ℕ) × (split : IsExtrasSplit text url brackets) × (extras_of split.inside ≡ names))
    ⊎ ((url ≡ text) × (names ≡ Some []) × ((front back : List ℕ) → IsExtrasSplit text front back → ⊥))

-- there is this to read at the front of the text
abbrev pub IsUnnamedReading : List ℕ → Reading UnnamedFront → Type 0
IsUnnamedReading text (Ok found) =
    (0 < length (url_at text).0)
    × HasExtras (encode_utf8_all (url_at text).0) found.0.url (Some found.0.extras)
    × (found.1 ≡ (url_at text).1)
IsUnnamedReading text (Err refused) =
    (refused ≡ Malformed)
    × (((url_at text).0 ≡ []) ⊎ ((url : List ℕ) × HasExtras (encode_utf8_all (url_at text).0) url None))
