-- The front of the text of a requirement without a name: a URL with extras at its end.
use Rattle.std.specs.Prelude.{◌≡◌, ◌⊎◌, ℕ, true, List, [], ◌++◌, encode_utf8_all}
use Rattle.std.specs.Str.{chars}
use Rattle.pep440_specifier.specs.SpecifierText.{AreSpaces}
use Rattle.pep508_url.specs.Splits.{IsExtrasSplit}
use Rattle.pep508_requirement_text.specs.UrlEnds.{IsUrlBefore}
use Rattle.pep508_requirement_text.specs.FrontText.{IsInside}
use Rattle.pep508_requirement_text.specs.UnnamedReading.{UnnamedFront}

-- the characters are a URL and extras in the brackets with which they end; where they end in none, they are
-- the URL
abbrev pub EndsInExtras : List ℕ → List ℕ → List (List ℕ) → Type 0
EndsInExtras written url names =
    ((brackets : List ℕ) × (split : IsExtrasSplit written url brackets) × IsInside split.inside names)
    ⊎ ((url ≡ written) × (names ≡ []) × ((front back : List ℕ) → IsExtrasSplit written front back → ⊥))

-- the text is that of this front, and these characters follow it
pub record IsUnnamedText (text : List ℕ) (front : UnnamedFront) (rest : List ℕ) : Type 0 where
  pub before : List ℕ
  pub written : List ℕ
  pub url : List ℕ
  pub split : chars text ≡ before ++ (written ++ rest)
  pub spaces : AreSpaces before
  pub ends : IsUrlBefore true written rest
  pub extras : EndsInExtras written url front.extras
  pub encoded : front.url ≡ encode_utf8_all url

-- the text is that of a requirement without a name and without a marker
abbrev pub IsUnnamedRequirementText : List ℕ → UnnamedFront → Type 0
IsUnnamedRequirementText text front = (rest : List ℕ) × IsUnnamedText text front rest × AreSpaces rest
