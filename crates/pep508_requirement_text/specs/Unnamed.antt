-- Which texts look like a URL or a path where a package's name is wanted.
use Rattle.std.specs.Prelude.{◌≡◌, ◌⊎◌, ℕ, ◌==◌, ◌||◌, Bool, false, List, IsTrue, is_some}
use Rattle.std.specs.List.{list_any, slice_get}
use Rattle.std.specs.Option.{option_map_or}
use Rattle.pep508_url.specs.Vars.{Variables}
use Rattle.pep508_url.specs.Expansion.{expanded}
use Rattle.pep508_url.specs.Schemes.{scheme_split}
use Rattle.pep508_url.specs.Splits.{IsExtrasSplit}
use Rattle.pep508_requirement_text.specs.Archives.{is_archive}

-- a separator of a path's parts, on any system
abbrev pub is_slash : ℕ → Bool
is_slash b = b == 47 || b == 92

abbrev pub begins_with_dot : List ℕ → Bool
begins_with_dot text = option_map_or (λ b. b == 46) (slice_get text 0) false

-- the text begins with `.`, has a slash or a scheme, or is an archive
unfoldable pub looks_like_url : List ℕ → Bool
looks_like_url text =
    begins_with_dot text || list_any is_slash text || is_some (scheme_split text) || is_archive text

-- the text, or the text before the extras at its end
abbrev pub IsBeforeExtras : List ℕ → List ℕ → Type 0
IsBeforeExtras text url =
    ((extras : List ℕ) × IsExtrasSplit text url extras)
    ⊎ ((url ≡ text) × ((front extras : List ℕ) → IsExtrasSplit text front extras → ⊥))

-- the text, with variables expanded and its extras left out, looks like a URL or a path
pub record LooksUnnamed (vars : Variables) (text : List ℕ) : Type 0 where
  pub url : List ℕ
  pub before_extras : IsBeforeExtras (expanded vars text) url
  pub looks : IsTrue (looks_like_url url)
