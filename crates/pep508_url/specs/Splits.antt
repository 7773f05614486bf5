-- The host before a path of a `file` URL, and the extras after a URL.
use Rattle.std.specs.Prelude.{◌≡◌, ℕ, ◌<◌, ◌==◌, ◌||◌, Bool, true, false, if◌then◌else◌, List, [], ◌∷◌, ◌++◌}
use Rattle.std.specs.Prelude.{length, slice_index, All, codes, Option, Some, None, unwrap_or, option_and_then}
use Rattle.pep508_url.specs.Cuts.{behind, is_absolute}

abbrev pub if_absolute : List ℕ → Option (List ℕ)
if_absolute path = if is_absolute path then Some path else None

-- what follows `//localhost` at the front, where it begins with `/`
unfoldable pub local_path : List ℕ → Option (List ℕ)
local_path text = option_and_then if_absolute (behind (codes "//localhost") text)

-- the text without this host, or else without `//` at the front
unfoldable pub without_host : List ℕ → List ℕ
without_host text = unwrap_or (local_path text) (unwrap_or (behind (codes "//") text) text)

-- `[` or `]`
abbrev pub is_bracket : ℕ → Bool
is_bracket b = b == 91 || b == 93

-- the last bracket among the bytes is at this place
pub record IsLastBracket (bytes : List ℕ) (place : ℕ) : Type 0 where
  pub within : place < length bytes
  pub bracket : is_bracket (slice_index bytes place) ≡ true
  pub after : (k : ℕ) → place < k → k < length bytes → is_bracket (slice_index bytes k) ≡ false

-- the text is a URL followed by brackets with no bracket between them
pub record IsExtrasSplit (text url extras : List ℕ) : Type 0 where
  pub inside : List ℕ
  pub brackets : extras ≡ 91 ∷ (inside ++ 93 ∷ [])
  pub plain : All (λ b. is_bracket b ≡ false) inside
  pub whole : text ≡ url ++ extras
