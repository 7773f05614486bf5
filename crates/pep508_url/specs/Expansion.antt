-- A text with its variables expanded: each `${NAME}` whose NAME is a known variable's is replaced by the
-- value, from left to right, once: values are not expanded again.
use Rattle.std.specs.Prelude.{◌≡◌, ◌≢◌, true, ℕ, ◌==◌, nat_lt, ◌&&◌, ◌||◌, Bool, if◌then◌else◌}
use Rattle.std.specs.Prelude.{List, [], ◌∷◌, ◌++◌}
use Rattle.std.specs.Prelude.{length, codes, flat_map, Option, Some, None, option_and_then, option_map}
use Rattle.std.specs.List.{slice_split, list_all}
use Rattle.std.specs.Char.{is_ascii_uppercase, is_ascii_digit}
use Rattle.pep508_url.specs.Cuts.{behind, cut}
use Rattle.pep508_url.specs.Vars.{Variables, value_of}

-- a capital letter, a digit or `_`
abbrev pub is_variable_byte : ℕ → Bool
is_variable_byte b = is_ascii_uppercase b || is_ascii_digit b || b == 95

-- one or more of these
abbrev pub is_variable_name : List ℕ → Bool
is_variable_name text = nat_lt 0 (length text) && list_all is_variable_byte text

-- the value of the name and what follows it, where it is a known variable's
abbrev pub with_value : Variables → List ℕ × List ℕ → Option (List ℕ × List ℕ)
with_value vars parts =
    if is_variable_name parts.0 then option_map (λ value. (value, parts.1)) (value_of vars parts.0) else None

-- what follows a `$` begins with a known variable's name in braces: its value, and what follows the braces
unfoldable pub reference : Variables → List ℕ → Option (List ℕ × List ℕ)
reference vars text = option_and_then (with_value vars) (option_and_then (cut 125) (behind (codes "{") text))

-- a reference's text
abbrev pub replaced : List ℕ → Option (List ℕ × List ℕ) → List ℕ
replaced text None = 36 ∷ text
replaced text (Some found) = found.0 ++ found.1

-- the expansion of a `$` and the text that follows it up to the next one
unfoldable pub behind_dollar : Variables → List ℕ → List ℕ
behind_dollar vars text = replaced text (reference vars text)

-- the texts between the `$`, each but the first with the expansion of its `$`
abbrev pub expanded_parts : Variables → List (List ℕ) → List ℕ
expanded_parts vars [] = []
expanded_parts vars (first ∷ others) = first ++ flat_map (behind_dollar vars) others

-- The text with its variables' values. A name holds no `$`, so that no reference reaches past the next `$`.
unfoldable pub expanded : Variables → List ℕ → List ℕ
expanded vars text = expanded_parts vars (slice_split (λ b. b == 36) text)

-- the text contains no `${`
abbrev pub LacksOpening : List ℕ → Type 0
LacksOpening text = (front back : List ℕ) → text ≢ front ++ codes "${" ++ back

-- a name in braces after a `$`
abbrev pub reference_text : List ℕ → List ℕ
reference_text name = codes "${" ++ name ++ codes "}"

-- the name is a variable's of this value
abbrev pub IsKnown : Variables → List ℕ → List ℕ → Type 0
IsKnown vars name value = (is_variable_name name ≡ true) × (value_of vars name ≡ Some value)

-- the text contains no known variable's name in braces after a `$`
abbrev pub LacksReference : Variables → List ℕ → Type 0
LacksReference vars text =
    (front name value back : List ℕ) → IsKnown vars name value → text ≢ front ++ reference_text name ++ back
