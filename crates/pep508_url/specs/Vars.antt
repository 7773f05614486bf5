-- The variables that a text may name.
use Rattle.std.specs.Prelude.{◌≡◌, ℕ, true, if◌then◌else◌, List, [], ◌∷◌, map, codes, bytes_eq, String}
use Rattle.std.specs.Prelude.{string_bytes, Option, Some, None, option_map, option_and_then}
use Rattle.std.specs.BTreeMap.{BTreeMap, get_by_text}
use Rattle.std.specs.List.{slice_get}
use Rattle.std.specs.Option.{option_or}
use Rattle.pep508_url.specs.Cuts.{is_absolute}

-- names with their values, in the order given, and the directory of the project
pub record Variables : Type 0 where
  pub pairs : List (List ℕ × List ℕ)
  pub project_root : List ℕ

-- the path begins at the root
abbrev pub IsAbsolute : List ℕ → Type 0
IsAbsolute path = is_absolute path ≡ true

-- a pair as contracts see it
abbrev pub copied_pair : {A B : Type 0} → String A × String B → List ℕ × List ℕ
copied_pair pair = (string_bytes pair.0, string_bytes pair.1)

-- the value of the first pair of a name
abbrev pub first_value : List (List ℕ × List ℕ) → List ℕ → Option (List ℕ)
first_value [] name = None
first_value (pair ∷ pairs) name = if bytes_eq pair.0 name then Some pair.1 else first_value pairs name

-- the value of the pair at a place
abbrev pub value_at : {A B : Type 0} → List (String A × String B) → ℕ → Option (List ℕ)
value_at pairs place = option_map (λ pair. string_bytes pair.1) (slice_get pairs place)

-- the value of the pair at a name's place
abbrev pub value_by_place : {A B C : Type 0} → List (String A × String B) → BTreeMap (String C) ℕ → List ℕ
    → Option (List ℕ)
value_by_place pairs places name = option_and_then (value_at pairs) (get_by_text places name)

-- the names' places are those of their first pairs
abbrev pub ArePlaces : {A B C : Type 0} → List (String A × String B) → BTreeMap (String C) ℕ → Type 0
ArePlaces pairs places =
    (name : List ℕ) → value_by_place pairs places name ≡ first_value (map copied_pair pairs) name

-- the value that `PROJECT_ROOT` has where no pair gives one
abbrev pub root_value : Variables → List ℕ → Option (List ℕ)
root_value vars name = if bytes_eq name (codes "PROJECT_ROOT") then Some vars.project_root else None

-- the value of a variable
unfoldable pub value_of : Variables → List ℕ → Option (List ℕ)
value_of vars name = option_or (first_value vars.pairs name) (root_value vars name)
