-- Names of packages and extras: which texts are names (PEP 508, "Names"), and the normal form of each
-- (PEP 503, "Normalized Names").
use Rattle.std.specs.Prelude.{ℕ, ◌-◌, ◌==◌, ◌&&◌, ◌||◌, Bool, true, false, if◌then◌else◌, List, [], ◌∷◌, ◌++◌}
use Rattle.std.specs.Prelude.{length, map, filter, codes, Option, Some, None, unwrap_or, Result}
use Rattle.std.specs.Option.{option_map_or, ok_or}
use Rattle.std.specs.List.{slice_get, slice_split, join_with_byte, list_all}
use Rattle.std.specs.Char.{is_ascii_alphanumeric, to_ascii_lowercase}
use Rattle.std.specs.String.{string_bytes}
use Rattle.std.specs.Str.{bytes_eq}
use Rattle.std.specs.Hash as fed
use Rattle.std.specs.declared.cmp.Ordering.{Ordering}
use Rattle.std.specs.Ordering.{nat_cmp}
use Rattle.std.specs.Cmp.Lexicographic.{slice_cmp}
use Rattle.pep508_name.specs.declared.InvalidNameError.{InvalidNameError}
use Rattle.pep508_name.specs.declared.InvalidNameError.TheVariants.{Memory, InvalidName}

-- whether a byte is an ASCII letter or digit (PEP 508, "Names")
abbrev pub is_alphanumeric : ℕ → Bool
is_alphanumeric byte = is_ascii_alphanumeric byte

-- whether a byte is `-`, `_` or `.`, which are all alike between the parts of a name (PEP 503,
-- "Normalized Names")
abbrev pub is_separator : ℕ → Bool
is_separator byte = byte == 45 || byte == 95 || byte == 46

-- whether a byte may be in a name (PEP 508, "Names")
abbrev pub is_name_byte : ℕ → Bool
is_name_byte byte = is_alphanumeric byte || is_separator byte

-- whether a letter or digit is at a place of a text
abbrev pub is_alphanumeric_at : List ℕ → ℕ → Bool
is_alphanumeric_at text place = option_map_or is_alphanumeric (slice_get text place) false

-- whether a text is a name: bytes of names, of which the first and the last are letters or digits (PEP
-- 508, "Names")
abbrev pub is_name : List ℕ → Bool
is_name text =
    list_all is_name_byte text && is_alphanumeric_at text 0 && is_alphanumeric_at text (length text - 1)

-- whether a part between two separators is not empty
abbrev pub is_part : List ℕ → Bool
is_part [] = false
is_part (byte ∷ bytes) = true

-- the parts of a text between runs of separators
abbrev pub name_parts : List ℕ → List (List ℕ)
name_parts text = filter is_part (slice_split is_separator text)

-- the normal form of a name: its parts in lower case, with one `-` between each two (PEP 503,
-- "Normalized Names")
unfoldable pub normal_name : List ℕ → List ℕ
normal_name text = map to_ascii_lowercase (join_with_byte 45 (name_parts text))

-- the normal form of the name that a text is, if it is one
unfoldable pub name_of : List ℕ → Option (List ℕ)
name_of text = if is_name text then Some (normal_name text) else None

-- the normal form of the name that a text is, or the text itself where it is not a name
abbrev pub name_reading : List ℕ → Result (List ℕ) (List ℕ)
name_reading text = ok_or (name_of text) text

-- the text that an error reports, unless it is lack of memory
abbrev pub told_name : InvalidNameError → Option (List ℕ)
told_name Memory = None
told_name (InvalidName text) = Some (string_bytes text)

-- the text that an error reports, empty for lack of memory
abbrev pub refused_text : InvalidNameError → List ℕ
refused_text error = unwrap_or (told_name error) []

-- the print of an error
abbrev pub error_text : InvalidNameError → List ℕ
error_text Memory = codes "out of memory"
error_text (InvalidName text) =
    codes "Not a valid package or extra name: \"" ++ string_bytes text
    ++ codes "\". Names must start and end with a letter or digit and may only contain "
    ++ codes "-, _, ., and alphanumeric characters."

-- a name as the folder of an installed package is called: `_` for each `-` (the specification of
-- recorded installs, which has `-` between a name and a version)
abbrev pub dist_info_byte : ℕ → ℕ
dist_info_byte byte = if byte == 45 then 95 else byte

abbrev pub dist_info_name : List ℕ → List ℕ
dist_info_name name = map dist_info_byte name

-- names are equal where they are byte by byte
abbrev pub name_eq : List ℕ → List ℕ → Bool
name_eq = bytes_eq

-- names are ordered by their bytes, the first that differs decides
abbrev pub name_cmp : List ℕ → List ℕ → Ordering
name_cmp = slice_cmp nat_cmp

-- the input to a hash of a name: its bytes, and a byte that ends them
abbrev pub fed_name : List ℕ → List (List ℕ)
fed_name name = fed.str name
