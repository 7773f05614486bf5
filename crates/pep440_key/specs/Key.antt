-- Bytes that sort as versions do: each component of a version's key, its numbers before an end.
use Rattle.std.specs.Prelude.{ℕ, zero, suc, ◌+◌, ◌/◌, ◌%◌, ◌^◌, nat_lt, if◌then◌else◌, List, [], ◌∷◌, ◌++◌}
use Rattle.std.specs.List.{flat_map}
use Rattle.std.specs.declared.cmp.Ordering.{Ordering}
use Rattle.std.specs.Ordering.{nat_cmp}
use Rattle.std.specs.Cmp.Lexicographic.{slice_cmp}
use Rattle.pep440_text.specs.Record.{VersionRecord}
use Rattle.pep440_version.specs.Order.{key_of}

-- the order of byte strings: the first byte that differs decides, and a prefix comes first
abbrev pub bytes_cmp : List ℕ → List ℕ → Ordering
bytes_cmp = slice_cmp nat_cmp

-- a number in `count` bytes, the highest first
abbrev pub big_endian : ℕ → ℕ → List ℕ
big_endian zero number = []
big_endian (suc count) number = number / 256 ^ count ∷ big_endian count (number % 256 ^ count)

-- a number: up to 251 a byte from 1 to 252, and past that a byte that says whether two, four or eight
-- follow
unfoldable pub number_bytes : ℕ → List ℕ
number_bytes number =
    if nat_lt number 252 then (number + 1) ∷ []
    else if nat_lt number (2 ^ 16) then 253 ∷ big_endian 2 number
    else if nat_lt number (2 ^ 32) then 254 ∷ big_endian 4 number
    else 255 ∷ big_endian 8 number

-- numbers, and 0 at their end
abbrev pub component_bytes : List ℕ → List ℕ
component_bytes numbers = flat_map number_bytes numbers ++ 0 ∷ []

-- components, and 0 at their end
abbrev pub components_bytes : List (List ℕ) → List ℕ
components_bytes components = flat_map component_bytes components ++ 0 ∷ []

-- a version: the components of its key (PEP 440, "Summary of permitted suffixes and relative ordering")
abbrev pub version_bytes : VersionRecord → List ℕ
version_bytes version = components_bytes (key_of version)
