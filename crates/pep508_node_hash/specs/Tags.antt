-- Hashes of things: equal things have one number.
use Rattle.std.specs.Prelude.{ℕ, ◌+◌, ◌*◌, ◌%◌, ◌^◌, List, [], ◌∷◌, get_or}
use Rattle.pep440_text.specs.Record.{VersionRecord}

-- the number of a number and one more
unfoldable pub mixed : ℕ → ℕ → ℕ
mixed tag number = (tag * 1048583 % 2 ^ 64 + number) % 2 ^ 64

-- the number of a number and one byte more
unfoldable pub with_byte : ℕ → ℕ → ℕ
with_byte tag byte = (tag * 257 % 2 ^ 64 + byte) % 2 ^ 64

abbrev pub bytes_tag : ℕ → List ℕ → ℕ
bytes_tag tag [] = tag
bytes_tag tag (byte ∷ bytes) = bytes_tag (with_byte tag byte) bytes

-- the number of a text
abbrev pub text_tag : List ℕ → ℕ
text_tag bytes = bytes_tag 0 bytes

-- the number of a version, by the first three numbers of its release
abbrev pub version_tag : VersionRecord → ℕ
version_tag version =
    mixed (mixed (get_or version.release 0 0) (get_or version.release 1 0)) (get_or version.release 2 0)
