-- Lines of candidates in the common form: no comment, and a space after the name.
use Rattle.std.specs.Prelude.{◌≡◌, ℕ, ◌==◌, ◌&&◌, Bool, true, false, if◌then◌else◌, not, nat_lt}
use Rattle.std.specs.Prelude.{List, [], ◌∷◌, ◌++◌, Some}
use Rattle.std.specs.Char.{to_ascii_lowercase}
use Rattle.std.specs.Str.{trim}
use Rattle.pep508_name.specs.Name.{is_alphanumeric, is_separator}
use Rattle.reqtable_candidates.specs.TextLines.{without_comment, is_blank}
use Rattle.reqtable_candidates.specs.CandidateLine.{parts_in}

-- an ASCII character that is printed and begins no comment
abbrev pub is_plain_byte : ℕ → Bool
is_plain_byte byte = nat_lt 32 byte && nat_lt byte 127 && not (byte == 35)

-- a byte of a name adds to what is written of its normal form: a separator nothing, and a letter or digit
-- itself in lower case, after a `-` if the byte before is a separator
abbrev pub AddsByte : Bool → Bool → ℕ → List ℕ → List ℕ → Type 0
AddsByte separated true byte old new = (is_separator byte ≡ true) × (new ≡ old)
AddsByte separated false byte old new = (is_alphanumeric byte ≡ true)
    × (new ≡ (old ++ (if separated then 45 ∷ [] else [])) ++ to_ascii_lowercase byte ∷ [])

-- a line without its end is not blank, and these are the texts of its name and version
pub record ArePlainParts (line name version : List ℕ) : Type 0 where
  pub is_kept : is_blank (without_comment line) ≡ false
  pub parts : parts_in (trim (without_comment line)) ≡ Some (name, version)
