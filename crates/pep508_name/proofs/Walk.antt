-- A name read byte by byte.
use Rattle.std.proofs.Common.{◌≡◌, ℕ, ◌<◌, ◌⊎◌, inl, inr, Bool, true, false, cond, List, [], ◌∷◌, ◌++◌}
use Rattle.std.proofs.Common.{Option, Some, None, option_map, refl, ap, ◌∙◌, arith}
use Rattle.std.proofs.lemmas.Bool.Decides.{nat_tests}
use Rattle.std.specs.Char.{to_ascii_lowercase}
use Rattle.pep508_name.specs.Name.{is_alphanumeric, is_separator}

-- a letter or digit, and what stands before it where it opens a new part
abbrev pub with_byte : Bool → ℕ → List ℕ → List ℕ
with_byte true byte more = 45 ∷ to_ascii_lowercase byte ∷ more
with_byte false byte more = to_ascii_lowercase byte ∷ more

-- what a text adds behind a letter or digit, and perhaps separators, if the whole may be a name
abbrev pub behind : Bool → List ℕ → Option (List ℕ)
behind separated [] = cond separated None (Some [])
behind separated (byte ∷ bytes) =
    cond (is_separator byte) (behind true bytes) (cond (is_alphanumeric byte) (option_map (with_byte separated byte) (behind false bytes)) None)

-- what was written, and what is still to come
abbrev pub written : List ℕ → Option (List ℕ) → Option (List ℕ)
written name more = option_map (λ m. name ++ m) more

-- a test is true or false
pub two : (b : Bool) → (b ≡ true) ⊎ (b ≡ false)
two true = inl refl
two false = inr refl

-- a separator is no letter or digit
pub separators_apart : (b : ℕ) → is_separator b ≡ true → is_alphanumeric b ≡ false
separators_apart b h = grind (arith, nat_tests)

pub no_separator : (b : ℕ) → is_alphanumeric b ≡ true → is_separator b ≡ false
no_separator b h = elim (two (is_separator b)) [ inl sep ↦ absurd (cc (separators_apart b sep)) | inr sep ↦ sep ]

pub small : (b : ℕ) → is_alphanumeric b ≡ true → b < 128
small b h = grind (arith, nat_tests)

-- what is behind, by the byte that comes next
pub behind_separator : (s : Bool) (b : ℕ) (bs : List ℕ) → is_separator b ≡ true → behind s (b ∷ bs) ≡ behind true bs
behind_separator s b bs sep = ap (λ t. cond t (behind true bs) (cond (is_alphanumeric b) (option_map (with_byte s b) (behind false bs)) None)) sep

behind_other : (s : Bool) (b : ℕ) (bs : List ℕ) → is_separator b ≡ false → behind s (b ∷ bs) ≡ cond (is_alphanumeric b) (option_map (with_byte s b) (behind false bs)) None
behind_other s b bs sep = ap (λ t. cond t (behind true bs) (cond (is_alphanumeric b) (option_map (with_byte s b) (behind false bs)) None)) sep

pub behind_letter : (s : Bool) (b : ℕ) (bs : List ℕ) → is_alphanumeric b ≡ true → behind s (b ∷ bs) ≡ option_map (with_byte s b) (behind false bs)
behind_letter s b bs letter = behind_other s b bs (no_separator b letter) ∙ ap (λ t. cond t (option_map (with_byte s b) (behind false bs)) None) letter

pub behind_none : (s : Bool) (b : ℕ) (bs : List ℕ) → is_separator b ≡ false → is_alphanumeric b ≡ false → behind s (b ∷ bs) ≡ None
behind_none s b bs sep letter = behind_other s b bs sep ∙ ap (λ t. cond t (option_map (with_byte s b) (behind false bs)) None) letter
