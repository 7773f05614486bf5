-- Lines of a text, which have no comment, and the pieces of a text.
use Rattle.std.specs.Prelude.{◌≡◌, ℕ, ◌==◌, ◌&&◌, ◌||◌, Bool, true, false, List, [], ◌∷◌, ◌++◌}
use Rattle.std.specs.Char.{is_whitespace}
use Rattle.std.specs.List.{AllByRecursion}
use Rattle.std.specs.Str.{chars, IsUtf8}
use Rattle.std.specs.Str.Lines.{strip_carriage_return}

-- whole characters that are next to each other in the text
pub record IsPieceOf (text piece : List ℕ) : Type 0 where
  pub before : List ℕ
  pub after : List ℕ
  pub split : text ≡ before ++ (piece ++ after)
  pub before_encoded : IsUtf8 before
  pub encoded : IsUtf8 piece

-- whether some of the characters begin a comment: a `#` after white space, or one that is first, where
-- `blank` says that white space or nothing is before it
abbrev pub has_comment : Bool → List ℕ → Bool
has_comment blank [] = false
has_comment blank (c ∷ cs) = (blank && c == 35) || has_comment (is_whitespace c) cs

-- one line of a text in UTF-8, without a line feed and without a comment
pub record IsLine (text : List ℕ) : Type 0 where
  pub encoded : IsUtf8 text
  pub unended : AllByRecursion (λ b. (b == 10) ≡ false) text
  pub uncommented : has_comment true (chars text) ≡ false

-- nor does a carriage return end it, which would be dropped
abbrev pub IsWholeLine : List ℕ → Type 0
IsWholeLine text = IsLine text × (strip_carriage_return text ≡ text)
