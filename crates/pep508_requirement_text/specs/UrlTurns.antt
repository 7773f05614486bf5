-- How far the reading of a URL has come.
use Rattle.std.specs.Prelude.{◌≡◌, ℕ, ◌+◌, ◌<◌, ◌≤◌, Bool, List, ◌∷◌, ◌++◌, length, encode_utf8}
use Rattle.std.specs.Char.{is_not_whitespace}
use Rattle.std.specs.Str.{chars, skip_leading_whitespace, IsUtf8, NonePass}
use Rattle.pep508_requirement_text.specs.UrlEnds.{url_split, depth_behind}
use Rattle.pep508_requirement_text.specs.declared.url_end.Turn.{Turn}
use Rattle.pep508_requirement_text.specs.declared.url_end.Turn.TheVariants.{Ends, GoesOn}

-- the text is these characters and that rest
pub record IsCut (text front rest : List ℕ) : Type 0 where
  pub whole : text ≡ front ++ rest
  pub front_utf8 : IsUtf8 front
  pub rest_utf8 : IsUtf8 rest

-- the text begins with this character
pub record BeginsWith (text : List ℕ) (c : ℕ) (rest : List ℕ) : Type 0 where
  pub cut : IsCut text (encode_utf8 c) rest
  pub characters : chars text ≡ c ∷ chars rest

-- the text begins with this white space, and no more follows it
pub record AreBlanks (text run rest : List ℕ) : Type 0 where
  pub cut : IsCut text run rest
  pub blank : NonePass is_not_whitespace (chars run)
  pub skipped : chars rest ≡ skip_leading_whitespace (chars text)

-- more characters of a URL
abbrev pub onto : List ℕ → List ℕ × List ℕ → List ℕ × List ℕ
onto front parts = (front ++ parts.0, parts.1)

-- a URL ends before the rest
pub record EndsAt (brackets : Bool) (depth : ℕ) (text rest : List ℕ) : Type 0 where
  pub front : List ℕ
  pub cut : IsCut text front rest
  pub split : url_split brackets depth (chars text) ≡ (chars front, chars rest)

-- a URL goes on with the rest, at a later depth
pub record GoesOnAt (brackets : Bool) (depth : ℕ) (text : List ℕ) (later : ℕ) (rest : List ℕ) : Type 0 where
  pub front : List ℕ
  pub cut : IsCut text front rest
  pub split : url_split brackets depth (chars text)
      ≡ onto (chars front) (url_split brackets later (chars rest))
  pub kept : depth_behind brackets later 32 ≡ later
  pub bound : later + length rest ≤ depth + length text

-- one step of the reading
abbrev pub IsTurn : Bool → ℕ → List ℕ → Turn → Type 0
IsTurn brackets depth text (Ends rest) = EndsAt brackets depth text rest.now
IsTurn brackets depth text (GoesOn rest later) =
    GoesOnAt brackets depth text later rest.now × (length rest.now < length text)
