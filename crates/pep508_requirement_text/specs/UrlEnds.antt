-- Where a URL ends in a requirement's text. PEP 508 ends it at white space ("Grammar", `urlspec`), which
-- URLs and paths that people write contain; so it ends at a line break, at white space before the end, a
-- `;` or a `#`, or at a `;` or `#` before white space. Between the brackets of a URL without a name only a
-- line break ends it.
use Rattle.std.specs.Prelude.{◌≡◌, ◌≢◌, ◌⊎◌, ℕ, ◌+◌, ◌-◌, ◌==◌, ◌&&◌, ◌||◌, Bool, true, false, if◌then◌else◌}
use Rattle.std.specs.Prelude.{List, [], ◌∷◌, ◌++◌, fold, IsTrue}
use Rattle.std.specs.Char.{is_whitespace}
use Rattle.std.specs.Str.{skip_leading_whitespace}
use Rattle.pep508_error.specs.Cuts.{begins_by}

-- how deep in brackets a character leaves the text, by whether brackets count
abbrev pub depth_behind : Bool → ℕ → ℕ → ℕ
depth_behind false depth c = 0
depth_behind true depth c = if c == 91 then depth + 1 else (if c == 93 then depth - 1 else depth)

-- a line feed or a carriage return
abbrev pub is_line_break : ℕ → Bool
is_line_break c = c == 10 || c == 13

-- `;` or `#`, before or after which a URL may end
abbrev pub is_mark : ℕ → Bool
is_mark c = c == 59 || c == 35

-- nothing is left, or a `;` or a `#`
abbrev pub is_over : List ℕ → Bool
is_over [] = true
is_over (c ∷ cs) = is_mark c

-- white space, and then nothing, a `;` or a `#`
abbrev pub begins_with_end : List ℕ → Bool
begins_with_end cs = begins_by is_whitespace cs && is_over (skip_leading_whitespace cs)

-- a URL ends before these characters, at this depth
abbrev pub ends_before : ℕ → List ℕ → Bool
ends_before depth cs = begins_by is_line_break cs || (depth == 0 && begins_with_end cs)

-- a URL ends after this character, which leaves it at this depth, before these
abbrev pub ends_behind : ℕ → ℕ → List ℕ → Bool
ends_behind depth c cs = depth == 0 && is_mark c && begins_by is_whitespace cs

abbrev pub with_char : ℕ → List ℕ × List ℕ → List ℕ × List ℕ
with_char c parts = (c ∷ parts.0, parts.1)

-- the characters of a URL at the front, and those that follow it
abbrev pub url_split : Bool → ℕ → List ℕ → List ℕ × List ℕ
url_split brackets depth [] = ([], [])
url_split brackets depth (c ∷ cs) =
    if ends_before depth (c ∷ cs) then ([], c ∷ cs)
    else with_char c
    (if ends_behind (depth_behind brackets depth c) c cs then ([], cs)
    else url_split brackets (depth_behind brackets depth c) cs)

-- ---- URLs and their ends, without steps

-- how deep in brackets these characters leave the text
abbrev pub depth_of : Bool → List ℕ → ℕ
depth_of brackets front = fold (depth_behind brackets) 0 front

abbrev pub EndsWithMark : List ℕ → Type 0
EndsWithMark front = (others : List ℕ) × (c : ℕ) × (front ≡ others ++ c ∷ []) × IsTrue (is_mark c)

-- a URL may end between these characters
abbrev pub EndsBetween : Bool → List ℕ → List ℕ → Type 0
EndsBetween brackets front rest =
    (rest ≡ []) ⊎ IsTrue (begins_by is_line_break rest)
    ⊎ ((depth_of brackets front ≡ 0)
    × (IsTrue (begins_with_end rest) ⊎ (EndsWithMark front × IsTrue (begins_by is_whitespace rest))))

-- the characters of a URL, up to the first place after them at which one may end
pub record IsUrlBefore (brackets : Bool) (url rest : List ℕ) : Type 0 where
  pub some : url ≢ []
  pub starts : begins_by is_whitespace url ≡ false
  pub ends : EndsBetween brackets url rest
  pub first : (front back : List ℕ) → url ≡ front ++ back → back ≢ []
      → EndsBetween brackets front (back ++ rest) → ⊥
