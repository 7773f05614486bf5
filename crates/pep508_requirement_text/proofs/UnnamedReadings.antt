-- At the front of each text there is something to read where no name is wanted: a URL with its extras, or why there
-- is none.
use Rattle.std.proofs.Common.{◌≡◌, ◌⊎◌, ℕ, ◌<◌, ◌==◌, Bool, true, false, List, [], ◌∷◌, ◌++◌, length}
use Rattle.std.proofs.Common.{Option, Some, None, Ok, Err, inl, inr, refl, ap, ◌∙◌, arith}
use Rattle.std.specs.Str.{encode_utf8_all}
use Rattle.pep508_url.specs.Splits.{is_bracket, IsExtrasSplit}
use Rattle.pep508_requirement_text.specs.FrontReading.{Reading, extras_of}
use Rattle.pep508_requirement_text.specs.FrontReading.Refused.{Malformed}
use Rattle.pep508_requirement_text.specs.UnnamedReading.{UnnamedFront, url_at, IsUnnamedReading}
use Rattle.pep508_error.proofs.Tests.{itself, the_same}
use Rattle.pep508_error.proofs.Cuts.{NonePasses, at_places, from_places}

-- ---- a closing bracket at the end, and no bracket before it

record IsClosed (cs inside : List ℕ) : Type 0 where
  whole : cs ≡ inside ++ 93 ∷ []
  plain : NonePasses is_bracket inside

abbrev MayClose : List ℕ → Type 0
MayClose cs = ((inside : List ℕ) × IsClosed cs inside) ⊎ ((inside : List ℕ) → IsClosed cs inside → ⊥)

never_closed : (inside : List ℕ) → [] ≡ inside ++ 93 ∷ [] → ⊥
never_closed [] e = absurd (cc)
never_closed (x ∷ xs) e = absurd (cc)

-- a bracket stands first
first_bracket : (c : ℕ) (cs inside : List ℕ) → is_bracket c ≡ true → c ∷ cs ≡ inside ++ 93 ∷ []
    → NonePasses is_bracket inside → (c ≡ 93) × (cs ≡ [])
first_bracket c cs [] e whole plain = (cc, cc)
first_bracket c cs (x ∷ xs) e whole plain =
    let same : c ≡ x = cc in
    let no : is_bracket c ≡ false = ap is_bracket same ∙ plain.0 in
    absurd (cc)

closing_alone : (c : ℕ) (cs : List ℕ) (t : Bool) → is_bracket c ≡ true → (c == 93) ≡ t → MayClose (c ∷ cs)
closing_alone c [] true b e =
    inl ([], record { whole = ap (λ x. x ∷ []) (the_same c 93 e); plain = tt })
closing_alone c (d ∷ ds) true b e =
    inr (λ inside h. let one = first_bracket c (d ∷ ds) inside b h.whole h.plain in let none = one.1 in absurd (cc))
closing_alone c cs false b e = inr (λ inside h.
    let one = first_bracket c cs inside b h.whole h.plain in
    let yes : (c == 93) ≡ true = ap (λ x. x == 93) one.0 ∙ itself 93 in
    absurd (cc))

-- another character stands first
behind_first : (c : ℕ) (cs inside : List ℕ) → is_bracket c ≡ false → c ∷ cs ≡ inside ++ 93 ∷ []
    → NonePasses is_bracket inside → (later : List ℕ) × IsClosed cs later
behind_first c cs [] e whole plain =
    let same : c ≡ 93 = cc in
    let yes : is_bracket c ≡ true = ap is_bracket same in
    absurd (cc)
behind_first c cs (x ∷ xs) e whole plain =
    let tail : cs ≡ xs ++ 93 ∷ [] = cc in (xs, record { whole = tail; plain = plain.1 })

closing_behind : (c : ℕ) (cs : List ℕ) → is_bracket c ≡ false → MayClose cs → MayClose (c ∷ cs)
closing_behind c cs b (inl h) =
    inl (c ∷ h.0, record { whole = ap (λ xs. c ∷ xs) h.1.whole; plain = (b, h.1.plain) })
closing_behind c cs b (inr none) = inr (λ inside h.
    let later = behind_first c cs inside b h.whole h.plain in none later.0 later.1)

closing_by : (c : ℕ) (cs : List ℕ) (t : Bool) → is_bracket c ≡ t → MayClose cs → MayClose (c ∷ cs)
closing_by c cs true b h = closing_alone c cs (c == 93) b refl
closing_by c cs false b h = closing_behind c cs b h

closing : (cs : List ℕ) → MayClose cs
closing [] = inr (λ inside h. never_closed inside h.whole)
closing (c ∷ cs) = closing_by c cs (is_bracket c) refl (closing cs)

-- ---- brackets at the end

abbrev MaySplit : List ℕ → Type 0
MaySplit text =
    ((url : List ℕ) × (extras : List ℕ) × IsExtrasSplit text url extras)
    ⊎ ((url extras : List ℕ) → IsExtrasSplit text url extras → ⊥)

record SplitsFirst (c : ℕ) (cs extras : List ℕ) : Type 0 where
  opens : c ≡ 91
  inside : List ℕ
  closes : IsClosed cs inside

split_first : (c : ℕ) (cs url extras : List ℕ) → IsExtrasSplit (c ∷ cs) url extras
    → SplitsFirst c cs extras ⊎ ((later : List ℕ) × IsExtrasSplit cs later extras)
split_first c cs [] extras s =
    let whole : c ∷ cs ≡ 91 ∷ (s.inside ++ 93 ∷ []) = s.whole ∙ s.brackets in
    inl record {
      opens = cc;
      inside = s.inside;
      closes = record { whole = cc; plain = from_places is_bracket s.inside s.plain };
    }
split_first c cs (x ∷ xs) extras s =
    let tail : cs ≡ xs ++ extras = (let whole = s.whole in cc) in
    inr (xs, record { inside = s.inside; brackets = s.brackets; plain = s.plain; whole = tail })

longer : (c : ℕ) (cs url extras : List ℕ) → IsExtrasSplit cs url extras → IsExtrasSplit (c ∷ cs) (c ∷ url) extras
longer c cs url extras s =
    record { inside = s.inside; brackets = s.brackets; plain = s.plain; whole = ap (λ xs. c ∷ xs) s.whole }

split_here : (c : ℕ) (cs : List ℕ) (t : Bool) → (c == 91) ≡ t → MayClose cs
    → ((url extras : List ℕ) → IsExtrasSplit cs url extras → ⊥) → MaySplit (c ∷ cs)
split_here c cs true e (inl h) none =
    inl (
      [],
      91 ∷ (h.0 ++ 93 ∷ []),
      record {
        inside = h.0;
        brackets = refl;
        plain = at_places is_bracket h.0 h.1.plain;
        whole = ap (λ x. x ∷ cs) (the_same c 91 e) ∙ ap (λ xs. 91 ∷ xs) h.1.whole;
      },
    )
split_here c cs true e (inr unclosed) none = inr (λ url extras s. elim (split_first c cs url extras s) [
  | inl first ↦ unclosed first.inside first.closes
  | inr later ↦ none later.0 extras later.1
])
split_here c cs false e h none = inr (λ url extras s. elim (split_first c cs url extras s) [
  | inl first ↦ (let yes : (c == 91) ≡ true = ap (λ x. x == 91) first.opens ∙ itself 91 in absurd (cc))
  | inr later ↦ none later.0 extras later.1
])

split_by : (c : ℕ) (cs : List ℕ) → MaySplit cs → MaySplit (c ∷ cs)
split_by c cs (inl s) = inl (c ∷ s.0, s.1, longer c cs s.0 s.1 s.2)
split_by c cs (inr none) = split_here c cs (c == 91) refl (closing cs) none

unsplit : (url extras inside : List ℕ) → extras ≡ 91 ∷ inside → [] ≡ url ++ extras → ⊥
unsplit [] extras inside e whole = absurd (cc)
unsplit (x ∷ xs) extras inside e whole = absurd (cc)

splitting : (text : List ℕ) → MaySplit text
splitting [] = inr (λ url extras s. unsplit url extras (s.inside ++ 93 ∷ []) s.brackets s.whole)
splitting (c ∷ cs) = split_by c cs (splitting cs)

-- ---- the whole

abbrev HasReading : List ℕ → Type 0
HasReading text = (reading : Reading UnnamedFront) × IsUnnamedReading text reading

with_names : (text url extras : List ℕ) (split : IsExtrasSplit (encode_utf8_all (url_at text).0) url extras)
    (names : Option (List (List ℕ))) → extras_of split.inside ≡ names → 0 < length (url_at text).0 → HasReading text
with_names text url extras split None e some = (Err Malformed, (refl, inr (url, inl (extras, split, e))))
with_names text url extras split (Some names) e some =
    (Ok (record { url = url; extras = names }, (url_at text).1), (some, inl (extras, split, e), refl))

by_split : (text : List ℕ) → 0 < length (url_at text).0 → MaySplit (encode_utf8_all (url_at text).0)
    → HasReading text
by_split text some (inl s) = with_names text s.0 s.1 s.2 (extras_of s.2.inside) refl some
by_split text some (inr none) = (
  Ok (record { url = encode_utf8_all (url_at text).0; extras = [] }, (url_at text).1),
  (some, inr (refl, refl, none), refl),
)

by_length : (text cs : List ℕ) → (url_at text).0 ≡ cs → HasReading text
by_length text [] e = (Err Malformed, (refl, inl e))
by_length text (c ∷ cs) e =
    let l : length (url_at text).0 ≡ length (c ∷ cs) = ap length e in
    by_split text (omega (arith, l)) (splitting (encode_utf8_all (url_at text).0))

pub has_reading : (text : List ℕ) → HasReading text
has_reading text = by_length text (url_at text).0 refl
