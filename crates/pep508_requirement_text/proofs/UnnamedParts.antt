-- The parts of a front without a name.
use Rattle.std.proofs.Common.{◌≡◌, ◌==◌, ◌<◌, ◌⊎◌, ℕ, true, false, List, [], ◌∷◌, ◌++◌, length, Option, Some}
use Rattle.std.proofs.Common.{None, Ok, Err, inl, inr, refl, sym, ap, subst, ◌∙◌, arith}
use Rattle.std.proofs.lemmas.List.{append_cancel_left, append_cancel_right}
use Rattle.std.proofs.lemmas.Str.{chars-nil, encodes-chars}
use Rattle.std.specs.Str.{chars, encode_utf8_all, IsUtf8}
use Rattle.pep508_url.specs.Splits.{IsExtrasSplit}
use Rattle.pep508_error.specs.declared.refusal.RefusalKind.{RefusalKind}
use Rattle.pep508_error.specs.declared.refusal.RefusalKind.TheVariants.{Memory}
use Rattle.pep508_requirement_text.specs.FrontReading.{Reading, extras_of}
use Rattle.pep508_requirement_text.specs.FrontReading.Refused.{Malformed}
use Rattle.pep508_requirement_text.specs.FrontOutcome.{IsPlain}
use Rattle.pep508_requirement_text.proofs.FrontParts.{nothing}
use Rattle.pep508_requirement_text.proofs.Looks.{one_before}
use Rattle.pep508_requirement_text.specs.UnnamedReading.{UnnamedFront, url_at, HasExtras, IsUnnamedReading}

-- ---- extras

same_inside : (extras a b : List ℕ) → extras ≡ 91 ∷ (a ++ 93 ∷ []) → extras ≡ 91 ∷ (b ++ 93 ∷ []) → a ≡ b
same_inside extras a b e f =
    let same : a ++ 93 ∷ [] ≡ b ++ 93 ∷ [] = cc in
    append_cancel_right a b (93 ∷ []) same

-- extras whose inside is read as these names
pub has_extras : (text url extras inside : List ℕ) (names : Option (List (List ℕ))) → IsExtrasSplit text url extras
    → extras ≡ 91 ∷ (inside ++ 93 ∷ []) → extras_of inside ≡ names → HasExtras text url names
has_extras text url extras inside names split e h =
    inl (extras, split, ap extras_of (same_inside extras split.inside inside split.brackets e) ∙ h)

-- ---- the URL

some_characters : (cs url : List ℕ) → encode_utf8_all cs ≡ url → (length url == 0) ≡ false → 0 < length cs
some_characters [] [] e h = absurd (cc)
some_characters [] (b ∷ bs) e h = absurd (cc)
some_characters (c ∷ cs) url e h = omega arith

module _ (text url later : List ℕ) (at : (chars url, later) ≡ url_at text) where
  characters_are : chars url ≡ (url_at text).0
  characters_are = ap (λ (parts : List ℕ × List ℕ). parts.0) at

  -- no URL
  pub nothing_read : (length url == 0) ≡ true → IsUnnamedReading text (Err Malformed)
  nothing_read h = (refl, inl (sym characters_are ∙ ap chars (nothing url h) ∙ chars-nil))

  pub nothing_there : (length url == 0) ≡ true → 0 < length (url_at text).0 → ⊥
  nothing_there h some =
      absurd (omega (arith, some, ap length (sym characters_are ∙ ap chars (nothing url h) ∙ chars-nil)))

  module _ (utf8 : IsUtf8 url) where
    pub whole_is : url ≡ encode_utf8_all (url_at text).0
    whole_is = sym (encodes-chars url utf8) ∙ ap encode_utf8_all characters_are

    -- a URL, and its extras
    pub front_read : (front : List ℕ) (names : List (List ℕ)) → (length url == 0) ≡ false
        → HasExtras url front (Some names)
        → IsUnnamedReading text (Ok (record { url = front; extras = names }, later))
    front_read front names some h = (
      subst (λ (cs : List ℕ). 0 < length cs) characters_are
          (some_characters (chars url) url (encodes-chars url utf8) some),
      subst (λ (whole : List ℕ). HasExtras whole front (Some names)) whole_is h,
      ap (λ (parts : List ℕ × List ℕ). parts.1) at,
    )

    extras_told : (kind : RefusalKind) → (kind ≡ Memory) ⊎ ((front : List ℕ) × HasExtras url front None)
        → (kind ≡ Memory) ⊎ IsUnnamedReading text (Err Malformed)
    extras_told kind (inl e) = inl e
    extras_told kind (inr h) =
        inr (refl, inr (h.0, subst (λ (whole : List ℕ). HasExtras whole h.0 None) whole_is h.1))

    -- a URL whose extras are none
    pub extras_stop : (kind : RefusalKind)
        → IsPlain kind × ((kind ≡ Memory) ⊎ ((front : List ℕ) × HasExtras url front None))
        → IsPlain kind × ((kind ≡ Memory) ⊎ IsUnnamedReading text (Err Malformed))
    extras_stop kind h = (h.0, extras_told kind h.1)

-- ---- a text has one reading

one_url : (text url other : List ℕ) (names others : Option (List (List ℕ))) → HasExtras text url names
    → HasExtras text other others → (url ≡ other) × (names ≡ others)
one_url text url other names others (inl s) (inl t) =
    let same : url ≡ other = one_before text url other (inl (s.0, s.1)) (inl (t.0, t.1)) in
    let here : url ++ s.0 ≡ url ++ t.0 =
    sym s.1.whole ∙ t.1.whole ∙ ap (λ (front : List ℕ). front ++ t.0) (sym same) in
    let brackets : s.0 ≡ t.0 = append_cancel_left url s.0 t.0 here in
    let inside : s.1.inside ≡ t.1.inside =
    same_inside s.0 s.1.inside t.1.inside s.1.brackets (brackets ∙ t.1.brackets) in
    (same, sym s.2 ∙ ap extras_of inside ∙ t.2)
one_url text url other names others (inl s) (inr t) = absurd (t.2 url s.0 s.1)
one_url text url other names others (inr s) (inl t) = absurd (s.2 other t.0 t.1)
one_url text url other names others (inr s) (inr t) = (s.0 ∙ sym t.0, s.1 ∙ sym t.1)

not_both : (text front : List ℕ) (names : List (List ℕ)) → 0 < length (url_at text).0
    → HasExtras (encode_utf8_all (url_at text).0) front (Some names)
    → ((url_at text).0 ≡ []) ⊎ ((url : List ℕ) × HasExtras (encode_utf8_all (url_at text).0) url None) → ⊥
not_both text front names some h (inl none) =
    absurd (omega (arith, some, ap length none))
not_both text front names some h (inr k) =
    let same : Some names ≡ None = (one_url _ front k.0 (Some names) None h k.1).1 in
    absurd (cc)

same_front : (a b : UnnamedFront × List ℕ) → a.0.url ≡ b.0.url → a.0.extras ≡ b.0.extras → a.1 ≡ b.1 → a ≡ b
same_front a b url extras rest = λ k. (record { url = url k; extras = extras k }, rest k)

-- what there is to read is one
pub one_reading : (text : List ℕ) (reading other : Reading UnnamedFront) → IsUnnamedReading text reading
    → IsUnnamedReading text other → reading ≡ other
one_reading text (Ok a) (Ok b) h k =
    let same =
    one_url (encode_utf8_all (url_at text).0) a.0.url b.0.url (Some a.0.extras) (Some b.0.extras) h.1 k.1 in
    let names : Some a.0.extras ≡ Some b.0.extras = same.1 in
    let extras : a.0.extras ≡ b.0.extras = cc in
    ap Ok (same_front a b same.0 extras (h.2 ∙ sym k.2))
one_reading text (Ok a) (Err refused) h k = absurd (not_both text a.0.url a.0.extras h.0 h.1 k.1)
one_reading text (Err refused) (Ok b) h k = absurd (not_both text b.0.url b.0.extras k.0 k.1 h.1)
one_reading text (Err refused) (Err other) h k = ap Err (h.0 ∙ sym k.0)
