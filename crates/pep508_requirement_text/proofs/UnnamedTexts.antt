-- The front of a requirement without a name: what is read is what the grammar gives.
use Rattle.std.proofs.Common.{◌≡◌, ◌≢◌, ℕ, ◌<◌, ◌==◌, true, List, [], ◌∷◌, ◌++◌, length}
use Rattle.std.proofs.Common.{Some, Ok, Err, inl, inr, refl, ap, sym, subst, ◌∙◌, arith, lit<}
use Rattle.std.proofs.lemmas.Str.{encodes_same}
use Rattle.std.specs.Str.{chars, encode_utf8_all, skip_leading_whitespace}
use Rattle.pep508_url.specs.Splits.{is_bracket, IsExtrasSplit}
use Rattle.pep508_requirement_text.specs.UrlEnds.{IsUrlBefore, url_split}
use Rattle.pep508_requirement_text.specs.FrontReading.{Refused, extras_of}
use Rattle.pep508_requirement_text.specs.UnnamedReading.{UnnamedFront, url_at, HasExtras, IsUnnamedReading}
use Rattle.pep508_requirement_text.specs.UnnamedText.{EndsInExtras, IsUnnamedText, IsUnnamedRequirementText}
use Rattle.pep508_error.proofs.Tests.{or_first, or_second, neither}
use Rattle.pep508_error.proofs.Cuts.{NonePasses, at_places, from_places}
use Rattle.pep508_error.proofs.Spaces.{spaces_found, spaces_again}
use Rattle.pep508_requirement_text.proofs.EncodedCuts.{is, around, joined}
use Rattle.pep508_requirement_text.proofs.EncodedCuts.{encoded_apart, apart_again}
use Rattle.pep508_requirement_text.proofs.Names.{inside_found, inside_again}
use Rattle.pep508_requirement_text.proofs.UrlLaws.{url_found, url_joined, url_again, unspaced_whole}
use Rattle.pep508_requirement_text.proofs.UnnamedParts.{one_reading}

-- ---- characters that are no brackets

unopened : (cs : List ℕ) → NonePasses is_bracket cs → NonePasses (is 91) cs
unopened [] h = tt
unopened (c ∷ cs) h = (or_first (c == 91) (c == 93) h.0, unopened cs h.1)

unclosed : (cs : List ℕ) → NonePasses is_bracket cs → NonePasses (is 93) cs
unclosed [] h = tt
unclosed (c ∷ cs) h = (or_second (c == 91) (c == 93) h.0, unclosed cs h.1)

unbracketed : (cs : List ℕ) → NonePasses (is 91) cs → NonePasses (is 93) cs → NonePasses is_bracket cs
unbracketed [] h k = tt
unbracketed (c ∷ cs) h k = (neither (c == 91) (c == 93) h.0 k.0, unbracketed cs h.1 k.1)

plain_encoded : (cs : List ℕ) → NonePasses is_bracket cs → NonePasses is_bracket (encode_utf8_all cs)
plain_encoded cs h =
    unbracketed (encode_utf8_all cs) (encoded_apart 91 (lit< tt) cs (unopened cs h))
    (encoded_apart 93 (lit< tt) cs (unclosed cs h))

plain_decoded : (cs : List ℕ) → NonePasses is_bracket (encode_utf8_all cs) → NonePasses is_bracket cs
plain_decoded cs h =
    unbracketed cs (apart_again 91 (lit< tt) cs (unopened (encode_utf8_all cs) h))
    (apart_again 93 (lit< tt) cs (unclosed (encode_utf8_all cs) h))

-- ---- brackets at the end, of characters and of their bytes

in_brackets : (url inside : List ℕ)
    → encode_utf8_all (url ++ 91 ∷ (inside ++ 93 ∷ []))
    ≡ encode_utf8_all url ++ 91 ∷ (encode_utf8_all inside ++ 93 ∷ [])
in_brackets url inside =
    joined 91 (lit< tt) url (inside ++ 93 ∷ [])
    ∙ ap (λ bs. encode_utf8_all url ++ 91 ∷ bs) (joined 93 (lit< tt) inside [])

record EncodedSplit (cs url brackets : List ℕ) (split : IsExtrasSplit cs url brackets) : Type 0 where
  bytes : List ℕ
  encoded : IsExtrasSplit (encode_utf8_all cs) (encode_utf8_all url) bytes
  inside_is : encoded.inside ≡ encode_utf8_all split.inside

split_encoded : (cs url brackets : List ℕ) (split : IsExtrasSplit cs url brackets)
    → EncodedSplit cs url brackets split
split_encoded cs url brackets split = record {
  bytes = 91 ∷ (encode_utf8_all split.inside ++ 93 ∷ []);
  encoded = record {
    inside = encode_utf8_all split.inside;
    brackets = refl;
    plain = at_places is_bracket (encode_utf8_all split.inside)
        (plain_encoded split.inside (from_places is_bracket split.inside split.plain));
    whole = ap encode_utf8_all (split.whole ∙ ap (λ ds. url ++ ds) split.brackets) ∙ in_brackets url split.inside;
  };
  inside_is = refl;
}

record DecodedSplit (cs url brackets : List ℕ) (split : IsExtrasSplit (encode_utf8_all cs) url brackets)
    : Type 0 where
  front : List ℕ
  back : List ℕ
  decoded : IsExtrasSplit cs front back
  url_is : url ≡ encode_utf8_all front
  inside_is : split.inside ≡ encode_utf8_all decoded.inside

split_decoded : (cs url brackets : List ℕ) (split : IsExtrasSplit (encode_utf8_all cs) url brackets)
    → DecodedSplit cs url brackets split
split_decoded cs url brackets split =
    let whole : encode_utf8_all cs ≡ url ++ 91 ∷ (split.inside ++ 93 ∷ []) =
    split.whole ∙ ap (λ bs. url ++ bs) split.brackets in
    let opened = around 91 (lit< tt) cs url (split.inside ++ 93 ∷ []) whole in
    let closed = around 93 (lit< tt) opened.behind split.inside [] (sym opened.rest_is) in
    let front : List ℕ = opened.before in
    let inside : List ℕ = closed.before in
    let same : encode_utf8_all cs ≡ encode_utf8_all (front ++ 91 ∷ (inside ++ 93 ∷ [])) =
    whole
    ∙ ap (λ bs. bs ++ 91 ∷ (split.inside ++ 93 ∷ [])) opened.front_is
    ∙ ap (λ bs. encode_utf8_all front ++ 91 ∷ (bs ++ 93 ∷ [])) closed.front_is
    ∙ sym (in_brackets front inside) in
    record {
      front = front;
      back = 91 ∷ (inside ++ 93 ∷ []);
      decoded = record {
        inside = inside;
        brackets = refl;
        plain = at_places is_bracket inside (plain_decoded inside
            (subst (NonePasses is_bracket) closed.front_is (from_places is_bracket split.inside split.plain)));
        whole = encodes_same cs (front ++ 91 ∷ (inside ++ 93 ∷ [])) same;
      };
      url_is = opened.front_is;
      inside_is = closed.front_is;
    }

-- ---- extras at the end

record ExtrasWritten (written url : List ℕ) (names : List (List ℕ)) : Type 0 where
  front : List ℕ
  extras : EndsInExtras written front names
  encoded : url ≡ encode_utf8_all front

extras_found : (written url : List ℕ) (names : List (List ℕ))
    → HasExtras (encode_utf8_all written) url (Some names) → ExtrasWritten written url names
extras_found written url names (inl h) =
    let d = split_decoded written url h.0 h.1 in
    record {
      front = d.front;
      extras = inl (d.back, d.decoded, inside_found d.decoded.inside names (ap extras_of (sym d.inside_is) ∙ h.2));
      encoded = d.url_is;
    }
extras_found written url names (inr h) =
    let same : names ≡ [] = (let e = h.1 in cc) in
    record {
      front = written;
      extras = inr (
        refl,
        same,
        λ front back split.
            let e = split_encoded written front back split in h.2 (encode_utf8_all front) e.bytes e.encoded,
      );
      encoded = h.0;
    }

extras_again : (written front url : List ℕ) (names : List (List ℕ)) → EndsInExtras written front names
    → url ≡ encode_utf8_all front → HasExtras (encode_utf8_all written) url (Some names)
extras_again written front url names (inl h) e =
    let s = split_encoded written front h.0 h.1 in
    subst (λ (u : List ℕ). HasExtras (encode_utf8_all written) u (Some names)) (sym e)
    (inl (s.bytes, s.encoded, ap extras_of s.inside_is ∙ inside_again h.1.inside names h.2))
extras_again written front url names (inr h) e =
    inr (
      e ∙ ap encode_utf8_all h.0,
      ap Some h.1,
      λ before back split.
          let d = split_decoded written before back split in h.2 d.front d.back d.decoded,
    )

-- ---- the whole

some_long : (cs : List ℕ) → cs ≢ [] → 0 < length cs
some_long [] h = absurd (h refl)
some_long (c ∷ cs) h = omega arith

long_some : (cs : List ℕ) → 0 < length cs → cs ≢ []
long_some [] h = absurd (omega arith)
long_some (c ∷ cs) h = λ nothing. absurd (cc)

pub unnamed_found : (text : List ℕ) (front : UnnamedFront) (rest : List ℕ)
    → IsUnnamedReading text (Ok (front, rest)) → IsUnnamedText text front rest
unnamed_found text front rest h =
    let before = spaces_found (chars text) in
    let from : List ℕ = skip_leading_whitespace (chars text) in
    let written : List ℕ = (url_at text).0 in
    let extras = extras_found written front.url front.extras h.1 in
    let split : from ≡ written ++ rest = url_joined true from ∙ ap (λ ds. written ++ ds) (sym h.2) in
    record {
      before = before.spaces;
      written = written;
      url = extras.front;
      split = before.split ∙ ap (λ ds. before.spaces ++ ds) split;
      spaces = before.are_spaces;
      ends = subst (λ (ds : List ℕ). IsUrlBefore true written ds) (sym h.2)
          (url_found true from before.unspaced (long_some written h.0));
      extras = extras.extras;
      encoded = extras.encoded;
    }

pub unnamed_again : (text : List ℕ) (front : UnnamedFront) (rest : List ℕ) → IsUnnamedText text front rest
    → IsUnnamedReading text (Ok (front, rest))
unnamed_again text front rest h =
    let from : skip_leading_whitespace (chars text) ≡ h.written ++ rest =
    ap skip_leading_whitespace h.split
    ∙ spaces_again h.before (h.written ++ rest) h.spaces (unspaced_whole h.written rest h.ends.some h.ends.starts) in
    let at : url_at text ≡ (h.written, rest) = ap (url_split true 0) from ∙ url_again true h.written rest h.ends in
    let written : h.written ≡ (url_at text).0 = ap (λ (parts : List ℕ × List ℕ). parts.0) (sym at) in (
      subst (λ (cs : List ℕ). 0 < length cs) written (some_long h.written h.ends.some),
      subst (λ (cs : List ℕ). HasExtras (encode_utf8_all cs) front.url (Some front.extras)) written
          (extras_again h.written h.url front.url front.extras h.extras h.encoded),
      ap (λ (parts : List ℕ × List ℕ). parts.1) (sym at),
    )

-- ---- requirements

-- what is written is read
abbrev pub UnnamedLaw : Type 0
UnnamedLaw = (text : List ℕ) (front : UnnamedFront) (rest : List ℕ) → IsUnnamedText text front rest
    → IsUnnamedReading text (Ok (front, rest))

pub one_requirement : UnnamedLaw → (text : List ℕ) (front other : UnnamedFront)
    → IsUnnamedRequirementText text front → IsUnnamedRequirementText text other → front ≡ other
one_requirement law text front other h k =
    let same =
    one_reading text (Ok (front, h.0)) (Ok (other, k.0)) (law text front h.0 h.1) (law text other k.0 k.1) in
    let parts : (front, h.0) ≡ (other, k.0) = cc in
    ap (λ (p : UnnamedFront × List ℕ). p.0) parts

pub no_requirement : UnnamedLaw → (text : List ℕ) (refused : Refused) → IsUnnamedReading text (Err refused)
    → (front : UnnamedFront) → IsUnnamedRequirementText text front → ⊥
no_requirement law text refused h front k =
    let same = one_reading text (Err refused) (Ok (front, k.0)) h (law text front k.0 k.1) in
    absurd (cc)
