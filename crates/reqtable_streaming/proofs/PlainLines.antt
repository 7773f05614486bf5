-- Lines in the common form: what their parts are.
use Rattle.std.proofs.Common.{◌≡◌, ◌∙◌, ℕ, ◌+◌, ◌<◌, ◌==◌, ◌&&◌, Bool, true, false, List, [], ◌∷◌, ◌++◌, length, refl, ap, sym, subst, arith}
use Rattle.std.proofs.Common.{Some, cond, get_or, take, drop}
use Rattle.std.proofs.lemmas.Bool.Decides.{nat_tests}
use Rattle.std.proofs.lemmas.List.{take-append-drop}
use Rattle.std.proofs.lemmas.Str.{chars-encodes, chars-append, chars-IsAscii, chars_past_char, scalars-chars, encodes-chars}
use Rattle.std.proofs.lemmas.Str.{encode_ascii, encodes-IsAscii, IsUtf8-append, IsUtf8-from_ascii}
use Rattle.std.proofs.lemmas.Str.Ascii.{IsAscii-nil, IsAscii-cons}
use Rattle.std.specs.Prelude.{IsAscii}
use Rattle.std.specs.Char.{is_whitespace}
use Rattle.std.specs.List.{list_all}
use Rattle.std.specs.Str.{chars, encode_utf8_all, all_scalars, IsUtf8, NonePass, skip_leading_whitespace}
use Rattle.std.specs.Str.{drop_trailing_whitespace, trim_start, trim_end, trim}
use Rattle.pep508_name.specs.Name.{is_name, is_name_byte, is_alphanumeric_at}
use Rattle.reqtable_candidates.specs.TextLines.{without_comment, is_blank}
use Rattle.reqtable_candidates.specs.CandidateLine.{parts_in}
use Rattle.reqtable_candidates.specs.CandidateText.{AreWhite, AreItsParts}
use Rattle.reqtable_candidates.proofs.CandidateParts.{scalars_before, body_of, parts_again}
use Rattle.reqtable_candidates.proofs.Comments.{no_comment}
use Rattle.reqtable_candidates.proofs.White.{led, trailed, skip_black}
use Rattle.reqtable_candidates.proofs.Words.{both_true}
use Rattle.reqtable_streaming.specs.PlainLines.{is_plain_byte, ArePlainParts}
use Rattle.reqtable_streaming.proofs.NormalForms.{from_place}

-- ---- single bytes

name_small : (b : ℕ) → is_name_byte b ≡ true → b < 128
name_small b h = grind (arith, nat_tests)

name_black : (b : ℕ) → is_name_byte b ≡ true → is_whitespace b ≡ false
name_black b h = grind (arith, nat_tests)

name_no_comment : (b : ℕ) → is_name_byte b ≡ true → (b == 35) ≡ false
name_no_comment b h = grind (arith, nat_tests)

plain_small : (b : ℕ) → is_plain_byte b ≡ true → b < 128
plain_small b h = grind (arith, nat_tests)

plain_black : (b : ℕ) → is_plain_byte b ≡ true → is_whitespace b ≡ false
plain_black b h = grind (arith, nat_tests)

plain_no_comment : (b : ℕ) → is_plain_byte b ≡ true → (b == 35) ≡ false
plain_no_comment b h = grind (arith, nat_tests)

white_no_comment : (c : ℕ) → is_whitespace c ≡ true → (c == 35) ≡ false
white_no_comment c h = grind (arith, nat_tests)

-- ---- lists of such

all_ascii : (p : ℕ → Bool) → ((b : ℕ) → p b ≡ true → b < 128) → (bs : List ℕ) → list_all p bs ≡ true → IsAscii bs
all_ascii p f [] h = IsAscii-nil
all_ascii p f (b ∷ bs) h =
    let both = both_true (p b) (list_all p bs) h in IsAscii-cons b bs (f b both.0) (all_ascii p f bs both.1)

none_of : (p q : ℕ → Bool) → ((b : ℕ) → p b ≡ true → q b ≡ false) → (bs : List ℕ) → list_all p bs ≡ true → NonePass q bs
none_of p q f [] h = tt
none_of p q f (b ∷ bs) h =
    let both = both_true (p b) (list_all p bs) h in (f b both.0, none_of p q f bs both.1)

none_white : (cs : List ℕ) → AreWhite cs → NonePass (λ c. c == 35) cs
none_white [] h = tt
none_white (c ∷ cs) h = (white_no_comment c h.0, none_white cs h.1)

none_append : (p : ℕ → Bool) (xs ys : List ℕ) → NonePass p xs → NonePass p ys → NonePass p (xs ++ ys)
none_append p [] ys h k = k
none_append p (x ∷ xs) ys h k = (h.0, none_append p xs ys h.1 k)

-- ---- a text without the white space around it

scalars_behind : (cs ds : List ℕ) → all_scalars (cs ++ ds) ≡ true → all_scalars ds ≡ true
scalars_behind [] ds h = h
scalars_behind (c ∷ cs) ds h = scalars_behind cs ds (both_true _ _ h).1

-- its characters, and those around them
abbrev Around : List ℕ → List ℕ → Type 0
Around text body =
    (before : List ℕ) × (after : List ℕ) × (chars text ≡ before ++ (body ++ after)) × AreWhite before × AreWhite after

module _ (text : List ℕ) (u : IsUtf8 text) where
  skipped_scalars : all_scalars (skip_leading_whitespace (chars text)) ≡ true
  skipped_scalars =
      let l = led (chars text) in
      scalars_behind l.0 (skip_leading_whitespace (chars text)) (ap all_scalars (sym l.1) ∙ scalars-chars text u)

  body_scalars : all_scalars (body_of (chars text)) ≡ true
  body_scalars =
      let t = trailed (skip_leading_whitespace (chars text)) in
      scalars_before (body_of (chars text)) t.0 (ap all_scalars (sym t.1) ∙ skipped_scalars)

  body_chars : chars (trim text) ≡ body_of (chars text)
  unfolding trim_start trim_end
  body_chars =
      ap (λ cs. chars (encode_utf8_all (drop_trailing_whitespace cs))) (chars-encodes (skip_leading_whitespace (chars text)) skipped_scalars)
      ∙ chars-encodes (body_of (chars text)) body_scalars

  trimmed : (body : List ℕ) → chars (trim text) ≡ body → Around text body
  trimmed body e =
      let l = led (chars text) in
      let t = trailed (skip_leading_whitespace (chars text)) in
      let is : body_of (chars text) ≡ body = sym body_chars ∙ e in (
        l.0,
        t.0,
        l.1 ∙ ap (λ cs. l.0 ++ cs) (t.1 ∙ ap (λ cs. cs ++ t.0) is),
        l.2,
        t.2,
      )

-- ---- a bare text

bare_front : (bs : List ℕ) → NonePass is_whitespace bs → skip_leading_whitespace bs ≡ bs
bare_front [] h = refl
bare_front (b ∷ bs) h = skip_black (b ∷ bs) h.0

bare_back_by : (b : ℕ) (bs : List ℕ) → is_whitespace b ≡ false → drop_trailing_whitespace bs ≡ bs
    → drop_trailing_whitespace (b ∷ bs) ≡ b ∷ bs
bare_back_by b bs h e =
    let rest = drop_trailing_whitespace bs in
    ap (λ t. cond (t && length rest == 0) [] (b ∷ rest)) h ∙ ap (λ cs. b ∷ cs) e

bare_back : (bs : List ℕ) → NonePass is_whitespace bs → drop_trailing_whitespace bs ≡ bs
bare_back [] h = refl
bare_back (b ∷ bs) h = bare_back_by b bs h.0 (bare_back bs h.1)

pub bare_trimmed : (bs : List ℕ) → list_all is_plain_byte bs ≡ true → bs ≡ trim bs
unfolding trim_start trim_end
bare_trimmed bs h =
    let ascii = all_ascii is_plain_byte plain_small bs h in
    let bare = none_of is_plain_byte is_whitespace plain_black bs h in
    let front : skip_leading_whitespace (chars bs) ≡ bs =
    ap skip_leading_whitespace (chars-IsAscii bs ascii) ∙ bare_front bs bare in
    let text : encode_utf8_all (skip_leading_whitespace (chars bs)) ≡ bs = ap encode_utf8_all front ∙ encodes-IsAscii bs ascii in
    sym (ap (λ t. encode_utf8_all (drop_trailing_whitespace (chars t))) text
    ∙ ap (λ cs. encode_utf8_all (drop_trailing_whitespace cs)) (chars-IsAscii bs ascii)
    ∙ ap encode_utf8_all (bare_back bs bare) ∙ encodes-IsAscii bs ascii)

-- ---- the line

pub split_at_space : (line rest : List ℕ) (at : ℕ) → at < length line → get_or line at 0 ≡ 32
    → rest ≡ drop (at + 1) line → line ≡ take at line ++ 32 ∷ rest
split_at_space line rest at within space e =
    sym (take-append-drop at line)
    ∙ ap (λ bs. take at line ++ bs) (from_place line at within ∙ ap (λ b. b ∷ drop (at + 1) line) space ∙ ap (λ bs. 32 ∷ bs) (sym e))

some_name : (name : List ℕ) → is_alphanumeric_at name 0 ≡ true → 0 < length name
some_name [] h = absurd (cc)
some_name (b ∷ bs) h = omega arith

not_blank : (name rest : List ℕ) → 0 < length name → NonePass is_whitespace name
    → list_all is_whitespace (name ++ rest) ≡ false
not_blank [] rest n h = absurd (omega (arith, n))
not_blank (b ∷ bs) rest n h = ap (λ t. t && list_all is_whitespace (bs ++ rest)) h.0

module _ (line name rest version : List ℕ) where
  -- the parts of a line in characters
  are_parts : (around : Around rest version) → chars line ≡ name ++ 32 ∷ chars rest → 0 < length name
      → NonePass is_whitespace name → 0 < length version → NonePass is_whitespace version
      → AreItsParts line name version
  are_parts around e some word long bare = record {
    before = [];
    between = 32 ∷ around.0;
    after = around.1;
    pieces = e ∙ ap (λ cs. name ++ 32 ∷ cs) around.2;
    is_before = tt;
    is_between = (refl, around.3);
    is_after = around.4;
    some_name = some;
    is_word = word;
    some_between = omega arith;
    is_bare = record { some = long; front = bare_front version bare; back = bare_back version bare };
  }

  pub plain : IsUtf8 line → IsUtf8 rest → line ≡ name ++ 32 ∷ rest → version ≡ trim rest → is_name name ≡ true
      → 0 < length version → list_all is_plain_byte version ≡ true → ArePlainParts line name version
  unfolding is_blank
  plain u v split trimmed_is is_named long are_plain =
      let tests = both_true (list_all is_name_byte name && is_alphanumeric_at name 0) _ is_named in
      let letters = both_true (list_all is_name_byte name) (is_alphanumeric_at name 0) tests.0 in
      let some = some_name name letters.1 in
      let name_ascii = all_ascii is_name_byte name_small name letters.0 in
      let ascii = all_ascii is_plain_byte plain_small version are_plain in
      let around : Around rest version = trimmed rest v version (ap chars (sym trimmed_is) ∙ chars-IsAscii version ascii) in
      let space : chars (32 ∷ rest) ≡ 32 ∷ chars rest =
      chars_past_char (32 ∷ rest) rest 32 (IsUtf8-append (32 ∷ []) rest (IsUtf8-from_ascii (32 ∷ []) (IsAscii-cons 32 [] (omega arith) IsAscii-nil)) v)
      (ap (λ bs. bs ++ rest) (sym (encode_ascii 32 (omega arith)))) in
      let whole : chars line ≡ name ++ 32 ∷ chars rest =
      ap chars split ∙ chars-append name (32 ∷ rest) (IsUtf8-from_ascii name name_ascii)
      ∙ ap (λ cs. cs ++ chars (32 ∷ rest)) (chars-IsAscii name name_ascii) ∙ ap (λ cs. name ++ cs) space in
      let word = none_of is_name_byte is_whitespace name_black name letters.0 in
      let bare = none_of is_plain_byte is_whitespace plain_black version are_plain in
      let quiet_rest : NonePass (λ c. c == 35) (chars rest) =
      subst (NonePass (λ c. c == 35)) (sym around.2)
      (none_append (λ c. c == 35) around.0 (version ++ around.1) (none_white around.0 around.3)
      (none_append (λ c. c == 35) version around.1 (none_of is_plain_byte (λ c. c == 35) plain_no_comment version are_plain) (none_white around.1 around.4))) in
      let quiet : NonePass (λ c. c == 35) (chars line) =
      subst (NonePass (λ c. c == 35)) (sym whole)
      (none_append (λ c. c == 35) name (32 ∷ chars rest) (none_of is_name_byte (λ c. c == 35) name_no_comment name letters.0) (refl, quiet_rest)) in
      let same : line ≡ without_comment line = no_comment line (chars line) u (encodes-chars line u) quiet in
      record {
        is_kept =
            ap is_blank (sym same) ∙ ap (list_all is_whitespace) whole ∙ not_blank name (32 ∷ chars rest) some word;
        parts =
            ap (λ l. parts_in (trim l)) (sym same)
            ∙ parts_again line name version u (are_parts around whole some word long bare)
            ∙ ap (λ bs. Some (bs, encode_utf8_all version)) (encodes-IsAscii name name_ascii)
            ∙ ap (λ bs. Some (name, bs)) (encodes-IsAscii version ascii);
      }
