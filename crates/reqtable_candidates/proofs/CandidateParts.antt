-- The parts of a candidate line are those of the grammar.
use Rattle.std.proofs.Common.{◌≡◌, ℕ, ◌+◌, ◌<◌, ◌||◌, ◌&&◌, Bool, true, false, if◌then◌else◌, List, [], ◌∷◌}
use Rattle.std.proofs.Common.{◌++◌, length, take, drop, Option, Some, None, refl, ap, sym, subst, ◌∙◌}
use Rattle.std.proofs.Common.{append_assoc, arith}
use Rattle.std.proofs.lemmas.List.{append-nil, take-append-drop}
use Rattle.std.proofs.lemmas.Str.{chars-encodes, scalars-chars}
use Rattle.std.specs.Char.{is_whitespace}
use Rattle.std.specs.List.{list_any, before_first, after_first, position_or_len}
use Rattle.std.specs.Str.{chars, encode_utf8_all, all_scalars, IsUtf8, NonePass, skip_leading_whitespace}
use Rattle.std.specs.Str.{drop_trailing_whitespace, trim_start, trim_end, trim}
use Rattle.reqtable_candidates.specs.CandidateLine.{parts_in}
use Rattle.reqtable_candidates.specs.CandidateText.{AreWhite, AreItsParts}
use Rattle.reqtable_candidates.proofs.Words.{some_same, both_true, some_any, before_place, after_place}
use Rattle.reqtable_candidates.proofs.White.{BeginsBlack, led, trailed, skip_white, skip_black, white_dropped}
use Rattle.reqtable_candidates.proofs.White.{bare_stays, dropped_again, end_is_bare, ends_in_none, still_black}

-- ---- characters that can be encoded

scalars_behind : (cs ds : List ℕ) → all_scalars (cs ++ ds) ≡ true → all_scalars ds ≡ true
scalars_behind [] ds h = h
scalars_behind (c ∷ cs) ds h = scalars_behind cs ds (both_true _ _ h).1

pub scalars_before : (cs ds : List ℕ) → all_scalars (cs ++ ds) ≡ true → all_scalars cs ≡ true
scalars_before [] ds h = refl
scalars_before (c ∷ cs) ds h =
    let both = both_true _ (all_scalars (cs ++ ds)) h in
    ap (λ t. t && all_scalars cs) both.0 ∙ scalars_before cs ds both.1

-- ---- a text without the white space around it

-- the characters of a text without the white space around it
abbrev pub body_of : List ℕ → List ℕ
body_of cs = drop_trailing_whitespace (skip_leading_whitespace cs)

module _ (text : List ℕ) (u : IsUtf8 text) where
  skipped_scalars : all_scalars (skip_leading_whitespace (chars text)) ≡ true
  skipped_scalars =
      let l = led (chars text) in
      scalars_behind l.0 (skip_leading_whitespace (chars text)) (ap all_scalars (sym l.1) ∙ scalars-chars text u)

  body_scalars : all_scalars (body_of (chars text)) ≡ true
  body_scalars =
      let t = trailed (skip_leading_whitespace (chars text)) in
      scalars_before (body_of (chars text)) t.0 (ap all_scalars (sym t.1) ∙ skipped_scalars)

  body_chars : chars (trim text) ≡ body_of (chars text)
  unfolding trim_start trim_end
  body_chars =
      ap (λ cs. chars (encode_utf8_all (drop_trailing_whitespace cs))) (chars-encodes (skip_leading_whitespace (chars text)) skipped_scalars)
      ∙ chars-encodes (body_of (chars text)) body_scalars

-- the parts of some characters
abbrev pub parts_of : List ℕ → Option (List ℕ × List ℕ)
parts_of cs =
    if list_any is_whitespace cs
    then Some (encode_utf8_all (before_first is_whitespace cs), encode_utf8_all (skip_leading_whitespace (after_first is_whitespace cs)))
    else None

later_skipped : (cs : List ℕ) → all_scalars cs ≡ true
    → trim_start (encode_utf8_all (after_first is_whitespace cs)) ≡ encode_utf8_all (skip_leading_whitespace (after_first is_whitespace cs))
unfolding trim_start
later_skipped cs h =
    let n = position_or_len is_whitespace cs + 1 in
    let later : all_scalars (drop n cs) ≡ true =
    scalars_behind (take n cs) (drop n cs) (ap all_scalars (take-append-drop n cs) ∙ h) in
    ap (λ ds. encode_utf8_all (skip_leading_whitespace ds)) (chars-encodes (drop n cs) later)

pub parts_in_body : (text : List ℕ) → IsUtf8 text → parts_in (trim text) ≡ parts_of (body_of (chars text))
parts_in_body text u =
    let body = body_of (chars text) in
    ap (λ cs. if list_any is_whitespace cs
    then Some (encode_utf8_all (before_first is_whitespace cs), trim_start (encode_utf8_all (after_first is_whitespace cs)))
    else None) (body_chars text u)
    ∙ ap (λ bs. if list_any is_whitespace body then Some (encode_utf8_all (before_first is_whitespace body), bs) else None)
    (later_skipped body (body_scalars text u))

-- ---- what is cut is the grammar's

-- some characters around the first that is white space
abbrev Cut : List ℕ → Type 0
Cut cs =
    (front : List ℕ) × (white : ℕ) × (rest : List ℕ) × (cs ≡ front ++ white ∷ rest) × NonePass is_whitespace front
    × (is_whitespace white ≡ true)

cut_by : (c : ℕ) (cs : List ℕ) (t : Bool) → is_whitespace c ≡ t → (t || list_any is_whitespace cs) ≡ true
    → (list_any is_whitespace cs ≡ true → Cut cs) → Cut (c ∷ cs)
cut_by c cs true e h more = ([], c, cs, refl, tt, e)
cut_by c cs false e h more =
    let m = more h in (c ∷ m.0, m.1, m.2, ap (λ ds. c ∷ ds) m.3, (e, m.4), m.5)

cut_at : (cs : List ℕ) → list_any is_whitespace cs ≡ true → Cut cs
cut_at [] h = absurd (cc)
cut_at (c ∷ cs) h = cut_by c cs (is_whitespace c) refl h (cut_at cs)

first_is_some : (name : List ℕ) (c : ℕ) (rest : List ℕ) → BeginsBlack (name ++ c ∷ rest) → is_whitespace c ≡ true → 0 < length name
first_is_some [] c rest b h = absurd (cc)
first_is_some (d ∷ ds) c rest b h = omega arith

last_is_some : (front version : List ℕ) → drop_trailing_whitespace (front ++ version) ≡ front ++ version
    → (white : List ℕ) (cs : List ℕ) → front ≡ cs ++ white → 0 < length white → AreWhite white → 0 < length version
last_is_some front [] e white cs f n h =
    let same : front ++ [] ≡ cs ++ white = append-nil front ∙ f in
    absurd (ends_in_none cs white n h (ap drop_trailing_whitespace (sym same) ∙ e ∙ same))
last_is_some front (v ∷ vs) e white cs f n h = omega arith

-- what was read, with its parts in characters
abbrev pub Found : List ℕ → List ℕ × List ℕ → Type 0
Found text read =
    (name : List ℕ) × (version : List ℕ) × AreItsParts text name version
    × (read.0 ≡ encode_utf8_all name) × (read.1 ≡ encode_utf8_all version)

module _ (text : List ℕ) where
  abbrev body : List ℕ
  body = body_of (chars text)

  cut_found : Cut body → Found text
      (encode_utf8_all (before_first is_whitespace body), encode_utf8_all (skip_leading_whitespace (after_first is_whitespace body)))
  cut_found cut =
      let name = cut.0 in
      let white = cut.1 in
      let rest = cut.2 in
      let version = skip_leading_whitespace rest in
      let l = led (chars text) in
      let t = trailed (skip_leading_whitespace (chars text)) in
      let m = led rest in
      let between : List ℕ = white ∷ m.0 in
      let whole : body ≡ name ++ (between ++ version) = cut.3 ∙ ap (λ ds. name ++ white ∷ ds) m.1 in
      let stays : drop_trailing_whitespace (name ++ (between ++ version)) ≡ name ++ (between ++ version) =
      ap drop_trailing_whitespace (sym whole) ∙ dropped_again (skip_leading_whitespace (chars text)) ∙ whole in
      let front_stays : drop_trailing_whitespace ((name ++ between) ++ version) ≡ (name ++ between) ++ version =
      ap drop_trailing_whitespace (append_assoc name between version) ∙ stays ∙ sym (append_assoc name between version) in
      let black : BeginsBlack (name ++ white ∷ rest) =
      subst BeginsBlack cut.3 (still_black (skip_leading_whitespace (chars text)) l.3) in
      let some : 0 < length between = omega arith in
      let are_parts : AreItsParts text name version = record {
        before = l.0;
        between = between;
        after = t.0;
        pieces = l.1 ∙ ap (λ ds. l.0 ++ ds) (t.1 ∙ ap (λ ds. ds ++ t.0) whole
            ∙ append_assoc name (between ++ version) t.0 ∙ ap (λ ds. name ++ ds) (append_assoc between version t.0));
        is_before = l.2;
        is_between = (cut.5, m.2);
        is_after = t.2;
        some_name = first_is_some name white rest black cut.5;
        is_word = cut.4;
        some_between = some;
        is_bare = record {
          some = last_is_some (name ++ between) version front_stays between name refl some (cut.5, m.2);
          front = skip_black version m.3;
          back = end_is_bare (name ++ between) version front_stays;
        };
      } in (
        name,
        version,
        are_parts,
        ap encode_utf8_all (ap (before_first is_whitespace) cut.3 ∙ before_place is_whitespace name white rest cut.4 cut.5),
        ap (λ ds. encode_utf8_all (skip_leading_whitespace ds)) (ap (after_first is_whitespace) cut.3 ∙ after_place is_whitespace name white rest cut.4 cut.5),
      )

  found_by : (t : Bool) (read : List ℕ × List ℕ) → list_any is_whitespace body ≡ t
      → (if t then Some (encode_utf8_all (before_first is_whitespace body), encode_utf8_all (skip_leading_whitespace (after_first is_whitespace body))) else None) ≡ Some read
      → Found text read
  found_by true read e h =
      subst (Found text) (some_same _ read h) (cut_found (cut_at body e))
  found_by false read e h = absurd (cc)

pub parts_found : (text : List ℕ) (read : List ℕ × List ℕ) → IsUtf8 text → parts_in (trim text) ≡ Some read → Found text read
parts_found text read u h = found_by text (list_any is_whitespace (body_of (chars text))) read refl (sym (parts_in_body text u) ∙ h)

-- ---- what is the grammar's is cut

word_black : (name rest : List ℕ) → 0 < length name → NonePass is_whitespace name → BeginsBlack (name ++ rest)
word_black [] rest n h = absurd (omega arith)
word_black (c ∷ cs) rest n h = h.0

parts_again_by : (text name between version : List ℕ) → body_of (chars text) ≡ name ++ (between ++ version) → NonePass is_whitespace name
    → 0 < length between → AreWhite between → skip_leading_whitespace version ≡ version
    → parts_of (body_of (chars text)) ≡ Some (encode_utf8_all name, encode_utf8_all version)
parts_again_by text name [] version e none n h bare = absurd (omega arith)
parts_again_by text name (c ∷ cs) version e none n h bare =
    let any : list_any is_whitespace (name ++ (c ∷ (cs ++ version))) ≡ true = some_any is_whitespace name c (cs ++ version) none h.0 in
    let front = before_place is_whitespace name c (cs ++ version) none h.0 in
    let back = after_place is_whitespace name c (cs ++ version) none h.0 in
    ap parts_of e
    ∙ ap (λ t. if t then Some (encode_utf8_all (before_first is_whitespace (name ++ (c ∷ (cs ++ version)))), encode_utf8_all (skip_leading_whitespace (after_first is_whitespace (name ++ (c ∷ (cs ++ version)))))) else None) any
    ∙ ap (λ ds. Some (encode_utf8_all ds, encode_utf8_all (skip_leading_whitespace (after_first is_whitespace (name ++ (c ∷ (cs ++ version))))))) front
    ∙ ap (λ ds. Some (encode_utf8_all name, encode_utf8_all (skip_leading_whitespace ds))) back
    ∙ ap (λ ds. Some (encode_utf8_all name, encode_utf8_all ds)) (skip_white cs version h.1 ∙ bare)

pub parts_again : (text name version : List ℕ) → IsUtf8 text → AreItsParts text name version
    → parts_in (trim text) ≡ Some (encode_utf8_all name, encode_utf8_all version)
parts_again text name version u r =
    let line = name ++ (r.between ++ (version ++ r.after)) in
    let skipped : skip_leading_whitespace (chars text) ≡ line =
    ap skip_leading_whitespace r.pieces ∙ skip_white r.before line r.is_before
    ∙ skip_black line (word_black name (r.between ++ (version ++ r.after)) r.some_name r.is_word) in
    let grouped : line ≡ ((name ++ r.between) ++ version) ++ r.after =
    sym (append_assoc (name ++ r.between) version r.after ∙ append_assoc name r.between (version ++ r.after)) in
    let whole : body_of (chars text) ≡ name ++ (r.between ++ version) =
    ap drop_trailing_whitespace (skipped ∙ grouped) ∙ white_dropped ((name ++ r.between) ++ version) r.after r.is_after
    ∙ bare_stays (name ++ r.between) version r.is_bare.back r.is_bare.some ∙ append_assoc name r.between version in
    parts_in_body text u ∙ parts_again_by text name r.between version whole r.is_word r.some_between r.is_between r.is_bare.front
