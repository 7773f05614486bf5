-- A side of a comparison is read as the grammar has it.
use Rattle.std.proofs.Common.{◌≡◌, ◌⊎◌, ℕ, ◌<◌, ◌==◌, ◌||◌, arith, lit<, length-append, Bool, true, false}
use Rattle.std.proofs.Common.{if◌then◌else◌, List, [], ◌∷◌, ◌++◌}
use Rattle.std.proofs.Common.{Some, None, Ok, inl, inr, refl, ap, sym, subst, ◌∙◌}
use Rattle.std.specs.Prelude.{Option, encode_utf8_all}
use Rattle.std.proofs.lemmas.List.{append-nil}
use Rattle.std.proofs.lemmas.Str.{encode_ascii}
use Rattle.std.specs.Prelude.{length}
use Rattle.std.specs.Char.{is_whitespace}
use Rattle.pep508_marker.specs.Values.{ValueRecord, Quoted, key_of_text, version_key_of, text_key_of}
use Rattle.pep508_comparison_parser.specs.SideReading.{Reading, ends_key, if_quoted, if_side, is_quote}
use Rattle.pep508_error.specs.Cuts.{cut_before, cut_around}
use Rattle.pep508_comparison_parser.specs.SideReading.{quoted_at, key_at, side_at}
use Rattle.pep508_marker_parser.specs.MarkerText.{IsQuotedText, IsKeyText, IsSideText}
use Rattle.pep508_error.proofs.Tests.{the_same, or_cases, neither}
use Rattle.pep508_error.proofs.Cuts.{NonePasses, Ends, cut_again, cut_found, cut_is, around_again}
use Rattle.pep508_error.proofs.Cuts.{around_found}
use Rattle.pep508_error.proofs.Cuts.{at_places, from_places}
use Rattle.pep508_marker_parser.proofs.Ends.{ends_before, before_ends}
use Rattle.pep508_error.proofs.Steps.{ok_same}

-- ---- quoted texts

quoted_again : (quote : ℕ) (inside rest : List ℕ) → NonePasses (λ c. c == quote) inside
    → quoted_at quote (inside ++ quote ∷ rest) ≡ Ok (Quoted (encode_utf8_all inside), rest)
quoted_again quote inside rest h = ap if_quoted (around_again quote inside rest h)

quoted_by : (quote : ℕ) (cs : List ℕ) (found : ValueRecord × List ℕ) (parts : Option (List ℕ × List ℕ))
    → is_quote quote ≡ true → cut_around quote cs ≡ parts → if_quoted parts ≡ Ok found
    → IsQuotedText (quote ∷ cs) found.0 found.1
quoted_by quote cs found None q e h = absurd (cc)
quoted_by quote cs found (Some parts) q e h =
    let k = around_found quote cs parts e in
    let made : ValueRecord × List ℕ = (Quoted parts.0, parts.1) in
    let same : made ≡ found = ok_same made found h in
    subst (λ (p : ValueRecord × List ℕ). IsQuotedText (quote ∷ cs) p.0 p.1) {x = made} same (record {
      quote = quote;
      inside = k.front;
      split = ap (λ ds. quote ∷ ds) k.split;
      quotes = q;
      closed = at_places (λ c. c == quote) k.front k.passes;
      encoded = ap Quoted k.encoded;
    })

-- ---- keys

abbrev side_if : ℕ → List ℕ → Bool → Reading ValueRecord
side_if c cs t = if t then quoted_at c cs else key_at (cut_before ends_key (c ∷ cs))

if_side_found : (read : Option ValueRecord) (rest : List ℕ) (found : ValueRecord × List ℕ)
    → if_side read rest ≡ Ok found → (read ≡ Some found.0) × (rest ≡ found.1)
if_side_found None rest found h = absurd (cc)
if_side_found (Some side) rest found h =
    let made : ValueRecord × List ℕ = (side, rest) in
    let same : made ≡ found = ok_same made found h in
    (ap (λ (p : ValueRecord × List ℕ). Some p.0) same, ap (λ (p : ValueRecord × List ℕ). p.1) same)

key_found : (cs : List ℕ) (found : ValueRecord × List ℕ) → key_at (cut_before ends_key cs) ≡ Ok found
    → IsKeyText cs found.0 found.1
key_found cs found h =
    let k = cut_found ends_key cs in
    let e = if_side_found (key_of_text (encode_utf8_all k.front)) k.rest found (sym (ap key_at (cut_is ends_key cs k)) ∙ h) in
    record {
      written = k.front;
      split = k.split ∙ ap (λ ds. k.front ++ ds) e.1;
      whole = at_places ends_key k.front k.passes;
      ends = ends_before ends_key found.1 (subst (Ends ends_key) e.1 k.ends);
      is_key = e.0;
    }

side_by : (c : ℕ) (cs : List ℕ) (found : ValueRecord × List ℕ) (t : Bool) → is_quote c ≡ t
    → side_if c cs t ≡ Ok found → IsSideText (c ∷ cs) found.0 found.1
side_by c cs found true e h = inl (quoted_by c cs found (cut_around c cs) e refl h)
side_by c cs found false e h = inr (key_found (c ∷ cs) found h)

pub side_found : (cs : List ℕ) (found : ValueRecord × List ℕ) → side_at cs ≡ Ok found → IsSideText cs found.0 found.1
side_found [] found h = absurd (cc)
side_found (c ∷ cs) found h = side_by c cs found (is_quote c) refl h

-- ---- the characters with which no key begins

abbrev IsNoStart : ℕ → Type 0
IsNoStart k = (text : List ℕ) → key_of_text (k ∷ text) ≡ None

no_quote_39 : IsNoStart 39
unfolding version_key_of text_key_of
no_quote_39 text = refl

no_quote_34 : IsNoStart 34
unfolding version_key_of text_key_of
no_quote_34 text = refl

no_bracket_40 : IsNoStart 40
unfolding version_key_of text_key_of
no_bracket_40 text = refl

abbrev IsOwn : ℕ → Type 0
IsOwn k = encode_utf8_all (k ∷ []) ≡ k ∷ []

own_39 : IsOwn 39
own_39 = append-nil _ ∙ encode_ascii 39 (lit< tt)

own_34 : IsOwn 34
own_34 = append-nil _ ∙ encode_ascii 34 (lit< tt)

own_40 : IsOwn 40
own_40 = append-nil _ ∙ encode_ascii 40 (lit< tt)

no_empty_key : key_of_text [] ≡ None
unfolding version_key_of text_key_of
no_empty_key = refl

not_first : (k : ℕ) → IsOwn k → IsNoStart k → (c : ℕ) (cs : List ℕ) (value : ValueRecord)
    → key_of_text (encode_utf8_all (c ∷ cs)) ≡ Some value → (t : Bool) → (c == k) ≡ t → t ≡ false
not_first k own none c cs value h false e = refl
not_first k own none c cs value h true e =
    let read : key_of_text (encode_utf8_all (c ∷ cs)) ≡ None =
    ap (λ x. key_of_text (encode_utf8_all (x ∷ cs))) (the_same c k e)
    ∙ ap (λ bs. key_of_text (bs ++ encode_utf8_all cs)) (sym (append-nil _) ∙ own) ∙ none (encode_utf8_all cs) in
    absurd (cc)

-- ---- what is written is read

key_quoteless : (c : ℕ) (cs : List ℕ) (value : ValueRecord) → key_of_text (encode_utf8_all (c ∷ cs)) ≡ Some value
    → is_quote c ≡ false
key_quoteless c cs value h =
    neither (c == 39) (c == 34)
    (not_first 39 (own_39) no_quote_39 c cs value h (c == 39) refl)
    (not_first 34 (own_34) no_quote_34 c cs value h (c == 34) refl)

key_again : (written rest : List ℕ) (value : ValueRecord) → NonePasses ends_key written → Ends ends_key rest
    → key_of_text (encode_utf8_all written) ≡ Some value → side_at (written ++ rest) ≡ Ok (value, rest)
key_again [] rest value n k h = (let none = no_empty_key in absurd (cc))
key_again (c ∷ cs) rest value n k h =
    ap (side_if c (cs ++ rest)) (key_quoteless c cs value h)
    ∙ ap key_at (cut_again ends_key (c ∷ cs) rest n k)
    ∙ ap (λ read. if_side read rest) h

pub side_again : (cs : List ℕ) (value : ValueRecord) (rest : List ℕ) → IsSideText cs value rest
    → side_at cs ≡ Ok (value, rest)
side_again cs value rest (inl h) =
    ap side_at h.split
    ∙ ap (side_if h.quote (h.inside ++ h.quote ∷ rest)) h.quotes
    ∙ quoted_again h.quote h.inside rest (from_places (λ c. c == h.quote) h.inside h.closed)
    ∙ ap (λ v. Ok (v, rest)) (sym h.encoded)
side_again cs value rest (inr h) =
    ap side_at h.split
    ∙ key_again h.written rest value (from_places ends_key h.written h.whole) (before_ends ends_key rest h.ends) h.is_key

-- ---- how a side begins, and that it is some

pub record Begins (cs rest : List ℕ) : Type 0 where
  pub first : ℕ
  pub others : List ℕ
  pub split : cs ≡ first ∷ others
  pub unspaced : is_whitespace first ≡ false
  pub unbracketed : (first == 40) ≡ false
  pub longer : length rest < length cs

unended_unspaced : (c : ℕ) (t : Bool) → is_whitespace c ≡ t → ends_key c ≡ false → t ≡ false
unended_unspaced c true e h =
    let yes : ends_key c ≡ true = ap (λ t. t || c == 62 || c == 61 || c == 60 || c == 33 || c == 126 || c == 41) e in
    absurd (cc)
unended_unspaced c false e h = refl

quote_begins : (c : ℕ) → (c == 39) ≡ true ⊎ (c == 34) ≡ true → (is_whitespace c ≡ false) × ((c == 40) ≡ false)
quote_begins c (inl h) = (ap is_whitespace (the_same c 39 h), ap (λ x. x == 40) (the_same c 39 h))
quote_begins c (inr h) = (ap is_whitespace (the_same c 34 h), ap (λ x. x == 40) (the_same c 34 h))

key_begins : (cs written rest : List ℕ) (value : ValueRecord) → cs ≡ written ++ rest → NonePasses ends_key written
    → key_of_text (encode_utf8_all written) ≡ Some value → Begins cs rest
key_begins cs [] rest value e n h = (let none = no_empty_key in absurd (cc))
key_begins cs (c ∷ ws) rest value e n h =
    let l = length-append ws rest in
    let m : length cs ≡ length (c ∷ (ws ++ rest)) = ap length e in
    record {
      first = c;
      others = ws ++ rest;
      split = e;
      unspaced = unended_unspaced c (is_whitespace c) refl n.0;
      unbracketed = not_first 40 own_40 no_bracket_40 c ws value h (c == 40) refl;
      longer = omega (arith, l, m);
    }

pub side_begins : (cs : List ℕ) (value : ValueRecord) (rest : List ℕ) → IsSideText cs value rest → Begins cs rest
side_begins cs value rest (inl h) =
    let b = quote_begins h.quote (or_cases (h.quote == 39) (h.quote == 34) h.quotes) in
    let l = length-append h.inside (h.quote ∷ rest) in
    let m : length cs ≡ length (h.quote ∷ (h.inside ++ h.quote ∷ rest)) = ap length h.split in
    record {
      first = h.quote;
      others = h.inside ++ h.quote ∷ rest;
      split = h.split;
      unspaced = b.0;
      unbracketed = b.1;
      longer = omega (arith, l, m);
    }
side_begins cs value rest (inr h) =
    key_begins cs h.written rest value h.split (from_places ends_key h.written h.whole) h.is_key
