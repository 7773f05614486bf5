-- The run of characters at a place is a word exactly where the word stands there and the run ends behind it.
use Rattle.std.proofs.Common.{◌≡◌, ◌≢◌, ℕ, Bool, true, false, List, [], ◌∷◌, ◌++◌, length, drop, refl}
use Rattle.std.proofs.Common.{None, ap, sym, subst, ◌∙◌}
use Rattle.std.specs.Prelude.{MatchBool, encode_utf8_all}
use Rattle.std.proofs.lemmas.List.{append_cancel_left}
use Rattle.std.proofs.lemmas.Slice.Eq.{bytes_eq-Decides}
use Rattle.std.proofs.lemmas.Str.{chars-append, chars-encodes, encodes-append, encodes-chars, encodes_same}
use Rattle.std.specs.Char.{is_whitespace}
use Rattle.std.specs.Str.{bytes_eq, chars, all_scalars, skip_leading_whitespace, IsUtf8, IsCharBoundary}
use Rattle.std.specs.Str.Pattern.{FindsTextPrefix, HasPrefixMatch}
use Rattle.pep508_marker_parser.specs.MarkerReading.{Connective, And, Or, word_of, run_at, run_ends, is_next}
use Rattle.pep508_marker_parser.specs.MarkerReading.{behind_run}
use Rattle.pep508_error.proofs.Cuts.{Ends, cut_again, cut_found, cut_is}
use Rattle.pep508_marker_parser.proofs.Joined.{own_word, word_unspaced, same_word}

-- ---- runs

ends_there : (cs : List ℕ) → run_ends cs ≡ true → Ends is_whitespace cs
ends_there [] h = tt
ends_there (c ∷ cs) h = h

ends_so : (cs : List ℕ) → Ends is_whitespace cs → run_ends cs ≡ true
ends_so [] h = refl
ends_so (c ∷ cs) h = h

-- the word stands first in the characters, and its run ends behind it
pub record Stands (word : Connective) (cs : List ℕ) : Type 0 where
  pub later : List ℕ
  pub split : cs ≡ word_of word ++ later
  pub ends : run_ends later ≡ true

pub run_from : (word : Connective) (cs later : List ℕ) → cs ≡ word_of word ++ later → run_ends later ≡ true
    → run_at cs ≡ (word_of word, later)
run_from word cs later h e =
    ap run_at h ∙ cut_again is_whitespace (word_of word) later (word_unspaced word) (ends_there later e)

-- whether the run here is the word
abbrev pub is_run : Connective → List ℕ → Bool
is_run word cs = bytes_eq (encode_utf8_all (run_at cs).0) (word_of word)

pub run_is : (word : Connective) (cs : List ℕ) → Stands word cs → is_run word cs ≡ true
run_is word cs s =
    ap (λ (p : List ℕ × List ℕ). bytes_eq (encode_utf8_all p.0) (word_of word)) (run_from word cs s.later s.split s.ends)
    ∙ ap (λ bs. bytes_eq bs (word_of word)) (own_word word) ∙ same_word word

pub run_stands : (word : Connective) (cs : List ℕ) → is_run word cs ≡ true → Stands word cs
run_stands word cs h =
    let k = cut_found is_whitespace cs in
    let cut = cut_is is_whitespace cs k in
    let here : bytes_eq (encode_utf8_all k.front) (word_of word) ≡ true =
    ap (λ (p : List ℕ × List ℕ). bytes_eq (encode_utf8_all p.0) (word_of word)) (sym cut) ∙ h in
    let is_word : k.front ≡ word_of word =
    encodes_same k.front (word_of word) ((bytes_eq-Decides (encode_utf8_all k.front) (word_of word)).0 here ∙ sym (own_word word)) in
    record {
      later = k.rest;
      split = k.split ∙ ap (λ ds. ds ++ k.rest) is_word;
      ends = ends_so k.rest k.ends;
    }

-- ---- behind white space

not_so : (b : Bool) → (b ≡ true → ⊥) → false ≡ b
not_so true h = absurd (h refl)
not_so false h = refl

module _ (word : Connective) (here cs : List ℕ) (s : cs ≡ skip_leading_whitespace here) where
  pub next_passed : (later : List ℕ) → cs ≡ word_of word ++ later → run_ends later ≡ true → true ≡ is_next word here
  next_passed later h e =
      sym (run_is word cs (record { later = later; split = h; ends = e })) ∙ ap (is_run word) s

  pub behind_passed : (later : List ℕ) → cs ≡ word_of word ++ later → run_ends later ≡ true → later ≡ behind_run here
  behind_passed later h e =
      sym (ap (λ (p : List ℕ × List ℕ). p.1) (run_from word cs later h e))
      ∙ ap (λ (ds : List ℕ). (run_at ds).1) s

  -- the word isn't there
  pub next_lacks : ((later : List ℕ) → cs ≢ word_of word ++ later) → false ≡ is_next word here
  next_lacks h =
      not_so (is_run word cs) (λ e. let k = run_stands word cs e in h k.later k.split) ∙ ap (is_run word) s

  -- the run goes on behind it
  pub next_goes_on : (later : List ℕ) → cs ≡ word_of word ++ later → run_ends later ≡ false → false ≡ is_next word here
  next_goes_on later h e =
      not_so (is_run word cs)
      (λ t. let k = run_stands word cs t in
      let same : k.later ≡ later = append_cancel_left (word_of word) k.later later (sym k.split ∙ h) in
      let both : true ≡ false = sym k.ends ∙ ap run_ends same ∙ e in cc)
      ∙ ap (is_run word) s

-- ---- by bytes

word_scalars : (word : Connective) → all_scalars (word_of word) ≡ true
word_scalars And = refl
word_scalars Or = refl

word_utf8 : (word : Connective) → IsUtf8 (word_of word)
word_utf8 word = (word_of word, (word_scalars word, own_word word))

own_chars : (word : Connective) → chars (word_of word) ≡ word_of word
own_chars word = ap chars (sym (own_word word)) ∙ chars-encodes (word_of word) (word_scalars word)

prefix_there : (r : Bool) (front text : List ℕ)
    → MatchBool r (HasPrefixMatch (FindsTextPrefix front) text) (FindsTextPrefix front text None) → r ≡ true
    → (text ≡ front ++ drop (length front) text) × IsCharBoundary text (length front)
prefix_there true front text h e = (h.1.1 ∙ ap (λ (n : ℕ). front ++ drop n text) h.1.0, h.1.2)
prefix_there false front text h e = absurd (cc)

prefix_lacks : (r : Bool) (front text : List ℕ)
    → MatchBool r (HasPrefixMatch (FindsTextPrefix front) text) (FindsTextPrefix front text None) → r ≡ false
    → (rest : List ℕ) → text ≢ front ++ rest
prefix_lacks true front text h e = absurd (cc)
prefix_lacks false front text h e = h

-- what `starts_with` answers of the text at the place
module _ (word : Connective) (r : Bool) (front text here : List ℕ) (w : front ≡ word_of word) (p : text ≡ here)
    (cases : MatchBool r (HasPrefixMatch (FindsTextPrefix front) text) (FindsTextPrefix front text None)) where
  pub strips_within : r ≡ true → IsCharBoundary here (length front)
  strips_within t = subst (λ (xs : List ℕ). IsCharBoundary xs (length front)) p (prefix_there r front text cases t).1

  pub strips : (rest : List ℕ) → r ≡ true → rest ≡ drop (length front) here → chars here ≡ word_of word ++ chars rest
  strips rest t d =
      let split : here ≡ word_of word ++ rest =
      sym p ∙ (prefix_there r front text cases t).0 ∙ ap (λ (xs : List ℕ). front ++ drop (length front) xs) p
      ∙ ap (λ (xs : List ℕ). front ++ xs) (sym d) ∙ ap (λ (xs : List ℕ). xs ++ rest) w in
      ap chars split ∙ chars-append (word_of word) rest (word_utf8 word)
      ∙ ap (λ (xs : List ℕ). xs ++ chars rest) (own_chars word)

  pub strips_nothing : IsUtf8 text → r ≡ false → (later : List ℕ) → chars here ≢ word_of word ++ later
  strips_nothing u t later h =
      prefix_lacks r front text cases t (encode_utf8_all later)
      (sym (encodes-chars text u) ∙ ap (λ (xs : List ℕ). encode_utf8_all (chars xs)) p ∙ ap encode_utf8_all h
      ∙ encodes-append (word_of word) later
      ∙ ap (λ (xs : List ℕ). xs ++ encode_utf8_all later) (own_word word ∙ sym w))
