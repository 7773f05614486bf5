-- Words of a table, one after another.
use Rattle.std.proofs.Common.{◌≡◌, ℕ, ◌+◌, ◌<◌, map, drop, get_or, length, List, [], ◌∷◌, Option, Some, None}
use Rattle.std.proofs.Common.{Result, Ok, Err, ap, sym, ◌∙◌}
use Rattle.std.proofs.lemmas.List.{drop_more}
use Rattle.std.specs.Borrow.{Bor}
use Rattle.std.specs.Option.{option_map}
use Rattle.pep440_text.specs.declared.Prerelease.{Prerelease}
use Rattle.pep440_text.specs.declared.PrereleaseKind.{PrereleaseKind}
use Rattle.pep440_text.specs.declared.TextFault.{TextFault}
use Rattle.pep440_text.specs.Text.{pre_words}
use Rattle.pep440_text.specs.Reading.{◌>>=◌, behind_word, or_word, word_at, suffix_at, pre_at}

-- the words and meanings of a table
abbrev pub table : {A : Type 0} → List (Bor (List ℕ) × A) → List (List ℕ × A)
table words = map (λ word. (word.0.now, word.1)) words

-- the words from a place on, where one stands there
words_left : {A : Type 0} (words : List (Bor (List ℕ) × A)) (place : ℕ) (word : Bor (List ℕ) × A) (bytes : List ℕ)
    → place < length words → word ≡ get_or words place word
    → word_at (table (drop place words)) bytes ≡ or_word word.1 (behind_word word.0.now bytes)
    (word_at (table (drop (place + 1) words)) bytes)
unfolding word_at
words_left words place word bytes h e =
    ap (λ ws. word_at (table ws) bytes)
    (drop_more words place word h ∙ ap (λ w. w ∷ drop (place + 1) words) (sym e))

pub word_stands : {A : Type 0} (words : List (Bor (List ℕ) × A)) (place : ℕ) (word : Bor (List ℕ) × A) (letters bytes rest : List ℕ)
    → place < length words → word ≡ get_or words place word → letters ≡ word.0.now
    → Some rest ≡ behind_word letters bytes → Some (word.1, rest) ≡ word_at (table (drop place words)) bytes
word_stands words place word letters bytes rest h e l found =
    ap (λ r. or_word word.1 r (word_at (table (drop (place + 1) words)) bytes))
    (found ∙ ap (λ ls. behind_word ls bytes) l) ∙ sym (words_left words place word bytes h e)

pub word_lacks : {A : Type 0} (words : List (Bor (List ℕ) × A)) (place : ℕ) (word : Bor (List ℕ) × A) (letters bytes : List ℕ)
    → place < length words → word ≡ get_or words place word → letters ≡ word.0.now
    → None ≡ behind_word letters bytes → word_at (table (drop (place + 1) words)) bytes ≡ word_at
    (table (drop place words)) bytes
word_lacks words place word letters bytes h e l none =
    ap (λ r. or_word word.1 r (word_at (table (drop (place + 1) words)) bytes))
    (none ∙ ap (λ ls. behind_word ls bytes) l) ∙ sym (words_left words place word bytes h e)

pub no_word : {A : Type 0} (words : List (Bor (List ℕ) × A)) (bytes : List ℕ) → words ≡ []
    → None ≡ word_at (table words) bytes
unfolding word_at
no_word words bytes e = ap (λ ws. word_at (table ws) bytes) (sym e)

-- ---- pre-releases

-- a kind and a number as a pre-release
abbrev pub pre_said : Option (PrereleaseKind × ℕ) → Option Prerelease
pre_said found = option_map (λ said. record { kind = said.0; number = said.1 }) found

abbrev pre_behind : Result (Option (PrereleaseKind × ℕ) × List ℕ) TextFault
    → Result (Option Prerelease × List ℕ) TextFault
pre_behind read = read >>= λ found. Ok (pre_said found.0, found.1)

pub pre_fails : (bytes : List ℕ) (fault : TextFault) → suffix_at pre_words bytes ≡ Err fault
    → pre_at bytes ≡ Err fault
unfolding pre_at
pre_fails bytes fault h = ap pre_behind h

pub pre_found : (bytes rest : List ℕ) (found : Option (PrereleaseKind × ℕ)) (pre : Option Prerelease)
    → suffix_at pre_words bytes ≡ Ok (found, rest) → pre ≡ pre_said found → pre_at bytes ≡ Ok (pre, rest)
unfolding pre_at
pre_found bytes rest found pre h e = ap pre_behind h ∙ ap (λ p. Ok (p, rest)) (sym e)
