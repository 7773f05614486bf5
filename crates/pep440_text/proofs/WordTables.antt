-- One of some words at the front of a text: the first that stands there is the longest.
use Rattle.std.proofs.Common.{◌≡◌, ℕ, ◌<◌, ◌≤◌, ◌==◌, Bool, true, false, not, ◌&&◌, inl, inr, cond}
use Rattle.std.proofs.Common.{if◌then◌else◌, length, map, List, [], ◌∷◌, ◌++◌, Option, Some, None, refl, ap}
use Rattle.std.proofs.Common.{sym, ◌∙◌, arith}
use Rattle.std.proofs.lemmas.Bool.Decides.{nat_tests}
use Rattle.std.specs.Char.{to_ascii_lowercase, is_ascii_lowercase}
use Rattle.std.specs.List.{AllByRecursion, list_all}
use Rattle.pep440_text.specs.Text.{IsOneOf, pre_words, post_words, dev_words}
use Rattle.pep440_text.specs.Reading.{behind_word, or_word, word_at}

-- whether one word is a front of another
abbrev pub begins : List ℕ → List ℕ → Bool
begins [] other = true
begins (x ∷ xs) [] = false
begins (x ∷ xs) (y ∷ ys) = cond (x == y) (begins xs ys) false

abbrev pub is_word : List ℕ → Bool
is_word [] = false
is_word (x ∷ xs) = is_ascii_lowercase x && list_all is_ascii_lowercase xs

-- words of letters, none of which is a front of a later one
abbrev pub IsTable : {A : Type 0} → List (List ℕ × A) → Type 0
IsTable [] = Unit {0}
IsTable (word ∷ words) = (is_word word.0 ≡ true) × (list_all (λ later. not (begins word.0 later.0)) words ≡ true) × IsTable words

pub pre_table : IsTable pre_words
pre_table = (refl, refl, (refl, refl, (refl, refl, (refl, refl, (refl, refl, (refl, refl, (refl, refl, (refl, refl, tt))))))))

pub post_table : IsTable post_words
post_table = (refl, refl, (refl, refl, (refl, refl, tt)))

pub dev_table : IsTable dev_words
dev_table = (refl, refl, tt)

-- letters in either case
abbrev pub AllLow : List ℕ → Type 0
AllLow = AllByRecursion (λ c. is_ascii_lowercase (to_ascii_lowercase c) ≡ true)

pub and_both : (a b : Bool) → (a && b) ≡ true → (a ≡ true) × (b ≡ true)
and_both true b e = (refl, e)
and_both false b e = absurd (cc)

letters_by : (w word : List ℕ) → map to_ascii_lowercase w ≡ word → list_all is_ascii_lowercase word ≡ true → AllLow w
letters_by [] word e h = tt
letters_by (c ∷ cs) [] e h = absurd (cc)
letters_by (c ∷ cs) (x ∷ xs) e h =
    let p : to_ascii_lowercase c ≡ x = cc in
    let q : map to_ascii_lowercase cs ≡ xs = cc in
    let k = and_both (is_ascii_lowercase x) (list_all is_ascii_lowercase xs) h in
    (ap is_ascii_lowercase p ∙ k.0, letters_by cs xs q k.1)

word_letters : (w word : List ℕ) → map to_ascii_lowercase w ≡ word → is_word word ≡ true → AllLow w × (0 < length w)
word_letters [] [] e h = absurd (cc)
word_letters [] (x ∷ xs) e h = absurd (cc)
word_letters (c ∷ cs) [] e h = absurd (cc)
word_letters (c ∷ cs) (x ∷ xs) e h = (letters_by (c ∷ cs) (x ∷ xs) e h, omega arith)

-- one of the words is letters
pub one_of_letters : {A : Type 0} (words : List (List ℕ × A)) → IsTable words → (w : List ℕ) (m : A) → IsOneOf words w m → AllLow w × (0 < length w)
one_of_letters [] t w m i = absurd i
one_of_letters (word ∷ words) t w m (inl i) = word_letters w word.0 i.0 t.0
one_of_letters (word ∷ words) t w m (inr i) = one_of_letters words t.2 w m i

-- ---- fronts

same_byte : (b c : ℕ) → b ≡ c → (b == c) ≡ true
same_byte b c e = grind (arith, nat_tests)

pub begins_self : (w : List ℕ) → begins w w ≡ true
begins_self [] = refl
begins_self (x ∷ xs) = ap (λ t. cond t (begins xs xs) false) (same_byte x x refl) ∙ begins_self xs

shorter : (w other rest more : List ℕ) → w ++ rest ≡ other ++ more → begins (map to_ascii_lowercase w) (map to_ascii_lowercase other) ≡ false → length other ≤ length w
shorter [] other rest more e h = absurd (cc)
shorter (b ∷ w) [] rest more e h = omega arith
shorter (b ∷ w) (c ∷ other) rest more e h =
    let p : b ≡ c = cc in
    let q : w ++ rest ≡ other ++ more = cc in
    let t = same_byte (to_ascii_lowercase b) (to_ascii_lowercase c) (ap to_ascii_lowercase p) in
    let k : begins (map to_ascii_lowercase w) (map to_ascii_lowercase other) ≡ false =
    sym (ap (λ x. cond x (begins (map to_ascii_lowercase w) (map to_ascii_lowercase other)) false) t) ∙ h in
    let i = shorter w other rest more q k in
    omega (arith, i)

not_true : (b : Bool) → not b ≡ true → b ≡ false
not_true true e = absurd (cc)
not_true false e = refl

later_word : {A : Type 0} (word : List ℕ) (words : List (List ℕ × A)) → list_all (λ later. not (begins word later.0)) words ≡ true → (other : List ℕ) (m : A) → IsOneOf words other m
    → begins word (map to_ascii_lowercase other) ≡ false
later_word word [] h other m i = absurd i
later_word word (next ∷ words) h other m (inl i) =
    let k = and_both (not (begins word next.0)) (list_all (λ later. not (begins word later.0)) words) h in
    ap (begins word) i.0 ∙ not_true (begins word next.0) k.0
later_word word (next ∷ words) h other m (inr i) =
    let k = and_both (not (begins word next.0)) (list_all (λ later. not (begins word later.0)) words) h in
    later_word word words k.1 other m i

both_words : {A : Type 0} (word : List ℕ) (words : List (List ℕ × A)) → list_all (λ later. not (begins word later.0)) words ≡ true → (w : List ℕ) (m : A) → map to_ascii_lowercase w ≡ word → IsOneOf words w m → ⊥
both_words word words h w m e i =
    let k : true ≡ false = sym (begins_self word) ∙ ap (begins word) (sym e) ∙ later_word word words h w m i in
    absurd (cc)

-- a word means one thing
pub word_single : {A : Type 0} (words : List (List ℕ × A)) → IsTable words → (w : List ℕ) (m n : A) → IsOneOf words w m → IsOneOf words w n → m ≡ n
word_single [] t w m n i j = absurd i
word_single (word ∷ words) t w m n (inl i) (inl j) = i.1 ∙ sym j.1
word_single (word ∷ words) t w m n (inl i) (inr j) = absurd (both_words word.0 words t.1 w n i.0 j)
word_single (word ∷ words) t w m n (inr i) (inl j) = absurd (both_words word.0 words t.1 w m j.0 i)
word_single (word ∷ words) t w m n (inr i) (inr j) = word_single words t.2 w m n i j

-- ---- what is read

behind_test : (c : ℕ) (cs : List ℕ) (b : ℕ) (bs rest : List ℕ) (t : Bool) → (to_ascii_lowercase b == c) ≡ t → (if t then behind_word cs bs else None) ≡ Some rest
    → (behind_word cs bs ≡ Some rest → (w : List ℕ) × (bs ≡ w ++ rest) × (map to_ascii_lowercase w ≡ cs)) → (w : List ℕ) × (b ∷ bs ≡ w ++ rest) × (map to_ascii_lowercase w ≡ c ∷ cs)
behind_test c cs b bs rest true t e h =
    let i = h e in
    let k : to_ascii_lowercase b ≡ c = grind (arith, nat_tests) in
    (b ∷ i.0, ap (λ x. b ∷ x) i.1, (λ z. k z ∷ i.2 z))
behind_test c cs b bs rest false t e h = absurd (cc)

abbrev rest_or : List ℕ → Option (List ℕ) → List ℕ
rest_or bytes None = bytes
rest_or bytes (Some rest) = rest

behind_found : (word bytes rest : List ℕ) → behind_word word bytes ≡ Some rest → (w : List ℕ) × (bytes ≡ w ++ rest) × (map to_ascii_lowercase w ≡ word)
behind_found [] bytes rest e = ([], ap (rest_or bytes) e, refl)
behind_found (c ∷ cs) [] rest e = absurd (cc)
behind_found (c ∷ cs) (b ∷ bs) rest e = behind_test c cs b bs rest (to_ascii_lowercase b == c) refl e (behind_found cs bs rest)

behind_again : (w rest : List ℕ) → behind_word (map to_ascii_lowercase w) (w ++ rest) ≡ Some rest
behind_again [] rest = refl
behind_again (b ∷ w) rest =
    ap (λ t. if t then behind_word (map to_ascii_lowercase w) (w ++ rest) else None) (same_byte (to_ascii_lowercase b) (to_ascii_lowercase b) refl) ∙ behind_again w rest

not_behind : (word bytes w rest : List ℕ) → behind_word word bytes ≡ None → bytes ≡ w ++ rest → map to_ascii_lowercase w ≡ word → ⊥
not_behind word bytes w rest n e i =
    let k : None ≡ Some rest = sym n ∙ (λ z. behind_word (sym i z) (e z)) ∙ behind_again w rest in
    absurd (cc)

-- what a reading of a word answers
pub data WordReads {A : Type 0} (words : List (List ℕ × A)) (bytes : List ℕ) (read : Option (A × List ℕ)) : Type 0 where
  NoWord : read ≡ None → ((w rest : List ℕ) (m : A) → bytes ≡ w ++ rest → IsOneOf words w m → ⊥) → WordReads words bytes read
  HasWord : (m : A) (w rest : List ℕ) → read ≡ Some (m, rest) → bytes ≡ w ++ rest → IsOneOf words w m
      → ((other more : List ℕ) (n : A) → bytes ≡ other ++ more → IsOneOf words other n → length other ≤ length w) → WordReads words bytes read

no_word : {A : Type 0} (word : List ℕ × A) (words : List (List ℕ × A)) (bytes w rest : List ℕ) (m : A) → behind_word word.0 bytes ≡ None → ((w rest : List ℕ) (m : A) → bytes ≡ w ++ rest → IsOneOf words w m → ⊥)
    → bytes ≡ w ++ rest → IsOneOf (word ∷ words) w m → ⊥
no_word word words bytes w rest m n none e (inl i) = not_behind word.0 bytes w rest n e i.0
no_word word words bytes w rest m n none e (inr i) = none w rest m e i

later_longest : {A : Type 0} (word : List ℕ × A) (words : List (List ℕ × A)) (bytes w other more : List ℕ) (n : A) → behind_word word.0 bytes ≡ None
    → ((other more : List ℕ) (n : A) → bytes ≡ other ++ more → IsOneOf words other n → length other ≤ length w) → bytes ≡ other ++ more → IsOneOf (word ∷ words) other n → length other ≤ length w
later_longest word words bytes w other more n f longest e (inl i) = absurd (not_behind word.0 bytes other more f e i.0)
later_longest word words bytes w other more n f longest e (inr i) = longest other more n e i

same_length : (w other : List ℕ) → map to_ascii_lowercase w ≡ map to_ascii_lowercase other → length other ≤ length w
same_length [] [] e = omega arith
same_length [] (c ∷ other) e = absurd (cc)
same_length (b ∷ w) [] e = omega arith
same_length (b ∷ w) (c ∷ other) e =
    let k : map to_ascii_lowercase w ≡ map to_ascii_lowercase other = cc in
    let i = same_length w other k in
    omega (arith, i)

first_longest : {A : Type 0} (word : List ℕ × A) (words : List (List ℕ × A)) (bytes w rest other more : List ℕ) (n : A) → list_all (λ later. not (begins word.0 later.0)) words ≡ true → bytes ≡ w ++ rest
    → map to_ascii_lowercase w ≡ word.0 → bytes ≡ other ++ more → IsOneOf (word ∷ words) other n → length other ≤ length w
first_longest word words bytes w rest other more n h s k e (inl i) = same_length w other (k ∙ sym i.0)
first_longest word words bytes w rest other more n h s k e (inr i) =
    shorter w other rest more (sym s ∙ e) (ap (λ x. begins x (map to_ascii_lowercase other)) k ∙ later_word word.0 words h other n i)

word_by : {A : Type 0} (word : List ℕ × A) (words : List (List ℕ × A)) (bytes : List ℕ) (here : Option (List ℕ)) (others : Option (A × List ℕ)) → IsTable (word ∷ words) → behind_word word.0 bytes ≡ here
    → WordReads words bytes others → WordReads (word ∷ words) bytes (or_word word.1 here others)
word_by word words bytes None others t e (NoWord f none) = NoWord f (λ w rest m s i. no_word word words bytes w rest m e none s i)
word_by word words bytes None others t e (HasWord m w rest f s i longest) =
    HasWord m w rest f s (inr i) (λ other more n k j. later_longest word words bytes w other more n e longest k j)
word_by word words bytes (Some rest) others t e reads =
    let b = behind_found word.0 bytes rest e in
    HasWord word.1 b.0 rest refl b.1 (inl (b.2, refl)) (λ other more n k j. first_longest word words bytes b.0 rest other more n t.1 b.1 b.2 k j)

pub word_reads : {A : Type 0} (words : List (List ℕ × A)) → IsTable words → (bytes : List ℕ) → WordReads words bytes (word_at words bytes)
unfolding word_at
word_reads [] t bytes = NoWord refl (λ w rest m e i. i)
word_reads (word ∷ words) t bytes = word_by word words bytes (behind_word word.0 bytes) (word_at words bytes) t refl (word_reads words t.2 bytes)
