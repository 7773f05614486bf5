-- A suffix: a separator or none, a word, a separator or none, a number or none.
use Rattle.std.proofs.Common.{◌≡◌, ℕ, ◌+◌, ◌<◌, ◌≤◌, Bool, true, false, inl, inr, cond, if◌then◌else◌, length}
use Rattle.std.proofs.Common.{List, [], ◌∷◌, ◌++◌, Some, Result, Ok, refl, ap, sym, subst, ◌∙◌, arith}
use Rattle.std.proofs.Common.{length-append, append_assoc}
use Rattle.std.proofs.lemmas.Bool.Decides.{nat_tests}
use Rattle.std.specs.Prelude.{unwrap_or}
use Rattle.std.specs.Char.{to_ascii_lowercase, is_ascii_lowercase, digit_value}
use Rattle.std.specs.Str.Parse.{AllDigits, digits_value}
use Rattle.pep440_text.specs.declared.TextFault.{TextFault}
use Rattle.pep440_text.specs.Text.{Front, IsNumber, IsNumberOrNone, IsSeparatorOrNone, is_separator, IsOneOf}
use Rattle.pep440_text.specs.Text.{IsSuffix}
use Rattle.pep440_text.specs.Reading.{◌>>=◌, after_separator, leading_digits, behind_digits, number_at}
use Rattle.pep440_text.specs.Reading.{word_at, suffix_by, suffix_at}
use Rattle.pep440_text.proofs.Fronts.{Ends, Whole, Broken, Reads, Absent, Present, Single}
use Rattle.pep440_text.proofs.FrontDigits.{Small, digits_split, digits_most, number_single, number_none}
use Rattle.pep440_text.proofs.FrontDigits.{number_ends, leading_number, ends_then}
use Rattle.pep440_text.proofs.WordTables.{IsTable, AllLow, one_of_letters, word_single, WordReads, NoWord}
use Rattle.pep440_text.proofs.WordTables.{HasWord, word_reads}

-- ---- separators

-- no separator stands at the front
abbrev pub NoSeparator : List ℕ → Type 0
NoSeparator [] = Unit {0}
NoSeparator (b ∷ bs) = is_separator b ≡ false

-- a separator at the front, or nothing
abbrev pub separator_front : List ℕ → List ℕ
separator_front [] = []
separator_front (b ∷ bs) = cond (is_separator b) (b ∷ []) []

split_by : (b : ℕ) (bs : List ℕ) (t : Bool) → b ∷ bs ≡ cond t (b ∷ []) [] ++ (if t then bs else b ∷ bs)
split_by b bs true = refl
split_by b bs false = refl

pub separator_split : (text : List ℕ) → text ≡ separator_front text ++ after_separator text
separator_split [] = refl
separator_split (b ∷ bs) = split_by b bs (is_separator b)

one_by : (b : ℕ) (t : Bool) → is_separator b ≡ t → IsSeparatorOrNone (cond t (b ∷ []) [])
one_by b true e = inr (b, refl, e)
one_by b false e = inl refl

pub separator_or_none : (text : List ℕ) → IsSeparatorOrNone (separator_front text)
separator_or_none [] = inl refl
separator_or_none (b ∷ bs) = one_by b (is_separator b) refl

pub none_here : (rest : List ℕ) → NoSeparator rest → after_separator rest ≡ rest
none_here [] h = refl
none_here (b ∷ bs) h = ap (λ t. if t then bs else b ∷ bs) h

-- a separator or nothing is skipped
pub separator_skipped : (before rest : List ℕ) → IsSeparatorOrNone before → NoSeparator rest → after_separator (before ++ rest) ≡ rest
separator_skipped before rest (inl e) h = ap (λ t. after_separator (t ++ rest)) e ∙ none_here rest h
separator_skipped before rest (inr i) h = ap (λ t. after_separator (t ++ rest)) i.1 ∙ ap (λ t. if t then rest else i.0 ∷ rest) i.2

separator_most : (before rest : List ℕ) → IsSeparatorOrNone before → length before ≤ length (separator_front (before ++ rest))
separator_most before rest (inl e) = omega (arith, ap length e)
separator_most before rest (inr i) =
    let k : separator_front (before ++ rest) ≡ i.0 ∷ [] = ap (λ t. separator_front (t ++ rest)) i.1 ∙ ap (λ t. cond t (i.0 ∷ []) []) i.2 in
    omega (arith, ap length k, ap length i.1)

-- ---- what stands at the front of a word, and of what follows it

low_no_separator : (c : ℕ) → is_ascii_lowercase (to_ascii_lowercase c) ≡ true → is_separator c ≡ false
low_no_separator c e = grind (arith, nat_tests)

digit_no_separator : (c : ℕ) → digit_value c < 10 → is_separator c ≡ false
digit_no_separator c e = grind (arith, nat_tests)

digit_no_letter : (c : ℕ) → digit_value c < 10 → is_ascii_lowercase (to_ascii_lowercase c) ≡ false
digit_no_letter c e = grind (arith, nat_tests)

pub digit_no_low : (c : ℕ) → digit_value c < 10 → is_ascii_lowercase (to_ascii_lowercase c) ≡ true → ⊥
digit_no_low c h e = let k : true ≡ false = sym e ∙ digit_no_letter c h in absurd (cc)

separator_no_letter : (c : ℕ) → is_separator c ≡ true → is_ascii_lowercase (to_ascii_lowercase c) ≡ false
separator_no_letter c e = grind (arith, nat_tests)

pub word_first : (w rest : List ℕ) → AllLow w → 0 < length w → NoSeparator (w ++ rest)
word_first [] rest a h = absurd (omega arith)
word_first (c ∷ w) rest a h = low_no_separator c a.0

pub digits_first : (ds rest : List ℕ) → AllDigits 10 ds → 0 < length ds → NoSeparator (ds ++ rest)
digits_first [] rest a h = absurd (omega arith)
digits_first (d ∷ ds) rest a h = digit_no_separator d a.0

-- no letter stands at the front
abbrev NoLetter : List ℕ → Type 0
NoLetter [] = Unit {0}
NoLetter (b ∷ bs) = is_ascii_lowercase (to_ascii_lowercase b) ≡ false

digits_no_letter : (ds : List ℕ) → AllDigits 10 ds → NoLetter ds
digits_no_letter [] a = tt
digits_no_letter (d ∷ ds) a = digit_no_letter d a.0

number_no_letter : (ds : List ℕ) (n : ℕ) → IsNumberOrNone ds n → NoLetter ds
number_no_letter ds n (inl i) = subst NoLetter (sym i.0) tt
number_no_letter ds n (inr i) = digits_no_letter ds i.digits.1

tail_no_letter : (between ds : List ℕ) (n : ℕ) → IsSeparatorOrNone between → IsNumberOrNone ds n → NoLetter (between ++ ds)
tail_no_letter between ds n (inl e) i = subst (λ t. NoLetter (t ++ ds)) (sym e) (number_no_letter ds n i)
tail_no_letter between ds n (inr s) i = subst (λ t. NoLetter (t ++ ds)) (sym s.1) (separator_no_letter s.0 s.2)

-- ---- the number behind a word

-- what the digits behind a word say
abbrev pub value_said : List ℕ → ℕ
value_said [] = 0
value_said (d ∷ ds) = digits_value 10 (d ∷ ds)

said_by : {B : Type 0} (bytes ds : List ℕ) (f : ℕ → List ℕ → B) → leading_digits bytes ≡ ds → Ends Small (value_said ds) (f (value_said ds) (behind_digits bytes)) (number_at bytes >>= λ found. Ok (f (unwrap_or found.0 0) found.1))
said_by bytes [] f e =
    let k : bytes ≡ behind_digits bytes = digits_split bytes ∙ ap (λ xs. xs ++ behind_digits bytes) e in
    Whole (ap (λ r. r >>= λ found. Ok (f (unwrap_or found.0 0) found.1)) (number_none bytes e) ∙ ap (λ r. Ok (f 0 r)) k) (omega arith)
said_by bytes (d ∷ ds) f e = ends_then Small (digits_value 10 (d ∷ ds)) (Some (digits_value 10 (d ∷ ds)), behind_digits bytes) (number_at bytes) (λ found. f (unwrap_or found.0 0) found.1) (number_ends bytes d ds e)

said_ends : {B : Type 0} (bytes : List ℕ) (f : ℕ → List ℕ → B) → Ends Small (value_said (leading_digits bytes)) (f (value_said (leading_digits bytes)) (behind_digits bytes)) (number_at bytes >>= λ found. Ok (f (unwrap_or found.0 0) found.1))
said_ends bytes f = said_by bytes (leading_digits bytes) f refl

said_number : (bytes ds : List ℕ) → leading_digits bytes ≡ ds → IsNumberOrNone ds (value_said ds)
said_number bytes [] e = inl (refl, refl)
said_number bytes (d ∷ ds) e = inr (leading_number bytes d ds e)

-- a separator and digits are no longer than what is read
tail_most : (between ds more : List ℕ) (n : ℕ) → IsSeparatorOrNone between → IsNumberOrNone ds n
    → length (between ++ ds) ≤ length (separator_front (between ++ (ds ++ more)) ++ leading_digits (after_separator (between ++ (ds ++ more))))
tail_most between ds more n s (inl i) =
    let rest = between ++ (ds ++ more) in
    let k = separator_most between (ds ++ more) s in
    omega (arith, k, length-append between ds, ap length i.0, length-append (separator_front rest) (leading_digits (after_separator rest)))
tail_most between ds more n s (inr i) =
    let rest = between ++ (ds ++ more) in
    let k = separator_most between (ds ++ more) s in
    let a = separator_skipped between (ds ++ more) s (digits_first ds more i.digits.1 i.digits.0) in
    let l = digits_most ds more i.digits.1 in
    omega (arith, k, l, ap (λ t. length (leading_digits t)) a, length-append between ds, length-append (separator_front rest) (leading_digits (after_separator rest)))

-- ---- the word within

-- a shorter word is followed by a letter, and so by no separator and no digit
within : (w rest word tail more : List ℕ) (bound : ℕ) → w ++ rest ≡ word ++ (tail ++ more) → AllLow w → NoLetter tail → length word ≤ length w → (rest ≡ tail ++ more → length tail ≤ bound)
    → length word + length tail ≤ length w + bound
within [] rest [] tail more bound e a n l h = omega (arith, h e)
within [] rest (x ∷ word) tail more bound e a n l h = absurd (omega arith)
within (c ∷ w) rest [] [] more bound e a n l h = omega arith
within (c ∷ w) rest [] (t ∷ tail) more bound e a n l h =
    let p : c ≡ t = cc in
    let k : true ≡ false = sym a.0 ∙ ap (λ x. is_ascii_lowercase (to_ascii_lowercase x)) p ∙ n in
    absurd (cc)
within (c ∷ w) rest (x ∷ word) tail more bound e a n l h =
    let q : w ++ rest ≡ word ++ (tail ++ more) = cc in
    let less : length word ≤ length w = omega arith in
    let i = within w rest word tail more bound q a.1 n less h in
    omega (arith, i)

same_word : (w t word tail : List ℕ) → w ++ t ≡ word ++ tail → AllLow w → AllLow word → NoLetter t → NoLetter tail → (w ≡ word) × (t ≡ tail)
same_word [] t [] tail e a b n m = (refl, e)
same_word [] [] (x ∷ word) tail e a b n m = absurd (cc)
same_word [] (y ∷ t) (x ∷ word) tail e a b n m =
    let p : y ≡ x = cc in
    let k : true ≡ false = sym b.0 ∙ ap (λ z. is_ascii_lowercase (to_ascii_lowercase z)) (sym p) ∙ n in
    absurd (cc)
same_word (c ∷ w) t [] [] e a b n m = absurd (cc)
same_word (c ∷ w) t [] (y ∷ tail) e a b n m =
    let p : c ≡ y = cc in
    let k : true ≡ false = sym a.0 ∙ ap (λ z. is_ascii_lowercase (to_ascii_lowercase z)) p ∙ m in
    absurd (cc)
same_word (c ∷ w) t (x ∷ word) tail e a b n m =
    let p : c ≡ x = cc in
    let q : w ++ t ≡ word ++ tail = cc in
    let i = same_word w t word tail q a.1 b.1 n m in
    (λ z. p z ∷ i.0 z, i.1)

-- a suffix in a text, behind its separator
pub suffix_inside : {A : Type 0} (words : List (List ℕ × A)) → IsTable words → (text other more : List ℕ) (said : A × ℕ) → text ≡ other ++ more → (j : IsSuffix words other said)
    → (after_separator text ≡ j.word ++ ((j.between ++ j.digits) ++ more)) × (text ≡ j.before ++ (j.word ++ ((j.between ++ j.digits) ++ more)))
suffix_inside words table text other more said e j =
    let tail = j.between ++ j.digits in
    let k : text ≡ j.before ++ (j.word ++ (tail ++ more)) =
    e ∙ ap (λ t. t ++ more) j.joined ∙ append_assoc j.before (j.word ++ tail) more ∙ ap (λ t. j.before ++ t) (append_assoc j.word tail more) in
    let letters = one_of_letters words table j.word said.0 j.is_word in
    (ap after_separator k ∙ separator_skipped j.before (j.word ++ (tail ++ more)) j.separated (word_first j.word (tail ++ more) letters.0 letters.1), k)

-- ---- what is read

same_number : (ds es : List ℕ) (n m : ℕ) → ds ≡ es → IsNumberOrNone ds n → IsNumberOrNone es m → n ≡ m
same_number ds es n m e (inl i) (inl j) = i.1 ∙ sym j.1
same_number ds es n m e (inl i) (inr j) = absurd (omega (arith, ap length e, ap length i.0, j.digits.0))
same_number ds es n m e (inr i) (inl j) = absurd (omega (arith, ap length e, ap length j.0, i.digits.0))
same_number ds es n m e (inr i) (inr j) = number_single es n m (subst (λ t. IsNumber t n) e i) j

number_first : (ds : List ℕ) (n : ℕ) → IsNumberOrNone ds n → NoSeparator ds
number_first ds n (inl i) = subst NoSeparator (sym i.0) tt
number_first [] n (inr i) = tt
number_first (d ∷ ds) n (inr i) = digit_no_separator d i.digits.1.0

pub suffix_single : {A : Type 0} (words : List (List ℕ × A)) → IsTable words → Single (IsSuffix words)
suffix_single words table text v w i j =
    let a = i.between ++ i.digits in
    let b = j.between ++ j.digits in
    let p = (suffix_inside words table text text [] v (sym (append_none text)) i).0 ∙ ap (λ t. i.word ++ t) (append_none a) in
    let q = (suffix_inside words table text text [] w (sym (append_none text)) j).0 ∙ ap (λ t. j.word ++ t) (append_none b) in
    let letters = one_of_letters words table i.word v.0 i.is_word in
    let others = one_of_letters words table j.word w.0 j.is_word in
    let k = same_word i.word a j.word b (sym p ∙ q) letters.0 others.0 (tail_no_letter i.between i.digits v.1 i.separated_digits i.is_number) (tail_no_letter j.between j.digits w.1 j.separated_digits j.is_number) in
    let meaning : v.0 ≡ w.0 = word_single words table j.word v.0 w.0 (subst (λ t. IsOneOf words t v.0) k.0 i.is_word) j.is_word in
    let digits : i.digits ≡ j.digits =
    sym (separator_skipped i.between i.digits i.separated_digits (number_first i.digits v.1 i.is_number)) ∙ ap after_separator k.1
    ∙ separator_skipped j.between j.digits j.separated_digits (number_first j.digits w.1 j.is_number) in
    let number : v.1 ≡ w.1 = same_number i.digits j.digits v.1 w.1 digits i.is_number j.is_number in
    (λ z. (meaning z, number z))
  where
    append_none : (xs : List ℕ) → xs ++ [] ≡ xs
    append_none [] = refl
    append_none (x ∷ xs) = ap (λ ys. x ∷ ys) (append_none xs)

suffix_longest : {A : Type 0} (words : List (List ℕ × A)) → IsTable words → (text w rest : List ℕ) (m : A) → after_separator text ≡ w ++ rest → IsOneOf words w m
    → ((other more : List ℕ) (n : A) → after_separator text ≡ other ++ more → IsOneOf words other n → length other ≤ length w)
    → (other more : List ℕ) (said : A × ℕ) → text ≡ other ++ more → IsSuffix words other said → length other ≤ length (separator_front text ++ (w ++ (separator_front rest ++ leading_digits (after_separator rest))))
suffix_longest words table text w rest m s i longest other more said e j =
    let tail = j.between ++ j.digits in
    let front = separator_front rest ++ leading_digits (after_separator rest) in
    let k = suffix_inside words table text other more said e j in
    let low = one_of_letters words table w m i in
    let bound = λ (z : rest ≡ tail ++ more). subst (λ t. length tail ≤ length (separator_front t ++ leading_digits (after_separator t))) (sym (z ∙ append_assoc j.between j.digits more)) (tail_most j.between j.digits more said.1 j.separated_digits j.is_number) in
    let inner = within w rest j.word tail more (length front) (sym s ∙ k.0) low.0 (tail_no_letter j.between j.digits said.1 j.separated_digits j.is_number) (longest j.word (tail ++ more) said.0 k.0 j.is_word) bound in
    let outer = subst (λ t. length j.before ≤ length (separator_front t)) (sym k.1) (separator_most j.before (j.word ++ (tail ++ more)) j.separated) in
    omega (arith, inner, outer, ap length j.joined, length-append j.before (j.word ++ tail), length-append j.word tail, length-append (separator_front text) (w ++ front), length-append w front)

suffix_front : {A : Type 0} (words : List (List ℕ × A)) → IsTable words → (text w rest : List ℕ) (m : A) → after_separator text ≡ w ++ rest → IsOneOf words w m
    → ((other more : List ℕ) (n : A) → after_separator text ≡ other ++ more → IsOneOf words other n → length other ≤ length w)
    → Front (IsSuffix words) text (m, value_said (leading_digits (after_separator rest))) (behind_digits (after_separator rest))
suffix_front words table text w rest m s i longest =
    let here = after_separator rest in
    let tail = separator_front rest ++ leading_digits here in
    let later : rest ≡ tail ++ behind_digits here = separator_split rest ∙ ap (λ t. separator_front rest ++ t) (digits_split here) ∙ sym (append_assoc (separator_front rest) (leading_digits here) (behind_digits here)) in
    record {
      front = separator_front text ++ (w ++ tail);
      split = separator_split text ∙ ap (λ t. separator_front text ++ t) (s ∙ ap (λ t. w ++ t) later ∙ sym (append_assoc w tail (behind_digits here)))
          ∙ sym (append_assoc (separator_front text) (w ++ tail) (behind_digits here));
      is_part = record {
        before = separator_front text;
        word = w;
        between = separator_front rest;
        digits = leading_digits here;
        joined = refl;
        separated = separator_or_none text;
        is_word = i;
        separated_digits = separator_or_none rest;
        is_number = said_number here (leading_digits here) refl;
      };
      longest = suffix_longest words table text w rest m s i longest;
    }

-- a suffix fits where its number does
abbrev pub SmallSaid : {A : Type 0} → A × ℕ → Type 0
SmallSaid said = Small said.1

said_fits : {A B : Type 0} (m : A) (n : ℕ) (x : B) (read other : Result B TextFault) → other ≡ read → Ends Small n x read → Ends SmallSaid (m, n) x other
said_fits m n x read other k (Whole e fit) = Whole (k ∙ e) fit
said_fits m n x read other k (Broken fault e fit) = Broken fault (k ∙ e) fit

suffix_found : {A : Type 0} (words : List (List ℕ × A)) → IsTable words → (text : List ℕ) → WordReads words (after_separator text) (word_at words (after_separator text))
    → Reads (IsSuffix words) SmallSaid text (suffix_by text (word_at words (after_separator text)))
suffix_found words table text (NoWord e none) =
    Absent (ap (suffix_by text) e)
    (λ front more said k i. none i.word ((i.between ++ i.digits) ++ more) said.0 (suffix_inside words table text front more said k i).0 i.is_word)
suffix_found words table text (HasWord m w rest e s i longest) =
    let here = after_separator rest in
    let n = value_said (leading_digits here) in
    Present (m, n) (behind_digits here) (suffix_front words table text w rest m s i longest)
    (said_fits m n (Some (m, n), behind_digits here) (number_at here >>= λ found. Ok (Some (m, unwrap_or found.0 0), found.1)) (suffix_by text (word_at words (after_separator text))) (ap (suffix_by text) e)
    (said_ends here (λ n rest. (Some (m, n), rest))))

pub suffix_reads : {A : Type 0} (words : List (List ℕ × A)) → IsTable words → (text : List ℕ) → Reads (IsSuffix words) SmallSaid text (suffix_at words text)
unfolding suffix_at
suffix_reads words table text = suffix_found words table text (word_reads words table (after_separator text))
