-- A fault stands where only ASCII bytes were read, so that the text may be cut there.
use Rattle.std.proofs.Common.{◌≡◌, ℕ, ◌+◌, ◌-◌, ◌<◌, ◌≤◌, ◌^◌, zero, suc, Bool, true, false, cond, eqb}
use Rattle.std.proofs.Common.{nat_lt, length, drop, List, [], ◌∷◌, ◌++◌, Option, Some, None, unwrap_or}
use Rattle.std.proofs.Common.{Result, Ok, Err, if◌then◌else◌, refl, ap, sym, subst, ◌∙◌, append_assoc}
use Rattle.std.proofs.Common.{length-append, arith}
use Rattle.std.proofs.lemmas.Bool.{and_parts}
use Rattle.std.proofs.lemmas.Bool.Decides.{nat_tests}
use Rattle.std.proofs.lemmas.Str.{IsUtf8-drop, IsCharBoundary-after_ascii, IsCharBoundary-at_seam}
use Rattle.std.specs.Str.{IsUtf8, IsCharBoundary}
use Rattle.std.specs.Char.{is_ascii_digit, is_ascii_whitespace, is_ascii_alphanumeric, to_ascii_lowercase}
use Rattle.std.specs.List.{prefix_len, list_all, take_while}
use Rattle.std.specs.Option.{option_map}
use Rattle.std.specs.Str.Parse.{digits_value}
use Rattle.pep440_text.specs.declared.FaultKind.TheVariants.{Wildcard, NumberTooBig}
use Rattle.pep440_text.specs.declared.TextFault.{TextFault}
use Rattle.pep440_text.specs.Record.{Segment, PatternRecord, epoch_record}
use Rattle.pep440_text.specs.Text.{is_separator, pre_words, post_words, dev_words}
use Rattle.pep440_text.specs.Faults.{StandsIn}
use Rattle.pep440_text.specs.Reading.{◌>>=◌, at_left, after_white, after_v, after_separator, leading_digits}
use Rattle.pep440_text.specs.Reading.{behind_digits, number_of, number_at, or_none, marked_number_at}
use Rattle.pep440_text.specs.Reading.{epoch_by, epoch_at, with_front, more_numbers, numbers_at, release_by}
use Rattle.pep440_text.specs.Reading.{release_at, head_at, behind_word, or_word, word_at, suffix_by}
use Rattle.pep440_text.specs.Reading.{suffix_at, pre_at, plain_suffix_at, post_by, post_at, dev_at}
use Rattle.pep440_text.specs.Reading.{segment_by, segment_at, more_segments, segments_at, local_at, end_by}
use Rattle.pep440_text.specs.Reading.{end_at, suffixed, is_star, version_behind, read_version, pattern_behind}
use Rattle.pep440_text.specs.Reading.{read_pattern}

-- what is left of a text behind ASCII bytes
pub record Past (text rest : List ℕ) : Type 0 where
  pub front : List ℕ
  pub split : text ≡ front ++ rest
  pub keeps : IsUtf8 text → IsUtf8 rest

here : (text : List ℕ) → Past text text
here text = record { front = []; split = refl; keeps = λ u. u }

further : (text rest more : List ℕ) → Past text rest → Past rest more → Past text more
further text rest more p q = record {
  front = p.front ++ q.front;
  split = p.split ∙ ap (λ bytes. p.front ++ bytes) q.split ∙ sym (append_assoc p.front q.front more);
  keeps = λ u. q.keeps (p.keeps u);
}

keeps_next : (b : ℕ) (bs : List ℕ) → b < 128 → IsUtf8 (b ∷ bs) → IsUtf8 bs
keeps_next b bs h u = IsUtf8-drop (b ∷ bs) 1 u (IsCharBoundary-after_ascii (b ∷ bs) 0 u (omega arith) h)

next : (b : ℕ) (bs rest : List ℕ) → b < 128 → Past bs rest → Past (b ∷ bs) rest
next b bs rest h p =
    record { front = b ∷ p.front; split = ap (λ bytes. b ∷ bytes) p.split; keeps = λ u. p.keeps (keeps_next b bs h u) }

-- ---- what a reading leaves

-- a fault stands in what is left behind ASCII bytes
abbrev FaultsIn : {A : Type 0} → List ℕ → Result A TextFault → Type 0
FaultsIn bytes (Ok x) = Unit {0}
FaultsIn bytes (Err fault) = (rest : List ℕ) × Past bytes rest × (fault.left ≡ length rest)

-- and what follows what was read is left behind ASCII bytes too
abbrev Leaves : {A : Type 0} → List ℕ → Result (A × List ℕ) TextFault → Type 0
Leaves bytes (Ok found) = Past bytes found.1
Leaves bytes (Err fault) = (rest : List ℕ) × Past bytes rest × (fault.left ≡ length rest)

shift_leaves : {A : Type 0} (text bytes : List ℕ) (read : Result (A × List ℕ) TextFault) → Past text bytes
    → Leaves bytes read → Leaves text read
shift_leaves text bytes (Ok found) p l = further text bytes found.1 p l
shift_leaves text bytes (Err fault) p l = (l.0, further text bytes l.0 p l.1, l.2)

shift_faults : {A : Type 0} (text bytes : List ℕ) (read : Result A TextFault) → Past text bytes
    → FaultsIn bytes read → FaultsIn text read
shift_faults text bytes (Ok found) p l = tt
shift_faults text bytes (Err fault) p l = (l.0, further text bytes l.0 p l.1, l.2)

-- a value, and then a reading of the same bytes
value_then : {A B : Type 0} (bytes : List ℕ) (read : Result A TextFault) (more : A → Result (B × List ℕ) TextFault)
    → FaultsIn bytes read → ((x : A) → Leaves bytes (more x)) → Leaves bytes (read >>= more)
value_then bytes (Ok x) more l m = m x
value_then bytes (Err fault) more l m = l

-- a reading, and then one of what it leaves
leaves_then : {A B : Type 0} (bytes : List ℕ) (read : Result (A × List ℕ) TextFault) (more : A × List ℕ → Result (B × List ℕ) TextFault)
    → Leaves bytes read → ((found : A × List ℕ) → Leaves found.1 (more found))
    → Leaves bytes (read >>= more)
leaves_then bytes (Ok found) more l m = shift_leaves bytes found.1 (more found) l (m found)
leaves_then bytes (Err fault) more l m = l

faults_then : {A B : Type 0} (bytes : List ℕ) (read : Result (A × List ℕ) TextFault) (more : A × List ℕ → Result B TextFault)
    → Leaves bytes read → ((found : A × List ℕ) → FaultsIn found.1 (more found))
    → FaultsIn bytes (read >>= more)
faults_then bytes (Ok found) more l m = shift_faults bytes found.1 (more found) l (m found)
faults_then bytes (Err fault) more l m = l

-- ---- pieces

white_by : (b : ℕ) (bs : List ℕ) (t : Bool) → is_ascii_whitespace b ≡ t → Past bs (after_white bs)
    → Past (b ∷ bs) (drop (cond t (1 + prefix_len is_ascii_whitespace bs) 0) (b ∷ bs))
white_by b bs true e p =
    let one : suc (prefix_len is_ascii_whitespace bs) ≡ 1 + prefix_len is_ascii_whitespace bs = omega arith in
    let small : b < 128 = grind (arith, nat_tests) in
    subst (λ n. Past (b ∷ bs) (drop n (b ∷ bs))) one (next b bs (after_white bs) small p)
white_by b bs false e p = here (b ∷ bs)

past_white : (bytes : List ℕ) → Past bytes (after_white bytes)
past_white [] = here []
past_white (b ∷ bs) = white_by b bs (is_ascii_whitespace b) refl (past_white bs)

letters_by : (b : ℕ) (bs : List ℕ) (t : Bool) → is_ascii_alphanumeric b ≡ t
    → Past bs (drop (prefix_len is_ascii_alphanumeric bs) bs)
    → Past (b ∷ bs) (drop (cond t (1 + prefix_len is_ascii_alphanumeric bs) 0) (b ∷ bs))
letters_by b bs true e p =
    let one : suc (prefix_len is_ascii_alphanumeric bs) ≡ 1 + prefix_len is_ascii_alphanumeric bs =
    omega arith in
    let small : b < 128 = grind (arith, nat_tests) in
    subst (λ n. Past (b ∷ bs) (drop n (b ∷ bs))) one
    (next b bs (drop (prefix_len is_ascii_alphanumeric bs) bs) small p)
letters_by b bs false e p = here (b ∷ bs)

past_letters : (bytes : List ℕ) → Past bytes (drop (prefix_len is_ascii_alphanumeric bytes) bytes)
past_letters [] = here []
past_letters (b ∷ bs) = letters_by b bs (is_ascii_alphanumeric b) refl (past_letters bs)

digits_by : (b : ℕ) (bs : List ℕ) (t : Bool) → is_ascii_digit b ≡ t → Past bs (behind_digits bs)
    → Past (b ∷ bs) (cond t (behind_digits bs) (b ∷ bs))
digits_by b bs true e p =
    let small : b < 128 = grind (arith, nat_tests) in next b bs (behind_digits bs) small p
digits_by b bs false e p = here (b ∷ bs)

past_digits : (bytes : List ℕ) → Past bytes (behind_digits bytes)
past_digits [] = here []
past_digits (b ∷ bs) = digits_by b bs (is_ascii_digit b) refl (past_digits bs)

-- a letter in either case is ASCII where it is so in lower case
lower_small : (b letter : ℕ) → letter < 128 → eqb (to_ascii_lowercase b) letter ≡ true → b < 128
lower_small b letter h e = grind (arith, nat_tests)

v_by : (b : ℕ) (bs : List ℕ) (t : Bool) → eqb (to_ascii_lowercase b) 118 ≡ t
    → Past (b ∷ bs) (if t then bs else b ∷ bs)
v_by b bs true e = next b bs bs (lower_small b 118 (omega arith) e) (here bs)
v_by b bs false e = here (b ∷ bs)

past_v : (bytes : List ℕ) → Past bytes (after_v bytes)
past_v [] = here []
past_v (b ∷ bs) = v_by b bs (eqb (to_ascii_lowercase b) 118) refl

separator_small : (b : ℕ) → is_separator b ≡ true → b < 128
separator_small b e = grind (arith, nat_tests)

separator_by : (b : ℕ) (bs : List ℕ) (t : Bool) → is_separator b ≡ t
    → Past (b ∷ bs) (if t then bs else b ∷ bs)
separator_by b bs true e = next b bs bs (separator_small b e) (here bs)
separator_by b bs false e = here (b ∷ bs)

past_separator : (bytes : List ℕ) → Past bytes (after_separator bytes)
past_separator [] = here []
past_separator (b ∷ bs) = separator_by b bs (is_separator b) refl

-- ---- numbers

value_by : (bytes : List ℕ) (number : ℕ) (t : Bool)
    → FaultsIn bytes (if t then Ok (Some number) else at_left NumberTooBig bytes)
value_by bytes number true = tt
value_by bytes number false = (bytes, here bytes, refl)

faults_number : (bytes digits : List ℕ) → FaultsIn bytes (number_of bytes digits)
faults_number bytes [] = tt
faults_number bytes (d ∷ ds) =
    value_by bytes (digits_value 10 (d ∷ ds)) (nat_lt (digits_value 10 (d ∷ ds)) (2 ^ 64))

leaves_number : (bytes : List ℕ) → Leaves bytes (number_at bytes)
unfolding number_at
leaves_number bytes =
    value_then bytes (number_of bytes (leading_digits bytes)) _ (faults_number bytes (leading_digits bytes))
    (λ number. past_digits bytes)

or_none_leaves : {A : Type 0} (bytes : List ℕ) (read : Result (Option A × List ℕ) TextFault)
    → Leaves bytes read → Leaves bytes (read >>= λ found. Ok (or_none bytes found))
or_none_leaves bytes (Ok (None, rest)) l = here bytes
or_none_leaves bytes (Ok (Some value, rest)) l = l
or_none_leaves bytes (Err fault) l = l

mark_by : (mark : ℕ) (b : ℕ) (bs : List ℕ) (t : Bool) → mark < 128 → eqb b mark ≡ t
    → Leaves (b ∷ bs)
    (if t then (number_at bs >>= λ found. Ok (or_none (b ∷ bs) found)) else Ok (None, b ∷ bs))
mark_by mark b bs true h e =
    let small : b < 128 = grind (arith, nat_tests) in
    or_none_leaves (b ∷ bs) (number_at bs)
    (shift_leaves (b ∷ bs) bs (number_at bs) (next b bs bs small (here bs)) (leaves_number bs))
mark_by mark b bs false h e = here (b ∷ bs)

leaves_marked : (mark : ℕ) (bytes : List ℕ) → mark < 128 → Leaves bytes (marked_number_at mark bytes)
unfolding marked_number_at
leaves_marked mark [] h = here []
leaves_marked mark (b ∷ bs) h = mark_by mark b bs (eqb b mark) h refl

-- ---- epoch and release

number_then_rest : (bytes rest : List ℕ) (read : Result (Option ℕ) TextFault) → FaultsIn bytes read
    → Past bytes rest → Leaves bytes (read >>= λ number. Ok (number, rest))
number_then_rest bytes rest read f p = value_then bytes read (λ number. Ok (number, rest)) f (λ number. p)

behind_small : (bytes rest : List ℕ) (b : ℕ) → Past bytes (b ∷ rest) → b < 128 → Past bytes rest
behind_small bytes rest b p h = further bytes (b ∷ rest) rest p (next b rest rest h (here rest))

epoch_test : (bytes rest : List ℕ) (d : ℕ) (ds : List ℕ) (b : ℕ) (t : Bool) → eqb b 33 ≡ t
    → Past bytes (b ∷ rest)
    → Leaves bytes
    (if t then (number_of bytes (d ∷ ds) >>= λ number. Ok (number, rest)) else Ok (None, bytes))
epoch_test bytes rest d ds b true e p =
    let small : b < 128 = grind (arith, nat_tests) in
    number_then_rest bytes rest (number_of bytes (d ∷ ds)) (faults_number bytes (d ∷ ds))
    (behind_small bytes rest b p small)
epoch_test bytes rest d ds b false e p = here bytes

epoch_leaves : (bytes digits behind : List ℕ) → Past bytes behind
    → Leaves bytes (epoch_by bytes digits behind)
epoch_leaves bytes digits [] p = here bytes
epoch_leaves bytes [] (b ∷ rest) p = here bytes
epoch_leaves bytes (d ∷ ds) (b ∷ rest) p = epoch_test bytes rest d ds b (eqb b 33) refl p

leaves_epoch : (bytes : List ℕ) → Leaves bytes (epoch_at bytes)
unfolding epoch_at
leaves_epoch bytes = epoch_leaves bytes (leading_digits bytes) (behind_digits bytes) (past_digits bytes)

front_leaves : {A : Type 0} (front : List A) (bytes : List ℕ) (read : Result (List A × List ℕ) TextFault)
    → Leaves bytes read → Leaves bytes (with_front front read)
front_leaves front bytes (Ok found) l = l
front_leaves front bytes (Err fault) l = l

more_leaves : (more : List ℕ → Result (List ℕ × List ℕ) TextFault) (found : Option ℕ × List ℕ)
    → ((bytes : List ℕ) → Leaves bytes (more bytes)) → Leaves found.1 (more_numbers more found)
more_leaves more (None, rest) ih = here rest
more_leaves more (Some number, rest) ih = front_leaves (number ∷ []) rest (more rest) (ih rest)

leaves_numbers : (count : ℕ) (bytes : List ℕ) → Leaves bytes (numbers_at count bytes)
leaves_numbers zero bytes = here bytes
leaves_numbers (suc count) bytes =
    leaves_then bytes (marked_number_at 46 bytes) (more_numbers (numbers_at count))
    (leaves_marked 46 bytes (omega arith))
    (λ found. more_leaves (numbers_at count) found (leaves_numbers count))

release_leaves : (bytes : List ℕ) (found : Option ℕ × List ℕ) → Past bytes found.1
    → Leaves bytes (release_by bytes found)
release_leaves bytes (None, rest) p = (bytes, here bytes, refl)
release_leaves bytes (Some number, rest) p =
    shift_leaves bytes rest (with_front (number ∷ []) (numbers_at (length rest) rest)) p
    (front_leaves (number ∷ []) rest (numbers_at (length rest) rest) (leaves_numbers (length rest) rest))

-- a reading, and then one that may name a fault of the bytes before it
past_then : {A B : Type 0} (bytes : List ℕ) (read : Result (A × List ℕ) TextFault) (more : A × List ℕ → Result (B × List ℕ) TextFault)
    → Leaves bytes read → ((found : A × List ℕ) → Past bytes found.1 → Leaves bytes (more found))
    → Leaves bytes (read >>= more)
past_then bytes (Ok found) more l m = m found l
past_then bytes (Err fault) more l m = l

leaves_release : (bytes : List ℕ) → Leaves bytes (release_at bytes)
unfolding release_at
leaves_release bytes =
    past_then bytes (number_at bytes) (release_by bytes) (leaves_number bytes) (release_leaves bytes)

-- a reading whose value is changed
value_leaves : {A B : Type 0} (bytes : List ℕ) (read : Result (A × List ℕ) TextFault) (f : A × List ℕ → B)
    → Leaves bytes read → Leaves bytes (read >>= λ found. Ok (f found, found.1))
value_leaves bytes (Ok found) f l = l
value_leaves bytes (Err fault) f l = l

leaves_head : (bytes : List ℕ) → Leaves bytes (head_at bytes)
unfolding head_at
leaves_head bytes =
    let start =
    further bytes (after_white bytes) (after_v (after_white bytes)) (past_white bytes)
    (past_v (after_white bytes)) in
    shift_leaves bytes (after_v (after_white bytes)) _ start
    (leaves_then (after_v (after_white bytes)) (epoch_at (after_v (after_white bytes))) _ (leaves_epoch (after_v (after_white bytes)))
    (λ epoch. value_leaves epoch.1 (release_at epoch.1) (λ release. (unwrap_or epoch.0 0, release.0)) (leaves_release epoch.1)))

-- ---- suffixes

-- a text behind ASCII bytes, where there is one
abbrev MayLeave : List ℕ → Option (List ℕ) → Type 0
MayLeave bytes None = Unit {0}
MayLeave bytes (Some rest) = Past bytes rest

abbrev small_word : List ℕ → Bool
small_word word = list_all (λ b. nat_lt b 128) word

first_small : (letter : ℕ) (letters : List ℕ) → small_word (letter ∷ letters) ≡ true
    → (letter < 128) × (small_word letters ≡ true)
first_small letter letters h =
    let both = and_parts (nat_lt letter 128) (small_word letters) h in (grind (arith, nat_tests), both.1)

may_next : (b : ℕ) (bs : List ℕ) (found : Option (List ℕ)) → b < 128 → MayLeave bs found
    → MayLeave (b ∷ bs) found
may_next b bs None h l = tt
may_next b bs (Some rest) h l = next b bs rest h l

word_by : (letter : ℕ) (letters : List ℕ) (b : ℕ) (bs : List ℕ) (t : Bool) → letter < 128
    → eqb (to_ascii_lowercase b) letter ≡ t → MayLeave bs (behind_word letters bs)
    → MayLeave (b ∷ bs) (if t then behind_word letters bs else None)
word_by letter letters b bs true h e l = may_next b bs (behind_word letters bs) (lower_small b letter h e) l
word_by letter letters b bs false h e l = tt

may_word : (word bytes : List ℕ) → small_word word ≡ true → MayLeave bytes (behind_word word bytes)
may_word [] bytes h = here bytes
may_word (letter ∷ letters) [] h = tt
may_word (letter ∷ letters) (b ∷ bs) h =
    let small = first_small letter letters h in
    word_by letter letters b bs (eqb (to_ascii_lowercase b) letter) small.0 refl (may_word letters bs small.1)

-- the same with a meaning
abbrev MayMean : {A : Type 0} → List ℕ → Option (A × List ℕ) → Type 0
MayMean bytes None = Unit {0}
MayMean bytes (Some found) = Past bytes found.1

or_word_leaves : {A : Type 0} (bytes : List ℕ) (meaning : A) (rest : Option (List ℕ)) (others : Option (A × List ℕ))
    → MayLeave bytes rest → MayMean bytes others → MayMean bytes (or_word meaning rest others)
or_word_leaves bytes meaning (Some rest) others l o = l
or_word_leaves bytes meaning None others l o = o

abbrev small_words : {A : Type 0} → List (List ℕ × A) → Bool
small_words words = list_all (λ word. small_word word.0) words

may_mean : {A : Type 0} (words : List (List ℕ × A)) (bytes : List ℕ) → small_words words ≡ true
    → MayMean bytes (word_at words bytes)
unfolding word_at
may_mean [] bytes h = tt
may_mean (word ∷ words) bytes h =
    let both = and_parts (small_word word.0) (small_words words) h in
    or_word_leaves bytes word.1 (behind_word word.0 bytes) (word_at words bytes)
    (may_word word.0 bytes both.0) (may_mean words bytes both.1)

suffix_leaves : {A : Type 0} (bytes start : List ℕ) (found : Option (A × List ℕ)) → Past bytes start
    → MayMean start found → Leaves bytes (suffix_by bytes found)
suffix_leaves bytes start None p m = here bytes
suffix_leaves bytes start (Some (meaning, rest)) p m =
    let all =
    further bytes rest (after_separator rest) (further bytes start rest p m) (past_separator rest) in
    value_leaves bytes (number_at (after_separator rest)) (λ found. Some (meaning, unwrap_or found.0 0))
    (shift_leaves bytes (after_separator rest) (number_at (after_separator rest)) all (leaves_number (after_separator rest)))

leaves_suffix : {A : Type 0} (words : List (List ℕ × A)) (bytes : List ℕ) → small_words words ≡ true
    → Leaves bytes (suffix_at words bytes)
unfolding suffix_at
leaves_suffix words bytes h =
    suffix_leaves bytes (after_separator bytes) (word_at words (after_separator bytes))
    (past_separator bytes) (may_mean words (after_separator bytes) h)

leaves_pre : (bytes : List ℕ) → Leaves bytes (pre_at bytes)
unfolding pre_at
leaves_pre bytes = value_leaves bytes (suffix_at pre_words bytes) _ (leaves_suffix pre_words bytes refl)

leaves_plain : (words : List (List ℕ × Unit {0})) (bytes : List ℕ) → small_words words ≡ true
    → Leaves bytes (plain_suffix_at words bytes)
leaves_plain words bytes h =
    value_leaves bytes (suffix_at words bytes) (λ found. option_map (λ said. said.1) found.0)
    (leaves_suffix words bytes h)

post_leaves : (bytes : List ℕ) (found : Option ℕ × List ℕ) → Past bytes found.1
    → Leaves bytes (post_by bytes found)
post_leaves bytes (Some number, rest) p = p
post_leaves bytes (None, rest) p = leaves_plain post_words bytes refl

leaves_post : (bytes : List ℕ) → Leaves bytes (post_at bytes)
unfolding post_at
leaves_post bytes =
    past_then bytes (marked_number_at 45 bytes) (post_by bytes) (leaves_marked 45 bytes (omega arith))
    (post_leaves bytes)

leaves_dev : (bytes : List ℕ) → Leaves bytes (dev_at bytes)
unfolding dev_at
leaves_dev bytes = leaves_plain dev_words bytes refl

-- ---- the local part

segment_faults : (bytes letters : List ℕ) → FaultsIn bytes (segment_by bytes letters)
segment_faults bytes [] = (bytes, here bytes, refl)
segment_faults bytes (letter ∷ letters) = tt

leaves_segment : (bytes : List ℕ) → Leaves bytes (segment_at bytes)
unfolding segment_at
leaves_segment bytes =
    value_then bytes (segment_by bytes (take_while is_ascii_alphanumeric bytes)) _
    (segment_faults bytes (take_while is_ascii_alphanumeric bytes)) (λ segment. past_letters bytes)

segments_by : (more : List ℕ → Result (List Segment × List ℕ) TextFault) (segment : Segment) (b : ℕ) (rest : List ℕ) (t : Bool)
    → is_separator b ≡ t → ((bytes : List ℕ) → Leaves bytes (more bytes))
    → Leaves (b ∷ rest) (if t then with_front (segment ∷ []) (more rest) else Ok (segment ∷ [], b ∷ rest))
segments_by more segment b rest true e ih =
    shift_leaves (b ∷ rest) rest (with_front (segment ∷ []) (more rest))
    (next b rest rest (separator_small b e) (here rest))
    (front_leaves (segment ∷ []) rest (more rest) (ih rest))
segments_by more segment b rest false e ih = here (b ∷ rest)

more_segments_leave : (more : List ℕ → Result (List Segment × List ℕ) TextFault) (segment : Segment) (rest : List ℕ)
    → ((bytes : List ℕ) → Leaves bytes (more bytes)) → Leaves rest (more_segments more segment rest)
more_segments_leave more segment [] ih = here []
more_segments_leave more segment (b ∷ rest) ih = segments_by more segment b rest (is_separator b) refl ih

leaves_segments : (count : ℕ) (bytes : List ℕ) → Leaves bytes (segments_at count bytes)
leaves_segments zero bytes = (bytes, here bytes, refl)
leaves_segments (suc count) bytes =
    leaves_then bytes (segment_at bytes) (λ found. more_segments (segments_at count) found.0 found.1)
    (leaves_segment bytes)
    (λ found. more_segments_leave (segments_at count) found.0 found.1 (leaves_segments count))

plus_by : (b : ℕ) (rest : List ℕ) (t : Bool) → eqb b 43 ≡ t
    → Leaves (b ∷ rest) (if t then segments_at (length rest) rest else Ok ([], b ∷ rest))
plus_by b rest true e =
    let small : b < 128 = grind (arith, nat_tests) in
    shift_leaves (b ∷ rest) rest (segments_at (length rest) rest) (next b rest rest small (here rest))
    (leaves_segments (length rest) rest)
plus_by b rest false e = here (b ∷ rest)

leaves_local : (bytes : List ℕ) → Leaves bytes (local_at bytes)
unfolding local_at
leaves_local [] = here []
leaves_local (b ∷ rest) = plus_by b rest (eqb b 43) refl

-- ---- the whole

end_faults : (bytes rest : List ℕ) → Past bytes rest → FaultsIn bytes (end_by rest)
end_faults bytes [] p = tt
end_faults bytes (b ∷ rest) p = (b ∷ rest, p, refl)

faults_end : (bytes : List ℕ) → FaultsIn bytes (end_at bytes)
unfolding end_at
faults_end bytes = end_faults bytes (after_white bytes) (past_white bytes)

value_faults : {A B : Type 0} (bytes : List ℕ) (read : Result A TextFault) (f : A → B) → FaultsIn bytes read
    → FaultsIn bytes (read >>= λ x. Ok (f x))
value_faults bytes (Ok x) f l = tt
value_faults bytes (Err fault) f l = l

faults_suffixed : (said : ℕ × List ℕ) (bytes : List ℕ) → FaultsIn bytes (suffixed said bytes)
unfolding suffixed
faults_suffixed said bytes =
    faults_then bytes (pre_at bytes) _ (leaves_pre bytes)
    (λ pre. faults_then pre.1 (post_at pre.1) _ (leaves_post pre.1)
    (λ post. faults_then post.1 (dev_at post.1) _ (leaves_dev post.1) (λ dev. faults_then dev.1 (local_at dev.1) _ (leaves_local dev.1)
    (λ local. value_faults local.1 (end_at local.1) _ (faults_end local.1)))))

version_by : (head : (ℕ × List ℕ) × List ℕ) (t : Bool)
    → FaultsIn head.1 (if t then at_left Wildcard head.1 else suffixed head.0 head.1)
version_by head true = (head.1, here head.1, refl)
version_by head false = faults_suffixed head.0 head.1

faults_version : (text : List ℕ) → FaultsIn text (read_version text)
unfolding read_version
faults_version text =
    faults_then text (head_at text) version_behind (leaves_head text)
    (λ head. version_by head (is_star head.1))

pattern_by : (head : (ℕ × List ℕ) × List ℕ) (t : Bool)
    → FaultsIn {A = PatternRecord} head.1
    (if t then Ok (record { version = epoch_record head.0.0 head.0.1; wildcard = true }) else (suffixed head.0 head.1 >>= λ version. Ok (record { version = version; wildcard = false })))
pattern_by head true = tt
pattern_by head false =
    value_faults {B = PatternRecord} head.1 (suffixed head.0 head.1)
    (λ version. record { version = version; wildcard = false }) (faults_suffixed head.0 head.1)

faults_pattern : (text : List ℕ) → FaultsIn text (read_pattern text)
unfolding read_pattern
faults_pattern text =
    faults_then text (head_at text) pattern_behind (leaves_head text)
    (λ head. pattern_by head (is_star head.1))

-- ---- where the text may be cut

cut_past : (text rest : List ℕ) (left : ℕ) → IsUtf8 text → Past text rest → left ≡ length rest
    → (left ≤ length text) × IsCharBoundary text (length text - left)
cut_past text rest left u p e =
    let total : length text ≡ length p.front + length rest = ap length p.split ∙ length-append p.front rest in
    let place : length p.front ≡ length text - left = omega arith in
    (omega arith, subst (IsCharBoundary text) place (IsCharBoundary-at_seam text p.front rest p.split (p.keeps u)))

may_cut : {A : Type 0} (text : List ℕ) (read : Result A TextFault) (fault : TextFault) → IsUtf8 text
    → FaultsIn text read → read ≡ Err fault → StandsIn text fault
may_cut text (Ok x) fault u f e = absurd (cc)
may_cut text (Err other) fault u f e =
    let same : other ≡ fault = cc in
    subst (StandsIn text) same (cut_past text f.0 other.left u f.1 f.2)

-- the fault of a text that is no version, and of one that is no pattern
pub version_cut : (text : List ℕ) (fault : TextFault) → IsUtf8 text → read_version text ≡ Err fault
    → StandsIn text fault
version_cut text fault u e = may_cut text (read_version text) fault u (faults_version text) e

pub pattern_cut : (text : List ℕ) (fault : TextFault) → IsUtf8 text → read_pattern text ≡ Err fault
    → StandsIn text fault
pattern_cut text fault u e = may_cut text (read_pattern text) fault u (faults_pattern text) e
