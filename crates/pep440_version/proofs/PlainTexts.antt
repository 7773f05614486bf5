-- Texts that are a release alone: what is read of them, number by number.
use Rattle.std.proofs.Common.{◌≡◌, ◌∙◌, ℕ, zero, suc, ◌+◌, ◌-◌, ◌*◌, ◌^◌, ◌<◌, ◌≤◌, ◌==◌, Bool, true, false, nat_lt}
use Rattle.std.proofs.Common.{List, [], ◌∷◌, ◌++◌, length, take, drop, get_or, Option, Some, None, Result, Ok, Err}
use Rattle.std.proofs.Common.{◌⊎◌, inl, inr, refl, ap, sym, subst, arith, if◌then◌else◌, append_assoc, append-nil, true≢false}
use Rattle.std.proofs.lemmas.Bool.Decides.{nat_tests}
use Rattle.std.proofs.lemmas.List.{take_more, drop_more, length-take-le}
use Rattle.std.proofs.lemmas.Int.Digits.{digits_value_more}
use Rattle.std.specs.Prelude.{unwrap_or}
use Rattle.std.specs.Char.{is_ascii_digit, is_ascii_whitespace, to_ascii_lowercase, digit_value}
use Rattle.std.specs.List.{prefix_len}
use Rattle.std.specs.Str.Parse.{digits_value}
use Rattle.pep440_text.specs.declared.TextFault.{TextFault}
use Rattle.pep440_text.specs.Record.{VersionRecord, release_record, epoch_record}
use Rattle.pep440_text.specs.Reading.{◌>>=◌, after_white, after_v, leading_digits, behind_digits, number_of}
use Rattle.pep440_text.specs.Reading.{number_at, or_none, behind_mark, marked_number_at, epoch_by, epoch_at}
use Rattle.pep440_text.specs.Reading.{with_front, more_numbers}
use Rattle.pep440_text.specs.Reading.{numbers_at, release_by, release_at, head_at, version_behind, read_version}
use Rattle.pep440_text.proofs.Digits.{not_none}
use Rattle.pep440_text.proofs.White.{nothing_behind}

abbrev Bytes : Type 0
Bytes = List ℕ

-- ---- a number, digit by digit

lead : (b : ℕ) (bs : Bytes) → is_ascii_digit b ≡ true → leading_digits (b ∷ bs) ≡ b ∷ leading_digits bs
lead b bs h = ap (λ t. if t then b ∷ leading_digits bs else []) h

behind : (b : ℕ) (bs : Bytes) → is_ascii_digit b ≡ true → behind_digits (b ∷ bs) ≡ behind_digits bs
behind b bs h = ap (λ t. if t then behind_digits bs else b ∷ bs) h

pub digits_step : (bytes : Bytes) (i : ℕ) → i < length bytes → is_ascii_digit (get_or bytes i 0) ≡ true
    → take i bytes ++ leading_digits (drop i bytes) ≡ leading_digits bytes
    → take (i + 1) bytes ++ leading_digits (drop (i + 1) bytes) ≡ leading_digits bytes
digits_step bytes i below digit so_far =
    let d = get_or bytes i 0 in
    ap (λ front. front ++ leading_digits (drop (i + 1) bytes)) (take_more bytes i 0 below)
    ∙ append_assoc (take i bytes) (d ∷ []) (leading_digits (drop (i + 1) bytes))
    ∙ ap (λ rest. take i bytes ++ rest)
    (sym (ap leading_digits (drop_more bytes i 0 below) ∙ lead d (drop (i + 1) bytes) digit))
    ∙ so_far

pub rest_step : (bytes : Bytes) (i : ℕ) → i < length bytes → is_ascii_digit (get_or bytes i 0) ≡ true
    → behind_digits (drop i bytes) ≡ behind_digits bytes → behind_digits (drop (i + 1) bytes) ≡ behind_digits bytes
rest_step bytes i below digit so_far =
    sym (ap behind_digits (drop_more bytes i 0 below) ∙ behind (get_or bytes i 0) (drop (i + 1) bytes) digit)
    ∙ so_far

digit_is : (d : ℕ) → is_ascii_digit d ≡ true → digit_value d ≡ d - 48
digit_is d h = grind (arith, nat_tests)

pub value_step : (bytes : Bytes) (i : ℕ) → i < length bytes → is_ascii_digit (get_or bytes i 0) ≡ true
    → digits_value 10 (take (i + 1) bytes) ≡ 10 * digits_value 10 (take i bytes) + (get_or bytes i 0 - 48)
value_step bytes i below digit =
    omega (arith, digits_value_more 10 bytes i below, digit_is (get_or bytes i 0) digit)

-- ---- its end

stops_by : (b : ℕ) (bs : Bytes) → is_ascii_digit b ≡ false
    → (leading_digits (b ∷ bs) ≡ []) × (behind_digits (b ∷ bs) ≡ b ∷ bs)
stops_by b bs h =
    (ap (λ t. if t then b ∷ leading_digits bs else []) h, ap (λ t. if t then behind_digits bs else b ∷ bs) h)

-- nothing is left, or what is left does not begin with a digit
abbrev pub Stops : Bytes → ℕ → Type 0
Stops bytes i = (leading_digits (drop i bytes) ≡ []) × (behind_digits (drop i bytes) ≡ drop i bytes)

pub stops_at : (bytes : Bytes) (i : ℕ) → i < length bytes → is_ascii_digit (get_or bytes i 0) ≡ false → Stops bytes i
stops_at bytes i below h =
    let here = drop_more bytes i 0 below in
    let stop = stops_by (get_or bytes i 0) (drop (i + 1) bytes) h in
    (ap leading_digits here ∙ stop.0, ap behind_digits here ∙ stop.1 ∙ sym here)

pub stops_past : (bytes : Bytes) (i : ℕ) → drop i bytes ≡ [] → Stops bytes i
stops_past bytes i h = (ap leading_digits h, ap behind_digits h ∙ sym h)

small : (text digits : Bytes) (n : ℕ) → 0 < length digits → n ≡ digits_value 10 digits → n < 2 ^ 64
    → number_of text digits ≡ Ok (Some n)
small text [] n some v h = absurd (omega (arith, some))
small text (d ∷ ds) n some v h =
    let t : nat_lt (digits_value 10 (d ∷ ds)) (2 ^ 64) ≡ true = grind (arith, nat_tests) in
    cc

-- the digits before a place where they stop are the number
pub number_read : (bytes : Bytes) (i n : ℕ) → 0 < i → i ≤ length bytes → Stops bytes i
    → take i bytes ++ leading_digits (drop i bytes) ≡ leading_digits bytes
    → behind_digits (drop i bytes) ≡ behind_digits bytes
    → n ≡ digits_value 10 (take i bytes) → n < 2 ^ 64 → number_at bytes ≡ Ok (Some n, drop i bytes)
unfolding number_at
number_read bytes i n some within stops digits rest value fits =
    let front : take i bytes ≡ leading_digits bytes =
    sym (append-nil (take i bytes)) ∙ ap (λ more. take i bytes ++ more) (sym stops.0) ∙ digits in
    let long : 0 < length (take i bytes) = omega (arith, length-take-le i bytes within, some) in
    ap (λ ds. number_of bytes ds >>= λ number. Ok (number, behind_digits bytes)) (sym front)
    ∙ ap (λ r. r >>= λ number. Ok (number, behind_digits bytes)) (small bytes (take i bytes) n long value fits)
    ∙ ap (λ left. Ok (Some n, left)) (sym rest ∙ stops.1)

-- ---- a text of numbers with dots between them

-- what begins with a digit has neither white space nor a `v` at its front
first_white : (b : ℕ) → is_ascii_digit b ≡ true → is_ascii_whitespace b ≡ false
first_white b h = grind (arith, nat_tests)

first_letter : (b : ℕ) → is_ascii_digit b ≡ true → (to_ascii_lowercase b == 118) ≡ false
first_letter b h = grind (arith, nat_tests)

has_number : Result (Option ℕ × Bytes) TextFault → Bool
has_number (Ok (Some n, rest)) = true
has_number (Ok (None, rest)) = false
has_number (Err fault) = false

no_number : (bytes : Bytes) (n : ℕ) (rest : Bytes) → leading_digits bytes ≡ []
    → number_at bytes ≡ Ok (Some n, rest) → ⊥
unfolding number_at has_number
no_number bytes n rest none read =
    true≢false (sym (ap has_number read)
    ∙ ap (λ ds. has_number (number_of bytes ds >>= λ number. Ok (number, behind_digits bytes))) none)

head_by : (b : ℕ) (bs : Bytes) → is_ascii_digit b ≡ true → after_v (after_white (b ∷ bs)) ≡ b ∷ bs
head_by b bs digit =
    ap (λ t. after_v (drop (if t then 1 + prefix_len is_ascii_whitespace bs else 0) (b ∷ bs))) (first_white b digit)
    ∙ ap (λ t. if t then bs else b ∷ bs) (first_letter b digit)

pub begins : (bytes : Bytes) (n : ℕ) (rest : Bytes) → number_at bytes ≡ Ok (Some n, rest)
    → after_v (after_white bytes) ≡ bytes
begins [] n rest read = refl
begins (b ∷ bs) n rest read = begins_by (is_ascii_digit b) refl
  where
    begins_by : (t : Bool) → is_ascii_digit b ≡ t → after_v (after_white (b ∷ bs)) ≡ b ∷ bs
    begins_by true e = head_by b bs e
    begins_by false e = absurd (no_number (b ∷ bs) n rest (stops_by b bs e).0 read)

-- what follows the first number is nothing or a dot, so that it is no epoch
abbrev pub BeginsDotted : Bytes → Type 0
BeginsDotted rest = (rest ≡ []) ⊎ ((more : Bytes) × (rest ≡ 46 ∷ more))

no_epoch_by : (bytes digits rest : Bytes) → BeginsDotted rest → epoch_by bytes digits rest ≡ Ok (None, bytes)
no_epoch_by bytes digits rest (inl none) = ap (epoch_by bytes digits) none
no_epoch_by bytes [] rest (inr more) = ap (epoch_by bytes []) more.1
no_epoch_by bytes (d ∷ ds) rest (inr more) = ap (epoch_by bytes (d ∷ ds)) more.1

behind_number : (bytes : Bytes) (n : ℕ) (rest : Bytes) → number_at bytes ≡ Ok (Some n, rest)
    → behind_digits bytes ≡ rest
unfolding number_at has_number
behind_number bytes n rest read = by_digits (number_of bytes (leading_digits bytes)) read
  where
    left : Result (Option ℕ × Bytes) TextFault → Bytes
    left (Ok found) = found.1
    left (Err fault) = rest

    by_digits : (r : Result (Option ℕ) TextFault)
        → ◌>>=◌ {B = Option ℕ × Bytes} r (λ number. Ok (number, behind_digits bytes)) ≡ Ok (Some n, rest)
        → behind_digits bytes ≡ rest
    by_digits (Ok number) e = ap left e
    by_digits (Err fault) e = absurd (true≢false (sym (ap has_number e)))

pub no_epoch : (bytes : Bytes) (n : ℕ) (rest : Bytes) → number_at bytes ≡ Ok (Some n, rest) → BeginsDotted rest
    → epoch_at bytes ≡ Ok (None, bytes)
unfolding epoch_at
no_epoch bytes n rest read dotted =
    ap (epoch_by bytes (leading_digits bytes)) (behind_number bytes n rest read)
    ∙ no_epoch_by bytes (leading_digits bytes) rest dotted

-- ---- numbers after dots

pub marked_read : (bytes rest : Bytes) (byte : ℕ) → bytes ≡ byte ∷ rest → byte ≡ 46 → (n : ℕ) (left : Bytes)
    → number_at rest ≡ Ok (Some n, left) → marked_number_at 46 bytes ≡ Ok (Some n, left)
unfolding marked_number_at
marked_read bytes rest byte split is n left read =
    ap (λ bs. behind_mark 46 bs bs) (split ∙ ap (λ b. b ∷ rest) is)
    ∙ ap (λ r. r >>= λ found. Ok (or_none (46 ∷ rest) found)) read

is_dot : (b : ℕ) → (b == 46) ≡ true → b ≡ 46
is_dot b e = grind (arith, nat_tests)

marked_begins : (bytes : Bytes) (n : ℕ) (rest : Bytes) → marked_number_at 46 bytes ≡ Ok (Some n, rest)
    → BeginsDotted bytes
unfolding marked_number_at has_number
marked_begins [] n rest read = inl refl
marked_begins (b ∷ bs) n rest read = by_test (b == 46) refl
  where
    by_test : (t : Bool) → (b == 46) ≡ t → BeginsDotted (b ∷ bs)
    by_test true e = inr (bs, ap (λ x. x ∷ bs) (is_dot b e))
    by_test false e =
        absurd (true≢false (sym (ap has_number read)
        ∙ ap
        (λ t. has_number (if t then (number_at bs >>= λ found. Ok (or_none (b ∷ bs) found)) else Ok (None, b ∷ bs)))
        e))

nothing_more : (count : ℕ) → numbers_at count [] ≡ Ok ([], [])
unfolding marked_number_at
nothing_more zero = refl
nothing_more (suc count) = refl

next_number : (count : ℕ) (bytes rest : Bytes) (n : ℕ) → 0 < count → marked_number_at 46 bytes ≡ Ok (Some n, rest)
    → numbers_at count bytes ≡ with_front (n ∷ []) (numbers_at (count - 1) rest)
next_number zero bytes rest n some read = absurd (omega (arith, some))
next_number (suc count) bytes rest n some read =
    let less : count ≡ suc count - 1 = omega arith in
    ap (λ r. r >>= more_numbers (numbers_at count)) read
    ∙ ap (λ left. with_front (n ∷ []) (numbers_at left rest)) less

-- ---- the whole text

-- the first number with the others is the version
whole : (bytes rest : Bytes) (first : ℕ) (others : List ℕ) → number_at bytes ≡ Ok (Some first, rest)
    → BeginsDotted rest → numbers_at (length rest) rest ≡ Ok (others, [])
    → read_version bytes ≡ Ok (release_record (first ∷ others))
unfolding read_version head_at release_at
whole bytes rest first others read dotted more =
    let behind_epoch : Option ℕ × Bytes → Result ((ℕ × List ℕ) × Bytes) TextFault =
    λ epoch. release_at epoch.1 >>= λ release. Ok ((unwrap_or epoch.0 0, release.0), release.1) in
    let behind_release : List ℕ × Bytes → Result ((ℕ × List ℕ) × Bytes) TextFault =
    λ release. Ok ((0, release.0), release.1) in
    ap (λ t. (epoch_at t >>= behind_epoch) >>= version_behind) (begins bytes first rest read)
    ∙ ap (λ r. (r >>= behind_epoch) >>= version_behind) (no_epoch bytes first rest read dotted)
    ∙ ap (λ r. ((r >>= release_by bytes) >>= behind_release) >>= version_behind) read
    ∙ ap (λ r. (with_front (first ∷ []) r >>= behind_release) >>= version_behind) more
    ∙ nothing_behind (0, first ∷ others) [] refl

pub one_read : (bytes rest : Bytes) (first : ℕ) → number_at bytes ≡ Ok (Some first, rest) → rest ≡ []
    → read_version bytes ≡ Ok (release_record (first ∷ []))
one_read bytes rest first read none =
    whole bytes rest first [] read (inl none) (ap (λ left. numbers_at (length left) left) none ∙ nothing_more 0)

pub two_read : (bytes rest left : Bytes) (first second : ℕ) → number_at bytes ≡ Ok (Some first, rest)
    → marked_number_at 46 rest ≡ Ok (Some second, left) → 0 < length rest → left ≡ []
    → read_version bytes ≡ Ok (release_record (first ∷ second ∷ []))
two_read bytes rest left first second read next some none =
    whole bytes rest first (second ∷ []) read (marked_begins rest second left next)
    (next_number (length rest) rest left second some next
    ∙ ap (λ bs. with_front (second ∷ []) (numbers_at (length rest - 1) bs)) none
    ∙ ap (with_front (second ∷ [])) (nothing_more (length rest - 1)))

pub three_read : (bytes rest left end : Bytes) (first second third : ℕ) → number_at bytes ≡ Ok (Some first, rest)
    → marked_number_at 46 rest ≡ Ok (Some second, left) → marked_number_at 46 left ≡ Ok (Some third, end)
    → 1 < length rest → end ≡ [] → read_version bytes ≡ Ok (release_record (first ∷ second ∷ third ∷ []))
three_read bytes rest left end first second third read next last some none =
    let count = length rest - 1 in
    whole bytes rest first (second ∷ third ∷ []) read (marked_begins rest second left next)
    (next_number (length rest) rest left second (omega (arith, some)) next
    ∙ ap (with_front (second ∷ []))
    (next_number count left end third (omega (arith, some)) last
    ∙ ap (λ bs. with_front (third ∷ []) (numbers_at (count - 1) bs)) none
    ∙ ap (with_front (third ∷ [])) (nothing_more (count - 1))))

pub none_left : (bytes : Bytes) → true ≡ (length bytes == 0) → bytes ≡ []
none_left [] h = refl
none_left (b ∷ bs) h = absurd (true≢false (h ∙ not_none b bs))
