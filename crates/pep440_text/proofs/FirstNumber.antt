-- Where a release has begun, nothing behind it is refused for want of a number.
use Rattle.std.proofs.Common.{◌≡◌, ◌≢◌, ℕ, ◌^◌, zero, suc, Bool, true, false, eqb, nat_lt, length, List, []}
use Rattle.std.proofs.Common.{◌∷◌, Option, Some, None, Result, Ok, Err, if◌then◌else◌, ap, sym, subst}
use Rattle.std.specs.Char.{is_ascii_alphanumeric}
use Rattle.std.specs.List.{take_while}
use Rattle.std.specs.Str.Parse.{digits_value}
use Rattle.pep440_text.specs.declared.FaultKind.TheVariants.{Wildcard, NumberTooBig, NoLeadingNumber}
use Rattle.pep440_text.specs.declared.TextFault.{TextFault}
use Rattle.pep440_text.specs.Record.{Segment, PatternRecord, epoch_record}
use Rattle.pep440_text.specs.Text.{is_separator, pre_words, post_words, dev_words}
use Rattle.pep440_text.specs.Faults.{HasNumber}
use Rattle.pep440_text.specs.Reading.{◌>>=◌, at_left, after_white, after_separator, leading_digits, number_of}
use Rattle.pep440_text.specs.Reading.{number_at, or_none, marked_number_at, with_front, more_numbers}
use Rattle.pep440_text.specs.Reading.{numbers_at, release_by, release_at, head_at, word_at, suffix_by}
use Rattle.pep440_text.specs.Reading.{suffix_at, pre_at, plain_suffix_at, post_by, post_at, dev_at}
use Rattle.pep440_text.specs.Reading.{segment_by, segment_at, more_segments, segments_at, local_at, end_by}
use Rattle.pep440_text.specs.Reading.{end_at, suffixed, is_star, version_behind, read_version, pattern_behind}
use Rattle.pep440_text.specs.Reading.{read_pattern}

-- a reading that finds no fault, or another one
abbrev GoesOn : {A : Type 0} → Result A TextFault → Type 0
GoesOn (Ok x) = Unit {0}
GoesOn (Err fault) = fault.kind ≢ NoLeadingNumber

has : {A : Type 0} (read : Result A TextFault) → GoesOn read → HasNumber read
has (Ok x) g = λ left e. cc
has (Err fault) g =
    λ left e. let same : fault ≡ record { kind = NoLeadingNumber; left = left } = cc in g
    (ap (λ (f : TextFault). f.kind) same)

then_more : {A B : Type 0} (read : Result A TextFault) (more : A → Result B TextFault) → GoesOn read
    → ((x : A) → GoesOn (more x)) → GoesOn (read >>= more)
then_more (Ok x) more g m = m x
then_more (Err fault) more g m = g

-- ---- numbers

value_by : (bytes : List ℕ) (number : ℕ) (t : Bool)
    → GoesOn (if t then Ok (Some number) else at_left NumberTooBig bytes)
value_by bytes number true = tt
value_by bytes number false = λ e. cc

value_goes : (bytes digits : List ℕ) → GoesOn (number_of bytes digits)
value_goes bytes [] = tt
value_goes bytes (d ∷ ds) =
    value_by bytes (digits_value 10 (d ∷ ds)) (nat_lt (digits_value 10 (d ∷ ds)) (2 ^ 64))

number_goes : (bytes : List ℕ) → GoesOn (number_at bytes)
unfolding number_at
number_goes bytes =
    then_more (number_of bytes (leading_digits bytes)) _ (value_goes bytes (leading_digits bytes))
    (λ number. tt)

mark_by : (b : ℕ) (bs : List ℕ) (t : Bool)
    → GoesOn (if t then (number_at bs >>= λ found. Ok (or_none (b ∷ bs) found)) else Ok (None, b ∷ bs))
mark_by b bs true = then_more (number_at bs) _ (number_goes bs) (λ found. tt)
mark_by b bs false = tt

marked_goes : (mark : ℕ) (bytes : List ℕ) → GoesOn (marked_number_at mark bytes)
unfolding marked_number_at
marked_goes mark [] = tt
marked_goes mark (b ∷ bs) = mark_by b bs (eqb b mark)

front_goes : {A : Type 0} (front : List A) (read : Result (List A × List ℕ) TextFault) → GoesOn read
    → GoesOn (with_front front read)
front_goes front read g = then_more read _ g (λ found. tt)

more_go : (more : List ℕ → Result (List ℕ × List ℕ) TextFault) (found : Option ℕ × List ℕ)
    → ((bytes : List ℕ) → GoesOn (more bytes)) → GoesOn (more_numbers more found)
more_go more (None, rest) g = tt
more_go more (Some number, rest) g = front_goes (number ∷ []) (more rest) (g rest)

numbers_go : (count : ℕ) (bytes : List ℕ) → GoesOn (numbers_at count bytes)
numbers_go zero bytes = tt
numbers_go (suc count) bytes =
    then_more (marked_number_at 46 bytes) (more_numbers (numbers_at count)) (marked_goes 46 bytes)
    (λ found. more_go (numbers_at count) found (numbers_go count))

-- a release that begins by a number
pub release_begun : (bytes rest : List ℕ) (first : ℕ) → number_at bytes ≡ Ok (Some first, rest)
    → HasNumber (release_at bytes)
unfolding release_at
release_begun bytes rest first e =
    let goes : GoesOn (release_by bytes (Some first, rest)) =
    front_goes (first ∷ []) (numbers_at (length rest) rest) (numbers_go (length rest) rest) in
    subst (λ (read : Result (Option ℕ × List ℕ) TextFault). HasNumber (read >>= release_by bytes)) (sym e)
    (has (release_by bytes (Some first, rest)) goes)

-- ---- suffixes

suffix_by_goes : {A : Type 0} (bytes : List ℕ) (found : Option (A × List ℕ)) → GoesOn (suffix_by bytes found)
suffix_by_goes bytes None = tt
suffix_by_goes bytes (Some (meaning, rest)) =
    then_more (number_at (after_separator rest)) _ (number_goes (after_separator rest)) (λ found. tt)

suffix_goes : {A : Type 0} (words : List (List ℕ × A)) (bytes : List ℕ) → GoesOn (suffix_at words bytes)
unfolding suffix_at
suffix_goes words bytes = suffix_by_goes bytes (word_at words (after_separator bytes))

pre_goes : (bytes : List ℕ) → GoesOn (pre_at bytes)
unfolding pre_at
pre_goes bytes = then_more (suffix_at pre_words bytes) _ (suffix_goes pre_words bytes) (λ found. tt)

plain_goes : (words : List (List ℕ × Unit {0})) (bytes : List ℕ) → GoesOn (plain_suffix_at words bytes)
plain_goes words bytes = then_more (suffix_at words bytes) _ (suffix_goes words bytes) (λ found. tt)

post_by_goes : (bytes : List ℕ) (found : Option ℕ × List ℕ) → GoesOn (post_by bytes found)
post_by_goes bytes (Some number, rest) = tt
post_by_goes bytes (None, rest) = plain_goes post_words bytes

post_goes : (bytes : List ℕ) → GoesOn (post_at bytes)
unfolding post_at
post_goes bytes =
    then_more (marked_number_at 45 bytes) (post_by bytes) (marked_goes 45 bytes) (post_by_goes bytes)

dev_goes : (bytes : List ℕ) → GoesOn (dev_at bytes)
unfolding dev_at
dev_goes bytes = plain_goes dev_words bytes

-- ---- the local part

letters_go : (bytes letters : List ℕ) → GoesOn (segment_by bytes letters)
letters_go bytes [] = λ e. cc
letters_go bytes (letter ∷ letters) = tt

segment_goes : (bytes : List ℕ) → GoesOn (segment_at bytes)
unfolding segment_at
segment_goes bytes =
    then_more (segment_by bytes (take_while is_ascii_alphanumeric bytes)) _
    (letters_go bytes (take_while is_ascii_alphanumeric bytes)) (λ segment. tt)

separated_goes : (more : List ℕ → Result (List Segment × List ℕ) TextFault) (segment : Segment) (b : ℕ) (rest : List ℕ) (t : Bool)
    → ((bytes : List ℕ) → GoesOn (more bytes)) → GoesOn
    (if t then with_front (segment ∷ []) (more rest) else Ok (segment ∷ [], b ∷ rest))
separated_goes more segment b rest true g = front_goes (segment ∷ []) (more rest) (g rest)
separated_goes more segment b rest false g = tt

more_segments_go : (more : List ℕ → Result (List Segment × List ℕ) TextFault) (segment : Segment) (rest : List ℕ)
    → ((bytes : List ℕ) → GoesOn (more bytes)) → GoesOn (more_segments more segment rest)
more_segments_go more segment [] g = tt
more_segments_go more segment (b ∷ rest) g = separated_goes more segment b rest (is_separator b) g

segments_go : (count : ℕ) (bytes : List ℕ) → GoesOn (segments_at count bytes)
segments_go zero bytes = λ e. cc
segments_go (suc count) bytes =
    then_more (segment_at bytes) (λ found. more_segments (segments_at count) found.0 found.1)
    (segment_goes bytes)
    (λ found. more_segments_go (segments_at count) found.0 found.1 (segments_go count))

plus_goes : (b : ℕ) (rest : List ℕ) (t : Bool)
    → GoesOn (if t then segments_at (length rest) rest else Ok ([], b ∷ rest))
plus_goes b rest true = segments_go (length rest) rest
plus_goes b rest false = tt

local_goes : (bytes : List ℕ) → GoesOn (local_at bytes)
unfolding local_at
local_goes [] = tt
local_goes (b ∷ rest) = plus_goes b rest (eqb b 43)

-- ---- the whole

end_by_goes : (bytes : List ℕ) → GoesOn (end_by bytes)
end_by_goes [] = tt
end_by_goes (b ∷ bs) = λ e. cc

end_goes : (bytes : List ℕ) → GoesOn (end_at bytes)
unfolding end_at
end_goes bytes = end_by_goes (after_white bytes)

suffixed_goes : (said : ℕ × List ℕ) (bytes : List ℕ) → GoesOn (suffixed said bytes)
unfolding suffixed
suffixed_goes said bytes =
    then_more (pre_at bytes) _ (pre_goes bytes) (λ pre. then_more (post_at pre.1) _ (post_goes pre.1)
    (λ post. then_more (dev_at post.1) _ (dev_goes post.1) (λ dev. then_more (local_at dev.1) _ (local_goes dev.1)
    (λ local. then_more (end_at local.1) _ (end_goes local.1) (λ end. tt)))))

version_by : (head : (ℕ × List ℕ) × List ℕ) (t : Bool)
    → GoesOn (if t then at_left Wildcard head.1 else suffixed head.0 head.1)
version_by head true = λ e. cc
version_by head false = suffixed_goes head.0 head.1

pattern_by : (head : (ℕ × List ℕ) × List ℕ) (t : Bool)
    → GoesOn {A = PatternRecord}
    (if t then Ok (record { version = epoch_record head.0.0 head.0.1; wildcard = true })
    else (suffixed head.0 head.1 >>= λ version. Ok (record { version = version; wildcard = false })))
pattern_by head true = tt
pattern_by head false = then_more (suffixed head.0 head.1) _ (suffixed_goes head.0 head.1) (λ version. tt)

behind_goes : {A B : Type 0} (read : Result A TextFault) (more : A → Result B TextFault) → HasNumber read
    → ((x : A) → GoesOn (more x)) → HasNumber (read >>= more)
behind_goes (Ok x) more h g = has (more x) (g x)
behind_goes (Err fault) more h g = λ left e.
    let same : fault ≡ record {
      kind =
          NoLeadingNumber;
      left = left;
    } = cc in h left (ap (λ (f : TextFault). Err f) same)

pub version_has : (text : List ℕ) → HasNumber (head_at text) → HasNumber (read_version text)
unfolding read_version
version_has text h = behind_goes (head_at text) version_behind h (λ head. version_by head (is_star head.1))

pub pattern_has : (text : List ℕ) → HasNumber (head_at text) → HasNumber (read_pattern text)
unfolding read_pattern
pattern_has text h = behind_goes (head_at text) pattern_behind h (λ head. pattern_by head (is_star head.1))

-- where the head was read, it has a number
pub found_has : {A : Type 0} (read : Result A TextFault) (x : A) → read ≡ Ok x → HasNumber read
found_has read x e = λ left f. cc
