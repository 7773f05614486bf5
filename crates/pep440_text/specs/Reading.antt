-- The reading of the text of a version, from its front on: a value and the bytes after it, or the first
-- fault.
use Rattle.std.specs.Prelude.{ℕ, zero, suc, ◌^◌, ◌==◌, Bool, true, false, nat_lt, if◌then◌else◌, List, []}
use Rattle.std.specs.Prelude.{◌∷◌, ◌++◌, length, drop, Option, Some, None, unwrap_or, option_map, Result, Ok}
use Rattle.std.specs.Prelude.{Err}
use Rattle.std.specs.Char.{is_ascii_digit, is_ascii_whitespace, is_ascii_alphanumeric, to_ascii_lowercase}
use Rattle.std.specs.List.{prefix_len, take_while, list_all}
use Rattle.std.specs.Result.{result_ok}
use Rattle.std.specs.Str.Parse.{digits_value}
use Rattle.pep440_text.specs.declared.Prerelease.{Prerelease}
use Rattle.pep440_text.specs.declared.FaultKind.{FaultKind}
use Rattle.pep440_text.specs.declared.FaultKind.TheVariants.{Wildcard, NumberTooBig, NoLeadingNumber}
use Rattle.pep440_text.specs.declared.FaultKind.TheVariants.{LocalEmpty, UnexpectedEnd}
use Rattle.pep440_text.specs.declared.TextFault.{TextFault}
use Rattle.pep440_text.specs.Record.{Segment, VersionRecord, PatternRecord, epoch_record}
use Rattle.pep440_text.specs.Text.{is_separator, pre_words, post_words, dev_words, segment_said}

infixl 10 ◌>>=◌
-- what follows a reading that succeeds
abbrev pub ◌>>=◌ : {A B : Type 0} → Result A TextFault → (A → Result B TextFault) → Result B TextFault
(Ok x) >>= f = f x
(Err fault) >>= f = Err fault

-- a fault at which these bytes are left
abbrev pub at_left : {A : Type 0} → FaultKind → List ℕ → Result A TextFault
at_left kind bytes = Err (record { kind = kind; left = length bytes })

-- ---- pieces

-- what follows the white space at the front
abbrev pub after_white : List ℕ → List ℕ
after_white bytes = drop (prefix_len is_ascii_whitespace bytes) bytes

-- the bytes after a `v`, where one is at the front
abbrev pub after_v : List ℕ → List ℕ
after_v [] = []
after_v (byte ∷ bytes) = if to_ascii_lowercase byte == 118 then bytes else byte ∷ bytes

-- the bytes after a separator, where one is at the front
abbrev pub after_separator : List ℕ → List ℕ
after_separator [] = []
after_separator (byte ∷ bytes) = if is_separator byte then bytes else byte ∷ bytes

-- the digits at the front of a text
abbrev pub leading_digits : List ℕ → List ℕ
leading_digits [] = []
leading_digits (byte ∷ bytes) = if is_ascii_digit byte then byte ∷ leading_digits bytes else []

-- the bytes after the digits at the front
abbrev pub behind_digits : List ℕ → List ℕ
behind_digits [] = []
behind_digits (byte ∷ bytes) = if is_ascii_digit byte then behind_digits bytes else byte ∷ bytes

-- the value of digits, where there are any; `bytes` is left where they begin
abbrev pub number_of : List ℕ → List ℕ → Result (Option ℕ) TextFault
number_of bytes [] = Ok None
number_of bytes (digit ∷ digits) =
    let value = digits_value 10 (digit ∷ digits) in
    if nat_lt value (2 ^ 64) then Ok (Some value) else at_left NumberTooBig bytes

-- a number, where there is one
unfoldable pub number_at : List ℕ → Result (Option ℕ × List ℕ) TextFault
number_at bytes = number_of bytes (leading_digits bytes) >>= λ number. Ok (number, behind_digits bytes)

-- a part that was found after something; where there is none, nothing was read
abbrev pub or_none : {A : Type 0} → List ℕ → Option A × List ℕ → Option A × List ℕ
or_none bytes (None, rest) = (None, bytes)
or_none bytes (Some value, rest) = (Some value, rest)

-- a number after a byte
abbrev pub behind_mark : ℕ → List ℕ → List ℕ → Result (Option ℕ × List ℕ) TextFault
behind_mark mark bytes [] = Ok (None, bytes)
behind_mark mark bytes (byte ∷ rest) =
    if byte == mark then (number_at rest >>= λ found. Ok (or_none bytes found)) else Ok (None, bytes)

-- a byte and a number, where there are both
unfoldable pub marked_number_at : ℕ → List ℕ → Result (Option ℕ × List ℕ) TextFault
marked_number_at mark bytes = behind_mark mark bytes bytes

-- ---- epoch and release

-- the number before a `!`, where one follows digits
abbrev pub epoch_by : List ℕ → List ℕ → List ℕ → Result (Option ℕ × List ℕ) TextFault
epoch_by bytes digits [] = Ok (None, bytes)
epoch_by bytes [] (byte ∷ rest) = Ok (None, bytes)
epoch_by bytes (digit ∷ digits) (byte ∷ rest) =
    if byte == 33
    then (number_of bytes (digit ∷ digits) >>= λ number. Ok (number, rest))
    else Ok (None, bytes)

-- an epoch, where there is one
unfoldable pub epoch_at : List ℕ → Result (Option ℕ × List ℕ) TextFault
epoch_at bytes = epoch_by bytes (leading_digits bytes) (behind_digits bytes)

-- what was read, after a front
abbrev pub with_front : {A : Type 0} → List A → Result (List A × List ℕ) TextFault
    → Result (List A × List ℕ) TextFault
with_front front read = read >>= λ found. Ok (front ++ found.0, found.1)

abbrev pub more_numbers : (List ℕ → Result (List ℕ × List ℕ) TextFault) → Option ℕ × List ℕ
    → Result (List ℕ × List ℕ) TextFault
more_numbers more (None, rest) = Ok ([], rest)
more_numbers more (Some number, rest) = with_front (number ∷ []) (more rest)

-- at most `count` numbers after dots
abbrev pub numbers_at : ℕ → List ℕ → Result (List ℕ × List ℕ) TextFault
numbers_at zero bytes = Ok ([], bytes)
numbers_at (suc count) bytes = marked_number_at 46 bytes >>= more_numbers (numbers_at count)

abbrev pub release_by : List ℕ → Option ℕ × List ℕ → Result (List ℕ × List ℕ) TextFault
release_by bytes (None, rest) = at_left NoLeadingNumber bytes
release_by bytes (Some number, rest) = with_front (number ∷ []) (numbers_at (length rest) rest)

-- a number, and numbers after dots as long as there are any
unfoldable pub release_at : List ℕ → Result (List ℕ × List ℕ) TextFault
release_at bytes = number_at bytes >>= release_by bytes

-- white space, `v`, the epoch and the release, and what follows them
unfoldable pub head_at : List ℕ → Result ((ℕ × List ℕ) × List ℕ) TextFault
head_at bytes =
    epoch_at (after_v (after_white bytes)) >>= λ epoch. release_at epoch.1 >>= λ release.
    Ok ((unwrap_or epoch.0 0, release.0), release.1)

-- ---- suffixes

-- the bytes after a word in either case, where it is at the front
abbrev pub behind_word : List ℕ → List ℕ → Option (List ℕ)
behind_word [] bytes = Some bytes
behind_word (letter ∷ letters) [] = None
behind_word (letter ∷ letters) (byte ∷ bytes) =
    if to_ascii_lowercase byte == letter then behind_word letters bytes else None

abbrev pub or_word : {A : Type 0} → A → Option (List ℕ) → Option (A × List ℕ) → Option (A × List ℕ)
or_word meaning (Some rest) others = Some (meaning, rest)
or_word meaning None others = others

-- the meaning of the first of some words that is at the front, and the bytes after it
unfoldable pub word_at : {A : Type 0} → List (List ℕ × A) → List ℕ → Option (A × List ℕ)
word_at [] bytes = None
word_at (word ∷ words) bytes = or_word word.1 (behind_word word.0 bytes) (word_at words bytes)

abbrev pub suffix_by : {A : Type 0} → List ℕ → Option (A × List ℕ)
    → Result (Option (A × ℕ) × List ℕ) TextFault
suffix_by bytes None = Ok (None, bytes)
suffix_by bytes (Some (meaning, rest)) =
    number_at (after_separator rest) >>= λ found. Ok (Some (meaning, unwrap_or found.0 0), found.1)

-- a suffix, where there is one
unfoldable pub suffix_at : {A : Type 0} → List (List ℕ × A) → List ℕ
    → Result (Option (A × ℕ) × List ℕ) TextFault
suffix_at words bytes = suffix_by bytes (word_at words (after_separator bytes))

-- a pre-release, where there is one
unfoldable pub pre_at : List ℕ → Result (Option Prerelease × List ℕ) TextFault
pre_at bytes =
    suffix_at pre_words bytes >>= λ found.
    Ok (option_map (λ said. record { kind = said.0; number = said.1 }) found.0, found.1)

-- the number of a suffix whose words all mean the same
abbrev pub plain_suffix_at : List (List ℕ × Unit {0}) → List ℕ → Result (Option ℕ × List ℕ) TextFault
plain_suffix_at words bytes =
    suffix_at words bytes >>= λ found. Ok (option_map (λ said. said.1) found.0, found.1)

abbrev pub post_by : List ℕ → Option ℕ × List ℕ → Result (Option ℕ × List ℕ) TextFault
post_by bytes (Some number, rest) = Ok (Some number, rest)
post_by bytes (None, rest) = plain_suffix_at post_words bytes

-- a post-release, where there is one
unfoldable pub post_at : List ℕ → Result (Option ℕ × List ℕ) TextFault
post_at bytes = marked_number_at 45 bytes >>= post_by bytes

-- a developmental release, where there is one
unfoldable pub dev_at : List ℕ → Result (Option ℕ × List ℕ) TextFault
dev_at bytes = plain_suffix_at dev_words bytes

-- ---- the local part

abbrev pub segment_by : List ℕ → List ℕ → Result Segment TextFault
segment_by bytes [] = at_left LocalEmpty bytes
segment_by bytes (letter ∷ letters) = Ok (segment_said (letter ∷ letters))

-- the letters and digits at the front, of which there have to be some, and what follows them
unfoldable pub segment_at : List ℕ → Result (Segment × List ℕ) TextFault
segment_at bytes =
    segment_by bytes (take_while is_ascii_alphanumeric bytes) >>= λ segment.
    Ok (segment, drop (prefix_len is_ascii_alphanumeric bytes) bytes)

abbrev pub more_segments : (List ℕ → Result (List Segment × List ℕ) TextFault) → Segment → List ℕ
    → Result (List Segment × List ℕ) TextFault
more_segments more segment [] = Ok (segment ∷ [], [])
more_segments more segment (byte ∷ rest) =
    if is_separator byte then with_front (segment ∷ []) (more rest) else Ok (segment ∷ [], byte ∷ rest)

-- at most `count` segments, with separators between them; after a separator there has to be one
abbrev pub segments_at : ℕ → List ℕ → Result (List Segment × List ℕ) TextFault
segments_at zero bytes = at_left LocalEmpty bytes
segments_at (suc count) bytes =
    segment_at bytes >>= λ found. more_segments (segments_at count) found.0 found.1

abbrev pub local_by : List ℕ → Result (List Segment × List ℕ) TextFault
local_by [] = Ok ([], [])
local_by (byte ∷ rest) = if byte == 43 then segments_at (length rest) rest else Ok ([], byte ∷ rest)

-- the segments of a local part, none where there is no `+`
unfoldable pub local_at : List ℕ → Result (List Segment × List ℕ) TextFault
local_at bytes = local_by bytes

-- ---- the whole

abbrev pub end_by : List ℕ → Result (Unit {0}) TextFault
end_by [] = Ok tt
end_by (byte ∷ bytes) = at_left UnexpectedEnd (byte ∷ bytes)

-- white space alone may be left
unfoldable pub end_at : List ℕ → Result (Unit {0}) TextFault
end_at bytes = end_by (after_white bytes)

-- the version of an epoch, a release and the parts after it
unfoldable pub suffixed : ℕ × List ℕ → List ℕ → Result VersionRecord TextFault
suffixed said bytes =
    pre_at bytes >>= λ pre. post_at pre.1 >>= λ post. dev_at post.1 >>= λ dev. local_at dev.1 >>= λ local.
    end_at local.1 >>= λ end.
    Ok (record (epoch_record said.0 said.1) { pre = pre.0; post = post.0; dev = dev.0; local = local.0 })

-- whether this is `.*` and white space alone
abbrev pub is_star : List ℕ → Bool
is_star [] = false
is_star (dot ∷ []) = false
is_star (dot ∷ star ∷ rest) =
    if dot == 46 then (if star == 42 then list_all is_ascii_whitespace rest else false) else false

abbrev pub version_behind : (ℕ × List ℕ) × List ℕ → Result VersionRecord TextFault
version_behind head = if is_star head.1 then at_left Wildcard head.1 else suffixed head.0 head.1

-- the version that a text is, or its first fault
unfoldable pub read_version : List ℕ → Result VersionRecord TextFault
read_version text = head_at text >>= version_behind

abbrev pub pattern_behind : (ℕ × List ℕ) × List ℕ → Result PatternRecord TextFault
pattern_behind head =
    if is_star head.1 then Ok (record { version = epoch_record head.0.0 head.0.1; wildcard = true })
    else (suffixed head.0 head.1 >>= λ version. Ok (record { version = version; wildcard = false }))

-- the pattern that a text is, or its first fault
unfoldable pub read_pattern : List ℕ → Result PatternRecord TextFault
read_pattern text = head_at text >>= pattern_behind

-- the version that a text is, if it is one
unfoldable pub version_of : List ℕ → Option VersionRecord
version_of text = result_ok (read_version text)

-- the pattern that a text is, if it is one
unfoldable pub pattern_of : List ℕ → Option PatternRecord
pattern_of text = result_ok (read_pattern text)
