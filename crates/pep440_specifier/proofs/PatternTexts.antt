-- The bytes of a pattern's text: ASCII, and where no white space stands in it, `v` or a digit first.
use Rattle.std.proofs.Common.{◌≡◌, ℕ, ◌<◌, ◌&&◌, nat_lt, inl, inr, Bool, true, false, cond, IsTrue, List, []}
use Rattle.std.proofs.Common.{◌∷◌, ◌++◌, length, map, codes, Option, Some, None, refl, ap, sym, subst, ◌∙◌}
use Rattle.std.proofs.Common.{arith}
use Rattle.std.proofs.lemmas.Bool.Decides.{nat_tests}
use Rattle.std.specs.Char.{is_whitespace, is_ascii_whitespace, is_ascii_alphanumeric, to_ascii_lowercase}
use Rattle.std.specs.Char.{digit_value}
use Rattle.std.specs.List.{AllByRecursion, AllZip, join_with_byte}
use Rattle.std.specs.Str.Parse.{AllDigits}
use Rattle.pep440_text.specs.declared.Prerelease.{Prerelease}
use Rattle.pep440_version.specs.Record.{Segment, VersionRecord, PatternRecord}
use Rattle.pep440_version.specs.Text.{Front, Optional, AreWhite, IsLetterV, IsNumber, IsEpoch, IsRelease}
use Rattle.pep440_version.specs.Text.{is_separator, IsSeparatorOrNone, IsNumberOrNone, IsOneOf, IsSuffix}
use Rattle.pep440_version.specs.Text.{pre_words, post_words, dev_words, IsPre, IsPost, IsDev, IsSegment}
use Rattle.pep440_version.specs.Text.{AreSegments, IsLocalOrNone, IsHead, IsVersionText, IsStarText}
use Rattle.pep440_version.specs.Text.{IsPatternText}
use Rattle.pep440_specifier.specs.SpecifierText.{HasNoSpace}
use Rattle.pep440_operator.specs.OperatorReading.{ends_operator}

abbrev pub AreAscii : List ℕ → Type 0
AreAscii = AllByRecursion (λ b. b < 128)

-- neither white space nor a character of an operator stands first
abbrev pub Starts : List ℕ → Type 0
Starts [] = ⊥
Starts (c ∷ cs) = (ends_operator c ≡ true) × (is_whitespace c ≡ false)

pub all_append : {X : Type 0} (P : X → Type 0) (xs ys : List X) → AllByRecursion P xs → AllByRecursion P ys → AllByRecursion P (xs ++ ys)
all_append P [] ys h k = k
all_append P (x ∷ xs) ys h k = (h.0, all_append P xs ys h.1 k)

both : (text front rest : List ℕ) → text ≡ front ++ rest → AreAscii front → AreAscii rest → AreAscii text
both text front rest e h k = let P : List ℕ → Type 0 = λ bs. AreAscii bs in subst P (sym e) (all_append (λ b. b < 128) front rest h k)

-- ---- single bytes

white_ascii : (b : ℕ) → IsTrue (is_ascii_whitespace b) → b < 128
white_ascii b h = grind (arith, nat_tests)

white_is_space : (b : ℕ) → IsTrue (is_ascii_whitespace b) → is_whitespace b ≡ false → ⊥
white_is_space b h k = grind (arith, nat_tests)

lower_ascii : (b : ℕ) → to_ascii_lowercase b < 128 → b < 128
lower_ascii b h = grind (arith, nat_tests)

digit_ascii : (b : ℕ) → digit_value b < 10 → b < 128
digit_ascii b h = grind (arith, nat_tests)

separator_ascii : (b : ℕ) → IsTrue (is_separator b) → b < 128
separator_ascii b h = grind (arith, nat_tests)

alphanumeric_ascii : (b : ℕ) → IsTrue (is_ascii_alphanumeric b) → b < 128
alphanumeric_ascii b h = grind (arith, nat_tests)

digit_starts : (b : ℕ) → digit_value b < 10 → (ends_operator b ≡ true) × (is_whitespace b ≡ false)
digit_starts b h = (grind (arith, nat_tests), grind (arith, nat_tests))

v_starts : (b : ℕ) → to_ascii_lowercase b ≡ 118 → (ends_operator b ≡ true) × (is_whitespace b ≡ false)
v_starts b h = (grind (arith, nat_tests), grind (arith, nat_tests))

-- ---- parts are ASCII

pub mapped : {X : Type 0} (P Q : X → Type 0) → ((x : X) → P x → Q x) → (xs : List X) → AllByRecursion P xs → AllByRecursion Q xs
mapped P Q f [] h = tt
mapped P Q f (x ∷ xs) h = (f x h.0, mapped P Q f xs h.1)

white_text : (text : List ℕ) → AreWhite text → AreAscii text
white_text text h = mapped (λ b. IsTrue (is_ascii_whitespace b)) (λ b. b < 128) white_ascii text h

word_text : (text word : List ℕ) → AreAscii word → map to_ascii_lowercase text ≡ word → AreAscii text
word_text [] word h e = tt
word_text (b ∷ bs) [] h e = absurd (cc)
word_text (b ∷ bs) (c ∷ cs) h e =
    let one : to_ascii_lowercase b ≡ c = cc in
    let rest : map to_ascii_lowercase bs ≡ cs = cc in
    let small : to_ascii_lowercase b < 128 = omega (arith, one, h.0) in
    (lower_ascii b small, word_text bs cs h.1 rest)

digits_text : (text : List ℕ) → AllDigits 10 text → AreAscii text
digits_text [] h = tt
digits_text (b ∷ bs) h = (digit_ascii b h.0, digits_text bs h.1)

number_text : (text : List ℕ) (number : ℕ) → IsNumber text number → AreAscii text
number_text text number h = digits_text text h.digits.1

letter_text : (text : List ℕ) (said : Unit {0}) → IsLetterV text said → AreAscii text
letter_text text said h = word_text text (codes "v") (omega arith, tt) h

epoch_text : (text : List ℕ) (epoch : ℕ) → IsEpoch text epoch → AreAscii text
epoch_text text epoch h = both text h.0 (codes "!") h.1 (number_text h.0 epoch h.2) (omega arith, tt)

numbers_text : (parts : List (List ℕ)) (numbers : List ℕ) → AllZip IsNumber parts numbers → AreAscii (join_with_byte 46 parts)
numbers_text [] numbers h = tt
numbers_text (part ∷ parts) [] h = absurd h
numbers_text (part ∷ []) (number ∷ numbers) h = number_text part number h.0
numbers_text (part ∷ next ∷ parts) (number ∷ numbers) h =
    all_append (λ b. b < 128) part (46 ∷ join_with_byte 46 (next ∷ parts)) (number_text part number h.0) (omega arith, numbers_text (next ∷ parts) numbers h.1)

release_text : (text : List ℕ) (numbers : List ℕ) → IsRelease text numbers → AreAscii text
release_text text numbers h = let P : List ℕ → Type 0 = λ bs. AreAscii bs in subst P (sym h.joined) (numbers_text h.parts numbers h.are_numbers)

separator_text : (text : List ℕ) → IsSeparatorOrNone text → AreAscii text
separator_text text (inl h) = let P : List ℕ → Type 0 = λ bs. AreAscii bs in subst P (sym h) tt
separator_text text (inr h) = let P : List ℕ → Type 0 = λ bs. AreAscii bs in subst P (sym h.1) (separator_ascii h.0 h.2, tt)

number_or_none_text : (text : List ℕ) (number : ℕ) → IsNumberOrNone text number → AreAscii text
number_or_none_text text number (inl h) = let P : List ℕ → Type 0 = λ bs. AreAscii bs in subst P (sym h.0) tt
number_or_none_text text number (inr h) = number_text text number h

-- the words are ASCII
abbrev AreAsciiWords : {A : Type 0} → List (List ℕ × A) → Type 0
AreAsciiWords [] = Unit {0}
AreAsciiWords (word ∷ words) = AreAscii word.0 × AreAsciiWords words

one_text : {A : Type 0} (words : List (List ℕ × A)) (text : List ℕ) (meaning : A) → AreAsciiWords words → IsOneOf words text meaning → AreAscii text
one_text [] text meaning w h = absurd h
one_text (word ∷ words) text meaning w (inl h) = word_text text word.0 w.0 h.0
one_text (word ∷ words) text meaning w (inr h) = one_text words text meaning w.1 h

suffix_text : {A : Type 0} (words : List (List ℕ × A)) (text : List ℕ) (said : A × ℕ) → AreAsciiWords words → IsSuffix words text said → AreAscii text
suffix_text words text said w h =
    both text h.before (h.word ++ (h.between ++ h.digits)) h.joined (separator_text h.before h.separated)
    (all_append (λ b. b < 128) h.word (h.between ++ h.digits) (one_text words h.word said.0 w h.is_word)
    (all_append (λ b. b < 128) h.between h.digits (separator_text h.between h.separated_digits) (number_or_none_text h.digits said.1 h.is_number)))

-- whether the words are ASCII
abbrev all_ascii : List ℕ → Bool
all_ascii [] = true
all_ascii (b ∷ bs) = nat_lt b 128 && all_ascii bs

abbrev words_ascii : {A : Type 0} → List (List ℕ × A) → Bool
words_ascii [] = true
words_ascii (word ∷ words) = all_ascii word.0 && words_ascii words

both_true : (a b : Bool) → (a && b) ≡ true → (a ≡ true) × (b ≡ true)
both_true true b h = (refl, h)
both_true false b h = absurd (cc)

below : (b : ℕ) → nat_lt b 128 ≡ true → b < 128
below b h = grind (arith, nat_tests)

ascii_by : (text : List ℕ) → all_ascii text ≡ true → AreAscii text
ascii_by [] h = tt
ascii_by (b ∷ bs) h = let t = both_true (nat_lt b 128) (all_ascii bs) h in (below b t.0, ascii_by bs t.1)

words_by : {A : Type 0} (words : List (List ℕ × A)) → words_ascii words ≡ true → AreAsciiWords words
words_by [] h = tt
words_by (word ∷ words) h = let t = both_true (all_ascii word.0) (words_ascii words) h in (ascii_by word.0 t.0, words_by words t.1)

pre_text : (text : List ℕ) (pre : Prerelease) → IsPre text pre → AreAscii text
pre_text text pre h = suffix_text pre_words text (pre.kind, pre.number) (words_by pre_words refl) h

post_text : (text : List ℕ) (number : ℕ) → IsPost text number → AreAscii text
post_text text number (inl h) =
    let P : List ℕ → Type 0 = λ bs. AreAscii bs in subst P (sym h.1) (omega arith, number_text h.0 number h.2)
post_text text number (inr h) = suffix_text post_words text (tt, number) (words_by post_words refl) h

dev_text : (text : List ℕ) (number : ℕ) → IsDev text number → AreAscii text
dev_text text number h = suffix_text dev_words text (tt, number) (words_by dev_words refl) h

segment_text : (text : List ℕ) (segment : Segment) → IsSegment text segment → AreAscii text
segment_text text segment h = mapped (λ b. IsTrue (is_ascii_alphanumeric b)) (λ b. b < 128) alphanumeric_ascii text h.letters

segments_text : (text : List ℕ) (segments : List Segment) → AreSegments text segments → AreAscii text
segments_text text [] h = absurd h
segments_text text (segment ∷ []) h = segment_text text segment h
segments_text text (segment ∷ next ∷ segments) h =
    both text h.0 (h.1 ∷ h.2) h.3 (segment_text h.0 segment h.5) (separator_ascii h.1 h.4, segments_text h.2 (next ∷ segments) h.6)

local_text : (text : List ℕ) (segments : List Segment) → IsLocalOrNone text segments → AreAscii text
local_text text [] h = let P : List ℕ → Type 0 = λ bs. AreAscii bs in subst P (sym h) tt
local_text text (segment ∷ segments) h =
    let P : List ℕ → Type 0 = λ bs. AreAscii bs in subst P (sym h.1) (omega arith, segments_text h.0 (segment ∷ segments) h.2)

-- ---- the whole is ASCII

front_text : {A : Type 0} (Is : List ℕ → A → Type 0) (text : List ℕ) (value : A) (rest : List ℕ) → ((front : List ℕ) (value : A) → Is front value → AreAscii front)
    → Front Is text value rest → AreAscii rest → AreAscii text
front_text Is text value rest f h k = both text h.front rest h.split (f h.front value h.is_part) k

optional_text : {A : Type 0} (Is : List ℕ → A → Type 0) (text : List ℕ) (value : Option A) (rest : List ℕ) → ((front : List ℕ) (value : A) → Is front value → AreAscii front)
    → Optional Is text value rest → AreAscii rest → AreAscii text
optional_text Is text None rest f h k = let P : List ℕ → Type 0 = λ bs. AreAscii bs in subst P h.1 k
optional_text Is text (Some value) rest f h k = front_text Is text value rest f h k

head_text : (text : List ℕ) (epoch : ℕ) (numbers rest : List ℕ) → IsHead text epoch numbers rest → AreAscii rest → AreAscii text
head_text text epoch numbers rest h k =
    both text h.white h.body h.split (white_text h.white h.is_white)
    (optional_text IsLetterV h.body h.letter h.after_letter letter_text h.has_letter
    (optional_text IsEpoch h.after_letter h.written_epoch h.after_epoch epoch_text h.has_epoch
    (front_text IsRelease h.after_epoch numbers rest release_text h.has_release k)))

version_text_ascii : (text : List ℕ) (version : VersionRecord) → IsVersionText text version → AreAscii text
version_text_ascii text version h =
    head_text text version.epoch version.release h.after_release h.head
    (optional_text IsPre h.after_release version.pre h.after_pre pre_text h.has_pre
    (optional_text IsPost h.after_pre version.post h.after_post post_text h.has_post
    (optional_text IsDev h.after_post version.dev h.after_dev dev_text h.has_dev
    (both h.after_dev h.local h.white h.split (local_text h.local version.local h.has_local) (white_text h.white h.is_white)))))

star_text_ascii : (text : List ℕ) (version : VersionRecord) → IsStarText text version → AreAscii text
star_text_ascii text version h =
    head_text text version.epoch version.release h.after_release h.head
    (both h.after_release (codes ".*") h.white h.star (ascii_by (codes ".*") refl) (white_text h.white h.is_white))

pattern_by : (text : List ℕ) (version : VersionRecord) (wildcard : Bool) → cond wildcard (IsStarText text version) (IsVersionText text version) → AreAscii text
pattern_by text version true h = star_text_ascii text version h
pattern_by text version false h = version_text_ascii text version h

-- a pattern's text is ASCII
pub pattern_ascii : (text : List ℕ) (pattern : PatternRecord) → IsPatternText text pattern → AreAscii text
pattern_ascii text pattern h = pattern_by text pattern.version pattern.wildcard h

-- ---- the first character

no_white : (white : List ℕ) (body : List ℕ) → AreWhite white → HasNoSpace (white ++ body) → white ≡ []
no_white [] body h k = refl
no_white (b ∷ bs) body h k = absurd (white_is_space b h.0 k.0)

starts_more : (text rest : List ℕ) → Starts text → Starts (text ++ rest)
starts_more [] rest h = absurd h
starts_more (b ∷ bs) rest h = h

starts_as : (text front rest : List ℕ) → text ≡ front ++ rest → Starts front → Starts text
starts_as text front rest e h = let P : List ℕ → Type 0 = λ bs. Starts bs in subst P (sym e) (starts_more front rest h)

number_starts : (text : List ℕ) (number : ℕ) → IsNumber text number → Starts text
number_starts [] number h = absurd (omega (arith, h.digits.0))
number_starts (b ∷ bs) number h = digit_starts b h.digits.1.0

letter_starts : (text : List ℕ) (said : Unit {0}) → IsLetterV text said → Starts text
letter_starts [] said h = absurd (cc)
letter_starts (b ∷ bs) said h = let e : to_ascii_lowercase b ≡ 118 = cc in v_starts b e

epoch_starts : (text : List ℕ) (epoch : ℕ) → IsEpoch text epoch → Starts text
epoch_starts text epoch h = starts_as text h.0 (codes "!") h.1 (number_starts h.0 epoch h.2)

numbers_start : (parts : List (List ℕ)) (numbers : List ℕ) → AllZip IsNumber parts numbers → 0 < length numbers → Starts (join_with_byte 46 parts)
numbers_start [] [] h n = absurd (omega arith)
numbers_start [] (number ∷ numbers) h n = absurd h
numbers_start (part ∷ parts) [] h n = absurd h
numbers_start (part ∷ []) (number ∷ numbers) h n = number_starts part number h.0
numbers_start (part ∷ next ∷ parts) (number ∷ numbers) h n = starts_more part (46 ∷ join_with_byte 46 (next ∷ parts)) (number_starts part number h.0)

release_starts : (text : List ℕ) (numbers : List ℕ) → IsRelease text numbers → Starts text
release_starts text numbers h = let P : List ℕ → Type 0 = λ bs. Starts bs in subst P (sym h.joined) (numbers_start h.parts numbers h.are_numbers h.nonempty)

optional_starts : {A : Type 0} (Is : List ℕ → A → Type 0) (text : List ℕ) (value : Option A) (rest : List ℕ) → ((front : List ℕ) (value : A) → Is front value → Starts front)
    → Optional Is text value rest → Starts rest → Starts text
optional_starts Is text None rest f h k = let P : List ℕ → Type 0 = λ bs. Starts bs in subst P h.1 k
optional_starts Is text (Some value) rest f h k = starts_as text h.front rest h.split (f h.front value h.is_part)

head_starts : (text : List ℕ) (epoch : ℕ) (numbers rest : List ℕ) → IsHead text epoch numbers rest → HasNoSpace text → Starts text
head_starts text epoch numbers rest h k =
    let P : List ℕ → Type 0 = λ bs. HasNoSpace bs in
    let none : h.white ≡ [] = no_white h.white h.body h.is_white (subst P h.split k) in
    let same : text ≡ h.body = h.split ∙ ap (λ bs. bs ++ h.body) none in
    let release : Starts h.after_epoch = starts_as h.after_epoch h.has_release.front rest h.has_release.split (release_starts h.has_release.front numbers h.has_release.is_part) in
    let Q : List ℕ → Type 0 = λ bs. Starts bs in
    subst Q (sym same) (optional_starts IsLetterV h.body h.letter h.after_letter letter_starts h.has_letter
    (optional_starts IsEpoch h.after_letter h.written_epoch h.after_epoch epoch_starts h.has_epoch release))

starts_by : (text : List ℕ) (version : VersionRecord) (wildcard : Bool) → cond wildcard (IsStarText text version) (IsVersionText text version) → HasNoSpace text → Starts text
starts_by text version true h k = head_starts text version.epoch version.release h.after_release h.head k
starts_by text version false h k = head_starts text version.epoch version.release h.after_release h.head k

-- a pattern's text with no white space begins with `v` or a digit
pub pattern_starts : (text : List ℕ) (pattern : PatternRecord) → IsPatternText text pattern → HasNoSpace text → Starts text
pattern_starts text pattern h k = starts_by text pattern.version pattern.wildcard h k
