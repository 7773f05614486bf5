-- The text of a specifier has no comma.
use Rattle.std.proofs.Common.{◌≡◌, ℕ, ◌<◌, ◌==◌, ◌||◌, Bool, true, false, List, [], ◌∷◌, ◌++◌, map, codes}
use Rattle.std.proofs.Common.{Option, Some, None, IsTrue, inl, inr, refl, sym, ap, subst, ◌∙◌, arith, cond}
use Rattle.std.proofs.lemmas.Bool.{false≢true}
use Rattle.std.proofs.lemmas.Bool.Decides.{nat_tests}
use Rattle.std.specs.Char.{is_ascii_whitespace, is_ascii_alphanumeric, is_whitespace, to_ascii_lowercase}
use Rattle.std.specs.Char.{digit_value}
use Rattle.std.specs.List.{AllZip, AllByRecursion, list_any, join_with_byte}
use Rattle.std.specs.Str.{NonePass, chars}
use Rattle.std.specs.Str.Parse.{AllDigits}
use Rattle.pep440_text.specs.declared.Prerelease.{Prerelease}
use Rattle.pep440_version.specs.Record.{Segment, VersionRecord}
use Rattle.pep440_version.specs.Text.{Front, Optional, AreWhite, IsNumber, IsEpoch, IsRelease, is_separator}
use Rattle.pep440_version.specs.Text.{IsSeparatorOrNone, IsNumberOrNone, IsOneOf, IsSuffix, pre_words}
use Rattle.pep440_version.specs.Text.{post_words, dev_words, IsPre, IsPost, IsDev, IsSegment, AreSegments}
use Rattle.pep440_version.specs.Text.{IsLocalOrNone, IsLetterV, IsHead, IsVersionText, IsStarText}
use Rattle.pep440_operator.specs.declared.operator.Operator.{Operator}
use Rattle.pep440_operator.specs.declared.operator.Operator.TheVariants.{Equal, EqualStar, ExactEqual}
use Rattle.pep440_operator.specs.declared.operator.Operator.TheVariants.{NotEqual, NotEqualStar, TildeEqual}
use Rattle.pep440_operator.specs.declared.operator.Operator.TheVariants.{LessThan, LessThanEqual}
use Rattle.pep440_operator.specs.declared.operator.Operator.TheVariants.{GreaterThan, GreaterThanEqual}
use Rattle.pep440_specifier.specs.Matching.{SpecifierRecord}
use Rattle.pep440_operator.specs.OperatorPrint.{operator_text}
use Rattle.pep440_specifier.specs.SpecifierText.{IsSpecifierText}

abbrev pub is_comma : ℕ → Bool
is_comma c = c == 44

abbrev pub NoComma : List ℕ → Type 0
NoComma text = NonePass is_comma text

both : (front rest : List ℕ) → NoComma front → NoComma rest → NoComma (front ++ rest)
both [] rest f r = r
both (c ∷ cs) rest f r = (f.0, both cs rest f.1 r)

-- ---- characters of a kind

the_comma : (c : ℕ) → is_comma c ≡ true → c ≡ 44
the_comma c h = grind (arith, nat_tests)

neither : (a b : Bool) → (a || b) ≡ false → (a ≡ false) × (b ≡ false)
neither true b h = absurd (cc)
neither false b h = (refl, h)

no_digit : (c : ℕ) (t : Bool) → digit_value c < 10 → is_comma c ≡ t → t ≡ false
no_digit c true h e = absurd (let n : digit_value 44 < 10 = subst (λ d. digit_value d < 10) (the_comma c e) h in omega arith)
no_digit c false h e = refl

other_by : (test : ℕ → Bool) (c : ℕ) (t : Bool) → test 44 ≡ false → test c ≡ true → is_comma c ≡ t → t ≡ false
other_by test c true n h e = absurd (false≢true (sym n ∙ ap test (sym (the_comma c e)) ∙ h))
other_by test c false n h e = refl

where_all : (test : ℕ → Bool) → test 44 ≡ false → (text : List ℕ) → AllByRecursion (λ c. IsTrue (test c)) text → NoComma text
where_all test n [] h = tt
where_all test n (c ∷ cs) h = (other_by test c (is_comma c) n h.0 refl, where_all test n cs h.1)

digits : (text : List ℕ) → AllDigits 10 text → NoComma text
digits [] h = tt
digits (c ∷ cs) h = (no_digit c (is_comma c) h.0 refl, digits cs h.1)

unlowered_by : (c : ℕ) (t : Bool) → is_comma (to_ascii_lowercase c) ≡ false → is_comma c ≡ t → t ≡ false
unlowered_by c true h e = absurd (false≢true (sym h ∙ ap (λ d. is_comma (to_ascii_lowercase d)) (the_comma c e)))
unlowered_by c false h e = refl

unlowered : (text : List ℕ) → NoComma (map to_ascii_lowercase text) → NoComma text
unlowered [] h = tt
unlowered (c ∷ cs) h = (unlowered_by c (is_comma c) h.0 refl, unlowered cs h.1)

none_by : (text : List ℕ) → list_any is_comma text ≡ false → NoComma text
none_by [] h = tt
none_by (c ∷ cs) h = let split = neither (is_comma c) (list_any is_comma cs) h in (split.0, none_by cs split.1)

-- ---- parts

joined : {A : Type 0} (Is : List ℕ → A → Type 0) → ((text : List ℕ) (value : A) → Is text value → NoComma text) → (parts : List (List ℕ)) (values : List A) → AllZip Is parts values → NoComma (join_with_byte 46 parts)
joined Is none [] values h = tt
joined Is none (p ∷ ps) [] h = absurd h
joined Is none (p ∷ []) (v ∷ vs) h = none p v h.0
joined Is none (p ∷ q ∷ ps) (v ∷ vs) h = both p (46 ∷ join_with_byte 46 (q ∷ ps)) (none p v h.0) (refl, joined Is none (q ∷ ps) vs h.1)

number : (text : List ℕ) (value : ℕ) → IsNumber text value → NoComma text
number text value h = digits text h.digits.1

same_text : (a b : List ℕ) → a ≡ b → NoComma b → NoComma a
same_text a b e h = subst NoComma (sym e) h

letter : (text : List ℕ) (said : Unit {0}) → IsLetterV text said → NoComma text
letter text said h = unlowered text (same_text (map to_ascii_lowercase text) (codes "v") h (refl, tt))

epoch : (text : List ℕ) (value : ℕ) → IsEpoch text value → NoComma text
epoch text value h = same_text text (h.0 ++ codes "!") h.1 (both h.0 (codes "!") (number h.0 value h.2) (refl, tt))

release : (text numbers : List ℕ) → IsRelease text numbers → NoComma text
release text numbers h = same_text text (join_with_byte 46 h.parts) h.joined (joined IsNumber number h.parts numbers h.are_numbers)

separator : (text : List ℕ) → IsSeparatorOrNone text → NoComma text
separator text (inl e) = same_text text [] e tt
separator text (inr h) = same_text text (h.0 ∷ []) h.1 (other_by is_separator h.0 (is_comma h.0) refl h.2 refl, tt)

number_or_none : (text : List ℕ) (value : ℕ) → IsNumberOrNone text value → NoComma text
number_or_none text value (inl h) = same_text text [] h.0 tt
number_or_none text value (inr h) = number text value h

one_of : {A : Type 0} (words : List (List ℕ × A)) (text : List ℕ) (meaning : A) → list_any (λ w. list_any is_comma w.0) words ≡ false → IsOneOf words text meaning → NoComma text
one_of [] text meaning n h = absurd h
one_of (word ∷ words) text meaning n (inl h) =
    unlowered text (same_text (map to_ascii_lowercase text) word.0 h.0 (none_by word.0 (neither (list_any is_comma word.0) (list_any (λ w. list_any is_comma w.0) words) n).0))
one_of (word ∷ words) text meaning n (inr h) = one_of words text meaning (neither (list_any is_comma word.0) (list_any (λ w. list_any is_comma w.0) words) n).1 h

suffix : {A : Type 0} (words : List (List ℕ × A)) (text : List ℕ) (said : A × ℕ) → list_any (λ w. list_any is_comma w.0) words ≡ false → IsSuffix words text said → NoComma text
suffix words text said n h =
    same_text text (h.before ++ (h.word ++ (h.between ++ h.digits))) h.joined
    (both h.before (h.word ++ (h.between ++ h.digits)) (separator h.before h.separated)
    (both h.word (h.between ++ h.digits) (one_of words h.word said.0 n h.is_word)
    (both h.between h.digits (separator h.between h.separated_digits) (number_or_none h.digits said.1 h.is_number))))

segment : (text : List ℕ) (value : Segment) → IsSegment text value → NoComma text
segment text value h = where_all is_ascii_alphanumeric refl text h.letters

segments : (text : List ℕ) (values : List Segment) → AreSegments text values → NoComma text
segments text [] h = absurd h
segments text (v ∷ []) h = segment text v h
segments text (v ∷ w ∷ vs) h =
    same_text text (h.0 ++ (h.1 ∷ h.2)) h.3 (both h.0 (h.1 ∷ h.2) (segment h.0 v h.5) (other_by is_separator h.1 (is_comma h.1) refl h.4 refl, segments h.2 (w ∷ vs) h.6))

local : (text : List ℕ) (values : List Segment) → IsLocalOrNone text values → NoComma text
local text [] h = same_text text [] h tt
local text (v ∷ vs) h = same_text text (43 ∷ h.0) h.1 (refl, segments h.0 (v ∷ vs) h.2)

white : (text : List ℕ) → AreWhite text → NoComma text
white text h = where_all is_ascii_whitespace refl text h

-- ---- the whole

front : {A : Type 0} (Is : List ℕ → A → Type 0) → ((text : List ℕ) (value : A) → Is text value → NoComma text) → (text : List ℕ) (value : A) (rest : List ℕ) → Front Is text value rest → NoComma rest → NoComma text
front Is none text value rest h r = same_text text (h.front ++ rest) h.split (both h.front rest (none h.front value h.is_part) r)

optional : {A : Type 0} (Is : List ℕ → A → Type 0) → ((text : List ℕ) (value : A) → Is text value → NoComma text) → (text : List ℕ) (value : Option A) (rest : List ℕ) → Optional Is text value rest → NoComma rest → NoComma text
optional Is none text None rest h r = subst NoComma h.1 r
optional Is none text (Some value) rest h r = front Is none text value rest h r

head : (text : List ℕ) (value : ℕ) (numbers rest : List ℕ) → IsHead text value numbers rest → NoComma rest → NoComma text
head text value numbers rest h r =
    let after_epoch = front IsRelease release h.after_epoch numbers rest h.has_release r in
    let after_letter = optional IsEpoch epoch h.after_letter h.written_epoch h.after_epoch h.has_epoch after_epoch in
    same_text text (h.white ++ h.body) h.split (both h.white h.body (white h.white h.is_white) (optional IsLetterV letter h.body h.letter h.after_letter h.has_letter after_letter))

pre : (text : List ℕ) (value : Prerelease) → IsPre text value → NoComma text
pre text value h = suffix pre_words text (value.kind, value.number) refl h

post : (text : List ℕ) (value : ℕ) → IsPost text value → NoComma text
post text value (inl h) = same_text text (45 ∷ h.0) h.1 (refl, number h.0 value h.2)
post text value (inr h) = suffix post_words text (tt, value) refl h

dev : (text : List ℕ) (value : ℕ) → IsDev text value → NoComma text
dev text value h = suffix dev_words text (tt, value) refl h

version : (text : List ℕ) (value : VersionRecord) → IsVersionText text value → NoComma text
version text value h =
    let last = same_text h.after_dev (h.local ++ h.white) h.split (both h.local h.white (local h.local value.local h.has_local) (white h.white h.is_white)) in
    let after_post = optional IsDev dev h.after_post value.dev h.after_dev h.has_dev last in
    let after_pre = optional IsPost post h.after_pre value.post h.after_post h.has_post after_post in
    head text value.epoch value.release h.after_release h.head (optional IsPre pre h.after_release value.pre h.after_pre h.has_pre after_pre)

star : (text : List ℕ) (value : VersionRecord) → IsStarText text value → NoComma text
star text value h =
    head text value.epoch value.release h.after_release h.head (same_text h.after_release (codes ".*" ++ h.white) h.star (refl, (refl, white h.white h.is_white)))

pattern_by : (text : List ℕ) (value : VersionRecord) (wildcard : Bool) → cond wildcard (IsStarText text value) (IsVersionText text value) → NoComma text
pattern_by text value true h = star text value h
pattern_by text value false h = version text value h

operator : (o : Operator) → NoComma (operator_text o)
operator Equal = none_by (codes "==") refl
operator EqualStar = none_by (codes "==") refl
operator ExactEqual = none_by (codes "===") refl
operator NotEqual = none_by (codes "!=") refl
operator NotEqualStar = none_by (codes "!=") refl
operator TildeEqual = none_by (codes "~=") refl
operator LessThan = none_by (codes "<") refl
operator LessThanEqual = none_by (codes "<=") refl
operator GreaterThan = none_by (codes ">") refl
operator GreaterThanEqual = none_by (codes ">=") refl

spaces : (text : List ℕ) → AllByRecursion (λ c. IsTrue (is_whitespace c)) text → NoComma text
spaces text h = where_all is_whitespace refl text h

pub specifier : (text : List ℕ) (value : SpecifierRecord) → IsSpecifierText text value → NoComma (chars text)
specifier text value h =
    same_text (chars text) (h.before ++ (operator_text h.operator ++ (h.between ++ (h.written ++ h.after)))) h.split
    (both h.before (operator_text h.operator ++ (h.between ++ (h.written ++ h.after))) (spaces h.before h.spaces_before)
    (both (operator_text h.operator) (h.between ++ (h.written ++ h.after)) (operator h.operator)
    (both h.between (h.written ++ h.after) (spaces h.between h.spaces_between)
    (both h.written h.after (pattern_by h.written h.pattern.version h.pattern.wildcard h.is_pattern) (spaces h.after h.spaces_after)))))
