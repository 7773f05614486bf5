-- The text of a version: its parts and their meanings (PEP 440, "Version scheme" and Appendix B). Letters
-- are in either case. An optional part is there wherever it can be, and is as long as it can be.
use Rattle.std.specs.Prelude.{◌≡◌, ℕ, ◌<◌, ◌≤◌, ◌^◌, ◌==◌, ◌||◌, ◌&&◌, ◌⊎◌, Bool, cond, if◌then◌else◌, nat_lt}
use Rattle.std.specs.Prelude.{IsTrue, IfSome, All, List, [], ◌∷◌, ◌++◌, length, map, codes, Option, Some}
use Rattle.std.specs.Prelude.{None, unwrap_or}
use Rattle.std.specs.Char.{is_ascii_whitespace, is_ascii_alphanumeric, to_ascii_lowercase}
use Rattle.std.specs.List.{AllZip, AllByRecursion, join_with_byte}
use Rattle.std.specs.Str.{all_ascii_digits}
use Rattle.std.specs.Str.Parse.{IsNumeral, digits_value}
use Rattle.pep440_text.specs.declared.Prerelease.{Prerelease}
use Rattle.pep440_text.specs.declared.PrereleaseKind.{PrereleaseKind}
use Rattle.pep440_text.specs.declared.PrereleaseKind.TheVariants.{Alpha, Beta, Rc}
use Rattle.pep440_text.specs.Record.{Segment, Text, Number, VersionRecord, PatternRecord, epoch_record}

-- ---- parts in general

-- the longest front of a text that is a part of a kind, and what follows it
pub record Front {A : Type 0} (Is : List ℕ → A → Type 0) (text : List ℕ) (value : A) (rest : List ℕ)
    : Type 0 where
  pub front : List ℕ
  pub split : text ≡ front ++ rest
  pub is_part : Is front value
  pub longest : (other : List ℕ) (more : List ℕ) (another : A) → text ≡ other ++ more → Is other another
      → length other ≤ length front

-- no front of a text is such a part
abbrev pub HasNoFront : {A : Type 0} → (List ℕ → A → Type 0) → List ℕ → Type 0
HasNoFront {A} Is text =
    (front : List ℕ) (rest : List ℕ) (value : A) → text ≡ front ++ rest → Is front value → ⊥

-- a part that may be there, and what follows it
abbrev pub Optional : {A : Type 0} → (List ℕ → A → Type 0) → List ℕ → Option A → List ℕ → Type 0
Optional Is text None rest = HasNoFront Is text × (rest ≡ text)
Optional Is text (Some value) rest = Front Is text value rest

-- ---- the parts

-- white space, which is allowed around a version: tab, line feed, form feed, carriage return, blank
abbrev pub AreWhite : List ℕ → Type 0
AreWhite = AllByRecursion (λ b. IsTrue (is_ascii_whitespace b))

-- the letter that may precede a version (PEP 440, "Preceding v character")
abbrev pub IsLetterV : List ℕ → Unit {0} → Type 0
IsLetterV text said = map to_ascii_lowercase text ≡ codes "v"

-- one or more digits, and their value
pub record IsNumber (text : List ℕ) (number : ℕ) : Type 0 where
  pub digits : IsNumeral 10 text
  pub value : number ≡ digits_value 10 text

-- a number and `!` (PEP 440, "Version epochs")
abbrev pub IsEpoch : List ℕ → ℕ → Type 0
IsEpoch text epoch = (digits : List ℕ) × (text ≡ digits ++ codes "!") × IsNumber digits epoch

-- one or more numbers with dots between them (PEP 440, "Final releases")
pub record IsRelease (text : List ℕ) (numbers : List ℕ) : Type 0 where
  pub parts : List (List ℕ)
  pub joined : text ≡ join_with_byte 46 parts
  pub are_numbers : AllZip IsNumber parts numbers
  pub nonempty : 0 < length numbers

-- `.`, `-` and `_`
abbrev pub is_separator : ℕ → Bool
is_separator byte = byte == 46 || (byte == 45 || byte == 95)

-- a separator or nothing
abbrev pub IsSeparatorOrNone : List ℕ → Type 0
IsSeparatorOrNone text = (text ≡ []) ⊎ ((byte : ℕ) × (text ≡ byte ∷ []) × IsTrue (is_separator byte))

-- a number, or nothing, which means 0
abbrev pub IsNumberOrNone : List ℕ → ℕ → Type 0
IsNumberOrNone text number = ((text ≡ []) × (number ≡ 0)) ⊎ IsNumber text number

-- one of some words, and its meaning
abbrev pub IsOneOf : {A : Type 0} → List (List ℕ × A) → List ℕ → A → Type 0
IsOneOf [] text meaning = ⊥
IsOneOf (word ∷ words) text meaning =
    ((map to_ascii_lowercase text ≡ word.0) × (meaning ≡ word.1)) ⊎ IsOneOf words text meaning

-- one of some words with a number, each with a separator before it or none
pub record IsSuffix {A : Type 0} (words : List (List ℕ × A)) (text : List ℕ) (said : A × ℕ) : Type 0 where
  pub before : List ℕ
  pub word : List ℕ
  pub between : List ℕ
  pub digits : List ℕ
  pub joined : text ≡ before ++ (word ++ (between ++ digits))
  pub separated : IsSeparatorOrNone before
  pub is_word : IsOneOf words word said.0
  pub separated_digits : IsSeparatorOrNone between
  pub is_number : IsNumberOrNone digits said.1

-- the words of pre-releases, a longer one before its own front (PEP 440, "Pre-release spelling")
abbrev pub pre_words : List (List ℕ × PrereleaseKind)
pre_words =
    (codes "alpha", Alpha) ∷ (codes "a", Alpha) ∷ (codes "beta", Beta) ∷ (codes "b", Beta)
    ∷ (codes "preview", Rc) ∷ (codes "pre", Rc) ∷ (codes "rc", Rc) ∷ (codes "c", Rc) ∷ []

-- the words of post-releases (PEP 440, "Post release spelling")
abbrev pub post_words : List (List ℕ × Unit {0})
post_words = (codes "post", tt) ∷ (codes "rev", tt) ∷ (codes "r", tt) ∷ []

-- the word of developmental releases (PEP 440, "Developmental releases")
abbrev pub dev_words : List (List ℕ × Unit {0})
dev_words = (codes "dev", tt) ∷ []

-- a pre-release (PEP 440, "Pre-releases")
abbrev pub IsPre : List ℕ → Prerelease → Type 0
IsPre text pre = IsSuffix pre_words text (pre.kind, pre.number)

-- a number after a byte
abbrev pub IsMarkedNumber : ℕ → List ℕ → ℕ → Type 0
IsMarkedNumber mark text number = (digits : List ℕ) × (text ≡ mark ∷ digits) × IsNumber digits number

-- a post-release (PEP 440, "Post-releases" and "Implicit post releases")
abbrev pub IsPost : List ℕ → ℕ → Type 0
IsPost text number = IsMarkedNumber 45 text number ⊎ IsSuffix post_words text (tt, number)

-- a developmental release (PEP 440, "Developmental releases")
abbrev pub IsDev : List ℕ → ℕ → Type 0
IsDev text number = IsSuffix dev_words text (tt, number)

-- the segment of letters and digits: digits up to 2 ^ 64 - 1 are a number, others a text in lower case
abbrev pub segment_said : List ℕ → Segment
segment_said text =
    if all_ascii_digits text && nat_lt (digits_value 10 text) (2 ^ 64) then Number (digits_value 10 text)
    else Text (map to_ascii_lowercase text)

-- one or more letters and digits (PEP 440, "Local version identifiers")
pub record IsSegment (text : List ℕ) (segment : Segment) : Type 0 where
  pub nonempty : 0 < length text
  pub letters : AllByRecursion (λ b. IsTrue (is_ascii_alphanumeric b)) text
  pub says : segment ≡ segment_said text

-- one or more segments with separators between them (PEP 440, "Local version segments")
abbrev pub AreSegments : List ℕ → List Segment → Type 0
AreSegments text [] = ⊥
AreSegments text (segment ∷ []) = IsSegment text segment
AreSegments text (segment ∷ next ∷ segments) =
    (front : List ℕ) × (separator : ℕ) × (rest : List ℕ) × (text ≡ front ++ (separator ∷ rest))
    × IsTrue (is_separator separator) × IsSegment front segment × AreSegments rest (next ∷ segments)

-- a local part, or nothing, which has no segments
abbrev pub IsLocalOrNone : List ℕ → List Segment → Type 0
IsLocalOrNone text [] = text ≡ []
IsLocalOrNone text (segment ∷ segments) =
    (rest : List ℕ) × (text ≡ 43 ∷ rest) × AreSegments rest (segment ∷ segments)

-- ---- the whole

-- each number fits 64 bits; digits of a larger one are not part of a version
pub record Fits (version : VersionRecord) : Type 0 where
  pub epoch : version.epoch < 2 ^ 64
  pub release : All (λ number. number < 2 ^ 64) version.release
  pub pre : IfSome version.pre (λ pre. pre.number < 2 ^ 64)
  pub post : IfSome version.post (λ number. number < 2 ^ 64)
  pub dev : IfSome version.dev (λ number. number < 2 ^ 64)

-- how versions and patterns begin: white space, `v`, the epoch and the release
pub record IsHead (text : List ℕ) (epoch : ℕ) (numbers : List ℕ) (rest : List ℕ) : Type 0 where
  pub white : List ℕ
  pub body : List ℕ
  pub split : text ≡ white ++ body
  pub is_white : AreWhite white
  pub letter : Option (Unit {0})
  pub after_letter : List ℕ
  pub has_letter : Optional IsLetterV body letter after_letter
  pub written_epoch : Option ℕ
  pub after_epoch : List ℕ
  pub has_epoch : Optional IsEpoch after_letter written_epoch after_epoch
  pub is_epoch : epoch ≡ unwrap_or written_epoch 0
  pub has_release : Front IsRelease after_epoch numbers rest

-- the text of a version
pub record IsVersionText (text : List ℕ) (version : VersionRecord) : Type 0 where
  pub after_release : List ℕ
  pub head : IsHead text version.epoch version.release after_release
  pub after_pre : List ℕ
  pub has_pre : Optional IsPre after_release version.pre after_pre
  pub after_post : List ℕ
  pub has_post : Optional IsPost after_pre version.post after_post
  pub after_dev : List ℕ
  pub has_dev : Optional IsDev after_post version.dev after_dev
  pub local : List ℕ
  pub white : List ℕ
  pub split : after_dev ≡ local ++ white
  pub has_local : IsLocalOrNone local version.local
  pub is_white : AreWhite white
  pub no_least : version.least ≡ None
  pub no_most : version.most ≡ None
  pub fits : Fits version

-- the text of a version of epoch and release alone, followed by `.*` (PEP 440, "Version matching")
pub record IsStarText (text : List ℕ) (version : VersionRecord) : Type 0 where
  pub after_release : List ℕ
  pub head : IsHead text version.epoch version.release after_release
  pub white : List ℕ
  pub star : after_release ≡ codes ".*" ++ white
  pub is_white : AreWhite white
  pub is_plain : version ≡ epoch_record version.epoch version.release
  pub fits : Fits version

-- the text of a pattern: a star's, or a version's
abbrev pub IsPatternText : List ℕ → PatternRecord → Type 0
IsPatternText text pattern =
    cond pattern.wildcard (IsStarText text pattern.version) (IsVersionText text pattern.version)
