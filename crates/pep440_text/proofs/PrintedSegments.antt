-- The print of a segment that was read is read as that segment, and so with the whole local part.
use Rattle.std.proofs.Common.{◌≡◌, ℕ, ◌<◌, ◌≤◌, ◌^◌, ◌&&◌, Bool, true, false, if◌then◌else◌, nat_lt, length}
use Rattle.std.proofs.Common.{map, List, [], ◌∷◌, refl, ap, sym, subst, ◌∙◌, arith}
use Rattle.std.proofs.lemmas.Bool.{false≢true}
use Rattle.std.proofs.lemmas.Bool.Decides.{nat_tests}
use Rattle.std.proofs.lemmas.Fmt.{decimal_is_IsNumeral}
use Rattle.std.specs.Char.{is_ascii_digit, is_ascii_alphanumeric, to_ascii_lowercase}
use Rattle.std.specs.Fmt.{decimal}
use Rattle.std.specs.List.{AllByRecursion, join_with_byte}
use Rattle.std.specs.Str.{all_ascii_digits}
use Rattle.std.specs.Str.Parse.{AllDigits, digits_value}
use Rattle.pep440_text.specs.Record.{Segment, Text, Number}
use Rattle.pep440_text.specs.Text.{segment_said, IsSegment, AreSegments, IsLocalOrNone}
use Rattle.pep440_text.specs.Printable.{IsPrintableText, IsPrintableSegment}
use Rattle.pep440_text.specs.Print.{segment_text, local_text}
use Rattle.pep440_text.proofs.FrontDigits.{digit_test}
use Rattle.pep440_text.proofs.WordTables.{and_both}
use Rattle.pep440_text.proofs.Spans.{Passes}

-- ---- lower case

lower_twice : (c : ℕ) → to_ascii_lowercase (to_ascii_lowercase c) ≡ to_ascii_lowercase c
lower_twice c = grind (arith, nat_tests)

lower_digit : (c : ℕ) → is_ascii_digit (to_ascii_lowercase c) ≡ is_ascii_digit c
lower_digit c = grind (arith, nat_tests)

digit_lower : (c : ℕ) → is_ascii_digit c ≡ true → to_ascii_lowercase c ≡ c
digit_lower c e = grind (arith, nat_tests)

lower_letter : (c : ℕ) → is_ascii_alphanumeric c ≡ true → is_ascii_alphanumeric (to_ascii_lowercase c) ≡ true
lower_letter c e = grind (arith, nat_tests)

digit_letter : (c : ℕ) → is_ascii_digit c ≡ true → is_ascii_alphanumeric c ≡ true
digit_letter c e = grind (arith, nat_tests)

abbrev lower : List ℕ → List ℕ
lower = map to_ascii_lowercase

lower_again : (text : List ℕ) → lower (lower text) ≡ lower text
lower_again [] = refl
lower_again (c ∷ cs) = (λ z. lower_twice c z ∷ lower_again cs z)

lower_digits : (text : List ℕ) → all_ascii_digits (lower text) ≡ all_ascii_digits text
lower_digits [] = refl
lower_digits (c ∷ cs) = (λ z. lower_digit c z && lower_digits cs z)

digits_lower : (text : List ℕ) → all_ascii_digits text ≡ true → lower text ≡ text
digits_lower [] e = refl
digits_lower (c ∷ cs) e =
    let k = and_both (is_ascii_digit c) (all_ascii_digits cs) e in
    (λ z. digit_lower c k.0 z ∷ digits_lower cs k.1 z)

lower_letters : (text : List ℕ) → Passes is_ascii_alphanumeric text
    → Passes is_ascii_alphanumeric (lower text)
lower_letters [] a = tt
lower_letters (c ∷ cs) a = (lower_letter c a.0, lower_letters cs a.1)

lower_length : (text : List ℕ) → length (lower text) ≡ length text
lower_length [] = refl
lower_length (c ∷ cs) = let i = lower_length cs in omega (arith, i)

-- ---- a segment

digits_are : (ds : List ℕ) → AllDigits 10 ds → (all_ascii_digits ds ≡ true) × Passes is_ascii_alphanumeric ds
digits_are [] a = (refl, tt)
digits_are (d ∷ ds) a =
    let t = digit_test d a.0 in
    let i = digits_are ds a.1 in
    (ap (λ x. x && all_ascii_digits ds) t ∙ i.0, (digit_letter d t, i.1))

-- what the tests on digits and their value make of a text
abbrev said : List ℕ → Bool → Bool → Segment
said text digits small = if digits && small then Number (digits_value 10 text) else Text (lower text)

said_is : (text : List ℕ) (digits small : Bool) → all_ascii_digits text ≡ digits
    → nat_lt (digits_value 10 text) (2 ^ 64) ≡ small → segment_said text ≡ said text digits small
said_is text digits small e f = (λ z. said text (e z) (f z))

number_printed : (n : ℕ) → n < 2 ^ 64 → IsSegment (decimal n) (Number n)
number_printed n h =
    let i = decimal_is_IsNumeral n h in
    let a = digits_are (decimal n) i.0.1 in
    let small : nat_lt n (2 ^ 64) ≡ true = grind (arith, nat_tests) in
    record {
      nonempty = i.0.0;
      letters = a.1;
      says = sym
          (said_is (decimal n) true true a.0 (ap (λ m. nat_lt m (2 ^ 64)) i.1 ∙ small) ∙ ap Number i.1);
    }

small_value : (n : ℕ) → nat_lt n (2 ^ 64) ≡ true → n < 2 ^ 64
small_value n e = grind (arith, nat_tests)

large_value : (n : ℕ) → nat_lt n (2 ^ 64) ≡ false → 2 ^ 64 ≤ n
large_value n e = grind (arith, nat_tests)

-- ---- what a text says is printable

lowered : (text : List ℕ) → 0 < length text → Passes is_ascii_alphanumeric text
    → (all_ascii_digits (lower text) ≡ true → 2 ^ 64 ≤ digits_value 10 (lower text)) → IsPrintableText
    (lower text)
lowered text h a no_number = record {
  nonempty = omega (arith, lower_length text);
  letters = lower_letters text a;
  lower = lower_again text;
  no_number = no_number;
}

said_printable : (text : List ℕ) (digits small : Bool) → all_ascii_digits text ≡ digits
    → nat_lt (digits_value 10 text) (2 ^ 64) ≡ small → 0 < length text → Passes is_ascii_alphanumeric text
    → IsPrintableSegment (said text digits small)
said_printable text true true e f h a = small_value (digits_value 10 text) f
said_printable text true false e f h a =
    lowered text h a
    (λ d. subst (λ t. 2 ^ 64 ≤ digits_value 10 t) (sym (digits_lower text e)) (large_value (digits_value 10 text) f))
said_printable text false small e f h a =
    lowered text h a (λ d. absurd (false≢true (sym e ∙ sym (lower_digits text) ∙ d)))

segment_printable : (text : List ℕ) (segment : Segment) → IsSegment text segment → IsPrintableSegment segment
segment_printable text segment i =
    let p =
    said_printable text (all_ascii_digits text)
    (nat_lt (digits_value 10 text) (2 ^ 64)) refl refl i.nonempty i.letters in
    subst IsPrintableSegment (sym i.says) p

segments_printable : (text : List ℕ) (segments : List Segment) → AreSegments text segments
    → AllByRecursion IsPrintableSegment segments
segments_printable text [] a = absurd a
segments_printable text (segment ∷ []) a = (segment_printable text segment a, tt)
segments_printable text (segment ∷ next ∷ segments) a =
    (segment_printable a.0 segment a.5, segments_printable a.2 (next ∷ segments) a.6)

pub local_printable : (local : List ℕ) (segments : List Segment) → IsLocalOrNone local segments
    → AllByRecursion IsPrintableSegment segments
local_printable local [] i = tt
local_printable local (segment ∷ segments) i = segments_printable i.0 (segment ∷ segments) i.2

-- ---- what is printable is read as it is

text_said : (bytes : List ℕ) (digits small : Bool) → all_ascii_digits bytes ≡ digits
    → nat_lt (digits_value 10 bytes)
    (2 ^ 64) ≡ small → IsPrintableText bytes → Text bytes ≡ said bytes digits small
text_said bytes true true e f p =
    let large : 2 ^ 64 ≤ digits_value 10 bytes = p.no_number e in
    let less : digits_value 10 bytes < 2 ^ 64 = small_value (digits_value 10 bytes) f in
    absurd (omega arith)
text_said bytes true false e f p = ap Text (sym p.lower)
text_said bytes false small e f p = ap Text (sym p.lower)

segment_printed : (segment : Segment) → IsPrintableSegment segment → IsSegment (segment_text segment) segment
segment_printed (Text bytes) p = record {
  nonempty = p.nonempty;
  letters = p.letters;
  says = text_said bytes (all_ascii_digits bytes) (nat_lt (digits_value 10 bytes) (2 ^ 64)) refl refl p;
}
segment_printed (Number number) p = number_printed number p

segments_printed : (segment : Segment) (segments : List Segment)
    → AllByRecursion IsPrintableSegment (segment ∷ segments)
    → AreSegments (join_with_byte 46 (map segment_text (segment ∷ segments))) (segment ∷ segments)
segments_printed segment [] a = segment_printed segment a.0
segments_printed segment (next ∷ segments) a = (
  segment_text segment,
  46,
  join_with_byte 46 (map segment_text (next ∷ segments)),
  refl,
  refl,
  segment_printed segment a.0,
  segments_printed next segments a.1,
)

pub local_printed : (segments : List Segment) → AllByRecursion IsPrintableSegment segments
    → IsLocalOrNone (local_text segments) segments
local_printed [] a = refl
local_printed (segment ∷ segments) a =
    (join_with_byte 46 (map segment_text (segment ∷ segments)), refl, segments_printed segment segments a)
