-- What is read of a text is the specifier that the grammar gives it.
use Rattle.std.proofs.Common.{◌≡◌, ℕ, ◌+◌, ◌<◌, ◌==◌, ◌↔◌, Bool, true, false, not, cond, if◌then◌else◌}
use Rattle.std.proofs.Common.{IsTrue, List, [], ◌∷◌, ◌++◌, length, take, drop, Option, Some, None, Result}
use Rattle.std.proofs.Common.{Ok, Err, suc, refl, ap, sym, subst, ◌∙◌, arith}
use Rattle.std.proofs.Math.Seq.{take-append_seam}
use Rattle.std.proofs.lemmas.Bool.Decides.{nat_tests}
use Rattle.std.proofs.lemmas.List.{take-append-drop, append-nil}
use Rattle.std.proofs.lemmas.List.Prefix.{front_rest}
use Rattle.std.proofs.lemmas.Str.{encodes_same, encode_ascii}
use Rattle.std.specs.Char.{is_whitespace}
use Rattle.std.specs.List.{AllByRecursion, position_or_len, before_first}
use Rattle.std.specs.Result.{result_ok}
use Rattle.std.specs.Str.{chars, encode_utf8_all, skip_leading_whitespace}
use Rattle.pep440_version.specs.Record.{PatternRecord}
use Rattle.pep440_version.specs.Reading.{pattern_of}
use Rattle.pep440_version.specs.Text.{IsPatternText}
use Rattle.pep440_version.specs.VersionReading.{VersionFault, pattern_reading}
use Rattle.pep440_version.proofs.Found.{is_pattern, pattern_found}
use Rattle.pep440_operator.specs.declared.operator.Operator.{Operator}
use Rattle.pep440_specifier.specs.declared.build_error.VersionSpecifierBuildError.{VersionSpecifierBuildError}
use Rattle.pep440_specifier.specs.Matching.{SpecifierRecord}
use Rattle.pep440_specifier.specs.Building.{built_of_pattern}
use Rattle.pep440_operator.specs.OperatorPrint.{operator_text}
use Rattle.pep440_specifier.specs.SpecifierText.{AreSpaces, IsSpecifierText}
use Rattle.pep440_operator.specs.OperatorReading.{ends_operator, operator_of, operator_or_text}
use Rattle.pep440_operator.specs.OperatorReading.{operator_reading}
use Rattle.pep440_specifier.specs.SpecifierReading.{front_in, Reading, ended, built_before, beside_pattern}
use Rattle.pep440_specifier.specs.SpecifierReading.{before_version, behind_operator, beside_operator}
use Rattle.pep440_specifier.specs.SpecifierReading.{before_operator, specifier_reading, specifier_of}
use Rattle.pep440_operator.proofs.Operators.{operator_found, operator_again, operator_characters}
use Rattle.pep440_operator.proofs.Operators.{operator_nonempty, operator_ascii, operator_unspaced}
use Rattle.pep440_specifier.proofs.PatternTexts.{AreAscii, Starts, mapped, pattern_ascii, pattern_starts}

-- patterns are read as their grammar says
abbrev pub PatternLaw : Type 0
PatternLaw = (text : List ℕ) (pattern : PatternRecord) → (pattern_of text ≡ Some pattern) ↔ IsPatternText text pattern

-- ---- answers

is_or : {A : Type 0} → A → Option A → A
is_or y None = y
is_or y (Some x) = x

some_same : {A : Type 0} (x y : A) → Some x ≡ Some y → x ≡ y
unfolding is_or
some_same x y e = ap (is_or x) e

ok_or : SpecifierRecord → Reading → SpecifierRecord
ok_or y (Err e) = y
ok_or y (Ok x) = x

ok_same : (read : Reading) (x y : SpecifierRecord) → read ≡ Ok x → read ≡ Ok y → x ≡ y
unfolding ok_or
ok_same read x y e f = ap (ok_or x) (sym e ∙ f)

-- ---- ASCII is its own encoding

ascii_same : (text : List ℕ) → AreAscii text → encode_utf8_all text ≡ text
ascii_same [] h = refl
ascii_same (b ∷ bs) h = ap (λ e. e ++ encode_utf8_all bs) (encode_ascii b h.0) ∙ ap (λ e. b ∷ e) (ascii_same bs h.1)

-- characters whose encoding is ASCII are that encoding
own_encoding : (cs text : List ℕ) → encode_utf8_all cs ≡ text → AreAscii text → cs ≡ text
own_encoding cs text e h = encodes_same cs text (e ∙ sym (ascii_same text h))

operator_text_ascii : (operator : Operator) → AreAscii (operator_text operator)
operator_text_ascii operator = mapped (λ c. ends_operator c ≡ false) (λ c. c < 128) operator_ascii (operator_text operator) (operator_characters operator)

-- ---- white space

record Spaced (cs : List ℕ) : Type 0 where
  spaces : List ℕ
  are_spaces : AreSpaces spaces
  split : cs ≡ spaces ++ skip_leading_whitespace cs

space_by : (c : ℕ) (cs : List ℕ) (t : Bool) → is_whitespace c ≡ t → Spaced cs → Spaced (c ∷ cs)
space_by c cs true e s = record {
  spaces = c ∷ s.spaces;
  are_spaces = (e, s.are_spaces);
  split = ap (λ ds. c ∷ ds) s.split ∙ ap (λ t. c ∷ (s.spaces ++ skip_leading_whitespace cs)) e ∙ ap (λ t. c ∷ (s.spaces ++ cond t (skip_leading_whitespace cs) (c ∷ cs))) (sym e);
}
space_by c cs false e s = record {
  spaces = [];
  are_spaces = tt;
  split = ap (λ t. cond t (skip_leading_whitespace cs) (c ∷ cs)) (sym e);
}

spaces_found : (cs : List ℕ) → Spaced cs
spaces_found [] = record { spaces = []; are_spaces = tt; split = refl }
spaces_found (c ∷ cs) = space_by c cs (is_whitespace c) refl (spaces_found cs)

-- no white space stands first
abbrev Unspaced : List ℕ → Type 0
Unspaced [] = Unit {0}
Unspaced (c ∷ cs) = is_whitespace c ≡ false

unspaced_same : (cs : List ℕ) → Unspaced cs → skip_leading_whitespace cs ≡ cs
unspaced_same [] h = refl
unspaced_same (c ∷ cs) h = ap (λ t. cond t (skip_leading_whitespace cs) (c ∷ cs)) h

spaces_again : (spaces rest : List ℕ) → AreSpaces spaces → Unspaced rest → skip_leading_whitespace (spaces ++ rest) ≡ rest
spaces_again [] rest h k = unspaced_same rest k
spaces_again (c ∷ cs) rest h k =
    ap (λ t. cond t (skip_leading_whitespace (cs ++ rest)) (c ∷ (cs ++ rest))) h.0 ∙ spaces_again cs rest h.1 k

-- ---- fronts

-- a character that passes stands first, or none is left
abbrev Ends : (ℕ → Bool) → List ℕ → Type 0
Ends test [] = Unit {0}
Ends test (c ∷ cs) = test c ≡ true

record Fronted (test : ℕ → Bool) (cs : List ℕ) (parts : List ℕ × List ℕ) : Type 0 where
  front : List ℕ
  encoded : encode_utf8_all front ≡ parts.0
  split : cs ≡ front ++ parts.1
  passes : AllByRecursion (λ c. test c ≡ false) front

passing_by : (test : ℕ → Bool) (c : ℕ) (cs : List ℕ) (t : Bool) → test c ≡ t → AllByRecursion (λ c. test c ≡ false) (before_first test cs)
    → AllByRecursion (λ c. test c ≡ false) (take (cond (not t) (1 + position_or_len test cs) 0) (c ∷ cs))
passing_by test c cs true e h = tt
passing_by test c cs false e h =
    let P : ℕ → Type 0 = λ n. AllByRecursion (λ c. test c ≡ false) (take n (c ∷ cs)) in
    let s : suc (position_or_len test cs) ≡ 1 + position_or_len test cs = omega arith in
    subst P s (e, h)

passing : (test : ℕ → Bool) (cs : List ℕ) → AllByRecursion (λ c. test c ≡ false) (before_first test cs)
passing test [] = tt
passing test (c ∷ cs) = passing_by test c cs (test c) refl (passing test cs)

front_by : (test : ℕ → Bool) (cs : List ℕ) (parts : List ℕ × List ℕ) (t : Bool)
    → (if t then None else Some (encode_utf8_all (before_first test cs), drop (position_or_len test cs) cs)) ≡ Some parts → Fronted test cs parts
front_by test cs parts true h = absurd (cc)
front_by test cs parts false h =
    let made : List ℕ × List ℕ = (encode_utf8_all (before_first test cs), drop (position_or_len test cs) cs) in
    let e : made ≡ parts = some_same made parts h in
    record {
      front = before_first test cs;
      encoded = ap (λ (p : List ℕ × List ℕ). p.0) e;
      split = sym (take-append-drop (position_or_len test cs) cs) ∙ ap (λ (p : List ℕ × List ℕ). before_first test cs ++ p.1) e;
      passes = passing test cs;
    }

front_found : (test : ℕ → Bool) (cs : List ℕ) (parts : List ℕ × List ℕ) → front_in test cs ≡ Some parts → Fronted test cs parts
front_found test cs parts h = front_by test cs parts (position_or_len test cs == 0) h

ends_here : (test : ℕ → Bool) (rest : List ℕ) → Ends test rest → position_or_len test rest ≡ 0
ends_here test [] h = refl
ends_here test (c ∷ cs) h = ap (λ t. cond (not t) (1 + position_or_len test cs) 0) h

place_again : (test : ℕ → Bool) (front rest : List ℕ) → AllByRecursion (λ c. test c ≡ false) front → Ends test rest → position_or_len test (front ++ rest) ≡ length front
place_again test [] rest h k = ends_here test rest k
place_again test (c ∷ cs) rest h k =
    let e = place_again test cs rest h.1 k in
    ap (λ t. cond (not t) (1 + position_or_len test (cs ++ rest)) 0) h.0 ∙ (let s : 1 + position_or_len test (cs ++ rest) ≡ length (c ∷ cs) = omega (arith, e) in s)

some_length : (cs : List ℕ) → 0 < length cs → (length cs == 0) ≡ false
some_length cs h = grind (arith, nat_tests)

front_again : (test : ℕ → Bool) (front rest : List ℕ) → AllByRecursion (λ c. test c ≡ false) front → Ends test rest → 0 < length front
    → front_in test (front ++ rest) ≡ Some (encode_utf8_all front, rest)
front_again test front rest h k n =
    ap (λ i. if i == 0 then None else Some (encode_utf8_all (take i (front ++ rest)), drop i (front ++ rest))) (place_again test front rest h k)
    ∙ ap (λ t. if t then None else Some (encode_utf8_all (take (length front) (front ++ rest)), drop (length front) (front ++ rest))) (some_length front n)
    ∙ ap (λ cs. Some (encode_utf8_all cs, drop (length front) (front ++ rest))) (take-append_seam front rest)
    ∙ ap (λ cs. Some (encode_utf8_all front, cs)) (front_rest (front ++ rest) front rest refl)

-- ---- the whole

-- how reading ends well
ended_by : (cs : List ℕ) (one specifier : SpecifierRecord) → ended cs one ≡ Ok specifier → (cs ≡ []) × (one ≡ specifier)
ended_by [] one specifier h = (refl, ok_same (Ok one) one specifier refl h)
ended_by (c ∷ cs) one specifier h = absurd (cc)

built_by : (left : List ℕ) (made : Result SpecifierRecord VersionSpecifierBuildError) (specifier : SpecifierRecord) → built_before left made ≡ Ok specifier
    → (made ≡ Ok specifier) × (skip_leading_whitespace left ≡ [])
built_by left (Ok one) specifier h = let e = ended_by (skip_leading_whitespace left) one specifier h in (ap Ok e.1, e.0)
built_by left (Err error) specifier h = absurd (cc)

pattern_by : (operator : Operator) (left : List ℕ) (read : Result PatternRecord VersionFault)
    (specifier : SpecifierRecord) → beside_pattern operator left read ≡ Ok specifier
    → (pattern : PatternRecord) × (read ≡ Ok pattern) × (built_of_pattern operator pattern ≡ Ok specifier)
    × (skip_leading_whitespace left ≡ [])
pattern_by operator left (Err fault) specifier h = absurd (cc)
pattern_by operator left (Ok pattern) specifier h =
    let b = built_by left (built_of_pattern operator pattern) specifier h in (pattern, refl, b.0, b.1)

version_by : (operator : Operator) (parts : Option (List ℕ × List ℕ)) (specifier : SpecifierRecord) → before_version operator parts ≡ Ok specifier
    → (both : List ℕ × List ℕ) × (parts ≡ Some both)
    × (beside_pattern operator both.1 (pattern_reading both.0) ≡ Ok specifier)
version_by operator None specifier h = absurd (cc)
version_by operator (Some both) specifier h = (both, refl, h)

operator_by : (left : List ℕ) (read : Result Operator (List ℕ)) (specifier : SpecifierRecord)
    → beside_operator left read ≡ Ok specifier
    → (operator : Operator) × (read ≡ Ok operator) × (behind_operator operator left ≡ Ok specifier)
operator_by left (Err text) specifier h = absurd (cc)
operator_by left (Ok operator) specifier h = (operator, refl, h)

-- a text that is read as an operator is one
operator_is : (text : List ℕ) (found : Option Operator) (operator : Operator)
    → operator_or_text text found ≡ Ok operator → found ≡ Some operator
operator_is text None operator h = absurd (cc)
operator_is text (Some one) operator h = cc

pattern_is : (read : Result PatternRecord VersionFault) (pattern : PatternRecord)
    → result_ok read ≡ Some pattern → read ≡ Ok pattern
pattern_is (Ok one) pattern h = ap Ok (some_same one pattern h)
pattern_is (Err fault) pattern h = absurd (cc)

front_of_by : (parts : Option (List ℕ × List ℕ)) (specifier : SpecifierRecord) → before_operator parts ≡ Ok specifier
    → (both : List ℕ × List ℕ) × (parts ≡ Some both)
    × (beside_operator both.1 (operator_reading both.0) ≡ Ok specifier)
front_of_by None specifier h = absurd (cc)
front_of_by (Some both) specifier h = (both, refl, h)

read_by : (read : Reading) (specifier : SpecifierRecord) → result_ok read ≡ Some specifier → read ≡ Ok specifier
read_by (Ok one) specifier h = ap Ok (some_same one specifier h)
read_by (Err fault) specifier h = absurd (cc)

-- a text that is read is a specifier's
pub specifier_found : PatternLaw → (text : List ℕ) (specifier : SpecifierRecord) → specifier_of text ≡ Some specifier → IsSpecifierText text specifier
unfolding specifier_of specifier_reading behind_operator
specifier_found law text specifier h =
    let cs : List ℕ = chars text in
    let read = read_by (specifier_reading text) specifier h in
    let a = front_of_by (front_in ends_operator (skip_leading_whitespace cs)) specifier read in
    let b = operator_by a.0.1 (operator_reading a.0.0) specifier a.2 in
    let d = version_by b.0 (front_in is_whitespace (skip_leading_whitespace a.0.1)) specifier b.2 in
    let p = pattern_by b.0 d.0.1 (pattern_reading d.0.0) specifier d.2 in
    let before = spaces_found cs in
    let f = front_found ends_operator (skip_leading_whitespace cs) a.0 a.1 in
    let between = spaces_found a.0.1 in
    let w = front_found is_whitespace (skip_leading_whitespace a.0.1) d.0 d.1 in
    let after = spaces_found d.0.1 in
    let prints = operator_found a.0.0 b.0 (operator_is a.0.0 (operator_of a.0.0) b.0 b.1) in
    let op : f.front ≡ operator_text b.0 = own_encoding f.front (operator_text b.0) (f.encoded ∙ sym prints.1) (operator_text_ascii b.0) in
    let is_text : IsPatternText d.0.0 p.0 = (law d.0.0 p.0).0 (is_pattern d.0.0 p.0 p.1) in
    let written : w.front ≡ d.0.0 = own_encoding w.front d.0.0 w.encoded (pattern_ascii d.0.0 p.0 is_text) in
    let last : d.0.1 ≡ after.spaces = after.split ∙ ap (λ xs. after.spaces ++ xs) p.3 ∙ append-nil after.spaces in
    let P : List ℕ → Type 0 = λ xs. IsPatternText xs p.0 in
    record {
      before = before.spaces;
      operator = b.0;
      between = between.spaces;
      written = w.front;
      pattern = p.0;
      after = after.spaces;
      split = before.split
          ∙ ap (λ xs. before.spaces ++ xs) f.split
          ∙ ap (λ xs. before.spaces ++ (xs ++ a.0.1)) op
          ∙ ap (λ xs. before.spaces ++ (operator_text b.0 ++ xs)) between.split
          ∙ ap (λ xs. before.spaces ++ (operator_text b.0 ++ (between.spaces ++ xs))) w.split
          ∙ ap (λ xs. before.spaces ++ (operator_text b.0 ++ (between.spaces ++ (w.front ++ xs)))) last;
      spaces_before = before.are_spaces;
      starless = prints.0;
      spaces_between = between.are_spaces;
      is_pattern = subst P (sym written) is_text;
      unspaced = w.passes;
      spaces_after = after.are_spaces;
      builds = p.2;
    }

starts_unspaced : (cs rest : List ℕ) → Starts cs → Unspaced (cs ++ rest)
starts_unspaced [] rest h = absurd h
starts_unspaced (c ∷ cs) rest h = h.1

starts_nonempty : (cs : List ℕ) → Starts cs → 0 < length cs
starts_nonempty [] h = absurd h
starts_nonempty (c ∷ cs) h = omega arith

operator_front : (operator rest : List ℕ) → AllByRecursion (λ c. ends_operator c ≡ false) operator → 0 < length operator → Unspaced (operator ++ rest)
operator_front [] rest h n = absurd (omega arith)
operator_front (c ∷ cs) rest h n = operator_unspaced c h.0

space_ends_by : (c : ℕ) (t : Bool) → ends_operator c ≡ t → IsTrue (is_whitespace c) → ends_operator c ≡ true
space_ends_by c true e h = e
space_ends_by c false e h = let f = operator_unspaced c e in absurd (cc)

operator_ends : (between written rest : List ℕ) → AreSpaces between → Starts written → Ends ends_operator (between ++ (written ++ rest))
operator_ends (c ∷ cs) written rest h k = space_ends_by c (ends_operator c) refl h.0
operator_ends [] [] rest h k = absurd k
operator_ends [] (c ∷ cs) rest h k = k.0

word_ends : (after : List ℕ) → AreSpaces after → Ends is_whitespace after
word_ends [] h = tt
word_ends (c ∷ cs) h = h.0

-- a specifier's text is read
pub specifier_again : PatternLaw → (text : List ℕ) (specifier : SpecifierRecord) → IsSpecifierText text specifier → specifier_of text ≡ Some specifier
unfolding specifier_of specifier_reading behind_operator
specifier_again law text specifier h =
    let op : List ℕ = operator_text h.operator in
    let later : List ℕ = h.written ++ h.after in
    let starts : Starts h.written = pattern_starts h.written h.pattern h.is_pattern h.unspaced in
    let own : encode_utf8_all h.written ≡ h.written = ascii_same h.written (pattern_ascii h.written h.pattern h.is_pattern) in
    let first : skip_leading_whitespace (chars text) ≡ op ++ (h.between ++ later) =
    ap skip_leading_whitespace h.split ∙ spaces_again h.before (op ++ (h.between ++ later)) h.spaces_before (operator_front op (h.between ++ later) (operator_characters h.operator) (operator_nonempty h.operator)) in
    let cut : front_in ends_operator (op ++ (h.between ++ later)) ≡ Some (op, h.between ++ later) =
    front_again ends_operator op (h.between ++ later) (operator_characters h.operator) (operator_ends h.between h.written h.after h.spaces_between starts) (operator_nonempty h.operator)
    ∙ ap (λ xs. Some (xs, h.between ++ later)) (ascii_same op (operator_text_ascii h.operator)) in
    let second : skip_leading_whitespace (h.between ++ later) ≡ later = spaces_again h.between later h.spaces_between (starts_unspaced h.written h.after starts) in
    let word : front_in is_whitespace later ≡ Some (h.written, h.after) =
    front_again is_whitespace h.written h.after h.unspaced (word_ends h.after h.spaces_after) (starts_nonempty h.written starts) ∙ ap (λ xs. Some (xs, h.after)) own in
    let read : pattern_reading h.written ≡ Ok h.pattern =
    pattern_is (pattern_reading h.written) h.pattern
    (sym (pattern_found h.written) ∙ (law h.written h.pattern).1 h.is_pattern) in
    let third : skip_leading_whitespace h.after ≡ [] =
    ap skip_leading_whitespace (sym (append-nil h.after)) ∙ spaces_again h.after [] h.spaces_after tt in
    ap (λ xs. result_ok (before_operator (front_in ends_operator xs))) first
    ∙ ap (λ parts. result_ok (before_operator parts)) cut
    ∙ ap (λ found. result_ok (beside_operator (h.between ++ later) (operator_or_text op found)))
    (operator_again op h.operator (h.starless, refl))
    ∙ ap (λ xs. result_ok (before_version h.operator (front_in is_whitespace xs))) second
    ∙ ap (λ parts. result_ok (before_version h.operator parts)) word
    ∙ ap (λ read. result_ok (beside_pattern h.operator h.after read)) read
    ∙ ap (λ made. result_ok (built_before h.after made)) h.builds
    ∙ ap (λ xs. result_ok (ended xs specifier)) third

-- a text is read as a specifier exactly where the grammar says that it is that specifier's
pub specifier_law : PatternLaw → (text : List ℕ) (specifier : SpecifierRecord) → (specifier_of text ≡ Some specifier) ↔ IsSpecifierText text specifier
specifier_law law text specifier = (specifier_found law text specifier, specifier_again law text specifier)

-- a text is that of at most one specifier
pub one_specifier : PatternLaw → (text : List ℕ) (specifier other : SpecifierRecord) → IsSpecifierText text specifier → IsSpecifierText text other → specifier ≡ other
one_specifier law text specifier other h k = some_same specifier other (sym (specifier_again law text specifier h) ∙ specifier_again law text other k)
