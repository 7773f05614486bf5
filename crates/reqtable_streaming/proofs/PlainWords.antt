-- The words of versions that are a release alone.
use Rattle.std.proofs.Common.{◌≡◌, ◌∙◌, ℕ, ◌+◌, ◌*◌, ◌^◌, ◌<◌, ◌&&◌, ◌==◌, nat_lt, Bool, true, false, if◌then◌else◌, List, [], ◌∷◌}
use Rattle.std.proofs.Common.{Some, None, Ok, length, get_or, drop, refl, ap, arith}
use Rattle.std.proofs.lemmas.Bool.Decides.{nat_tests}
use Rattle.std.specs.Char.{is_ascii_digit}
use Rattle.std.specs.List.{list_all}
use Rattle.std.specs.Result.{result_ok}
use Rattle.pep440_version.specs.Record.{VersionRecord, release_record}
use Rattle.pep440_version.specs.Reading.{read_version, version_of}
use Rattle.pep440_version.specs.Packing.{packed, fits, word_of}
use Rattle.reqtable_streaming.specs.PlainLines.{is_plain_byte}
use Rattle.reqtable_streaming.proofs.NormalForms.{from_place}

pub found : (text numbers : List ℕ) (word : ℕ) → read_version text ≡ Ok (release_record numbers)
    → packed (release_record numbers) ≡ Some word
    → (version : VersionRecord) × (version_of text ≡ Some version) × (packed version ≡ Some word)
unfolding version_of
found text numbers word e p = (release_record numbers, ap result_ok e, p)

fitted : (t : Bool) (n m : ℕ) → t ≡ true → n ≡ m → (if t then Some n else None) ≡ Some m
fitted true n m h e = ap Some e
fitted false n m h e = absurd (cc)

-- whether one to three numbers fit, by whether each does
abbrev fit_by : Bool → Bool → Bool → Bool
fit_by x y z = (0 == 0) && true && (true && x && y && z && nat_lt 0 (2 ^ 8)) && true

all_fit : (x y z : Bool) → x ≡ true → y ≡ true → z ≡ true → fit_by x y z ≡ true
all_fit x y z a b c = ap (λ t. fit_by t y z) a ∙ ap (λ t. fit_by true t z) b ∙ ap (fit_by true true) c

below : (n m : ℕ) → n < m → nat_lt n m ≡ true
below n m h = grind (arith, nat_tests)

pub packed_one : (a : ℕ) → a < 65536 → packed (release_record (a ∷ [])) ≡ Some (a * 281474976710656 + 10485760)
unfolding packed
packed_one a h =
    let record_of : VersionRecord = release_record (a ∷ []) in
    fitted (fits record_of) (word_of record_of) _ (all_fit (nat_lt a (2 ^ 16)) true true (below a (2 ^ 16) h) refl refl)
    (omega arith)

pub packed_two : (a b : ℕ) → a < 65536 → b < 256
    → packed (release_record (a ∷ b ∷ [])) ≡ Some (a * 281474976710656 + b * 1099511627776 + 10485760)
unfolding packed
packed_two a b h k =
    let record_of : VersionRecord = release_record (a ∷ b ∷ []) in
    fitted (fits record_of) (word_of record_of) _
    (all_fit (nat_lt a (2 ^ 16)) (nat_lt b (2 ^ 8)) true (below a (2 ^ 16) h) (below b (2 ^ 8) k) refl) (omega arith)

pub packed_three : (a b c : ℕ) → a < 65536 → b < 256 → c < 256
    → packed (release_record (a ∷ b ∷ c ∷ []))
    ≡ Some (a * 281474976710656 + b * 1099511627776 + c * 4294967296 + 10485760)
unfolding packed
packed_three a b c h k l =
    let record_of : VersionRecord = release_record (a ∷ b ∷ c ∷ []) in
    fitted (fits record_of) (word_of record_of) _
    (all_fit (nat_lt a (2 ^ 16)) (nat_lt b (2 ^ 8)) (nat_lt c (2 ^ 8)) (below a (2 ^ 16) h) (below b (2 ^ 8) k)
    (below c (2 ^ 8) l)) (omega arith)

-- ---- their bytes are plain

digit_plain : (b : ℕ) → is_ascii_digit b ≡ true → is_plain_byte b ≡ true
digit_plain b h = grind (arith, nat_tests)

pub plain_step : (bytes : List ℕ) (i : ℕ) → i < length bytes → is_ascii_digit (get_or bytes i 0) ≡ true
    → list_all is_plain_byte (drop (i + 1) bytes) ≡ true → list_all is_plain_byte (drop i bytes) ≡ true
plain_step bytes i within digit rest =
    ap (list_all is_plain_byte) (from_place bytes i within)
    ∙ ap (λ t. t && list_all is_plain_byte (drop (i + 1) bytes)) (digit_plain (get_or bytes i 0) digit) ∙ rest
