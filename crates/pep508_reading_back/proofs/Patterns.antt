-- A printed version, with a star behind it or none, is read as it, and has letters, digits and signs alone.
use Rattle.std.proofs.Common.{◌≡◌, ℕ, ◌<◌, ◌^◌, ◌==◌, Bool, true, false, length, map, if◌then◌else◌, List, []}
use Rattle.std.proofs.Common.{◌∷◌, ◌++◌, Option, Some, None, Ok, refl, ap, sym, ◌∙◌, arith, append_assoc}
use Rattle.std.proofs.lemmas.Bool.Decides.{nat_tests}
use Rattle.std.proofs.lemmas.Fmt.{decimal_is_IsNumeral}
use Rattle.std.specs.Char.{is_ascii_alphanumeric, digit_value}
use Rattle.std.specs.Fmt.{decimal}
use Rattle.std.specs.List.{AllByRecursion, join_with_byte}
use Rattle.std.specs.Prelude.{codes, IfSome}
use Rattle.std.specs.Result.{result_ok}
use Rattle.std.specs.Str.Parse.{AllDigits}
use Rattle.version_ranges.proofs.Membership.{all_append, all_weaker}
use Rattle.pep440_text.specs.declared.Prerelease.{Prerelease}
use Rattle.pep440_text.specs.declared.PrereleaseKind.{PrereleaseKind}
use Rattle.pep440_text.specs.declared.PrereleaseKind.TheVariants.{Alpha, Beta, Rc}
use Rattle.pep440_text.specs.Record.{Segment, Text, Number, VersionRecord, epoch_record}
use Rattle.pep440_text.specs.Print.{kind_text, segment_text, epoch_text, release_text, pre_text}
use Rattle.pep440_text.specs.Print.{numbered_text, local_text, version_text}
use Rattle.pep440_text.specs.Printable.{IsPrintable, IsPrintableSegment}
use Rattle.pep440_text.specs.Reading.{read_pattern, pattern_of, marked_number_at, number_at, pattern_behind}
use Rattle.pep440_text.specs.Reading.{◌>>=◌}
use Rattle.pep440_text.proofs.PrintedHeads.{head_printed}
use Rattle.pep440_text.proofs.Prints.{printable_read}
use Rattle.pep440_text.proofs.Releases.{AllSmall, by_recursion}
use Rattle.pep440_text.proofs.Whole.{pattern_read, version_read}
use Rattle.pep508_reading_back.proofs.Plain.{is_plain, Plain, plain_from}

-- ---- letters, digits and signs

plain_letter : (b : ℕ) → is_ascii_alphanumeric b ≡ true → is_plain b ≡ true
plain_letter b h = grind (arith, nat_tests)

plain_digit : (b : ℕ) → digit_value b < 10 → is_plain b ≡ true
plain_digit b h = grind (arith, nat_tests)

plain_digits : (ds : List ℕ) → AllDigits 10 ds → Plain ds
plain_digits [] h = tt
plain_digits (d ∷ ds) h = (plain_digit d h.0, plain_digits ds h.1)

plain_decimal : (n : ℕ) → n < 2 ^ 64 → Plain (decimal n)
plain_decimal n h = plain_digits (decimal n) (decimal_is_IsNumeral n h).0.1

pub plain_append : (xs ys : List ℕ) → Plain xs → Plain ys → Plain (xs ++ ys)
plain_append xs ys h k = all_append (λ b. is_plain b ≡ true) xs ys h k

-- pieces with dots between them
plain_dotted : (pieces : List (List ℕ)) → AllByRecursion Plain pieces → Plain (join_with_byte 46 pieces)
plain_dotted [] h = tt
plain_dotted (piece ∷ []) h = h.0
plain_dotted (piece ∷ next ∷ pieces) h =
    plain_append piece (46 ∷ join_with_byte 46 (next ∷ pieces)) h.0 (refl, plain_dotted (next ∷ pieces) h.1)

plain_numbers : (numbers : List ℕ) → AllSmall numbers → AllByRecursion Plain (map decimal numbers)
plain_numbers [] h = tt
plain_numbers (n ∷ ns) h = (plain_decimal n h.0, plain_numbers ns h.1)

plain_segment : (segment : Segment) → IsPrintableSegment segment → Plain (segment_text segment)
plain_segment (Text bytes) h =
    all_weaker (λ b. is_ascii_alphanumeric b ≡ true) (λ b. is_plain b ≡ true) plain_letter bytes h.letters
plain_segment (Number n) h = plain_decimal n h

plain_segments : (segments : List Segment) → AllByRecursion IsPrintableSegment segments →
    AllByRecursion Plain (map segment_text segments)
plain_segments [] h = tt
plain_segments (segment ∷ segments) h = (plain_segment segment h.0, plain_segments segments h.1)

plain_local : (segments : List Segment) → AllByRecursion IsPrintableSegment segments →
    Plain (local_text segments)
plain_local [] h = tt
plain_local (segment ∷ segments) h =
    (refl, plain_dotted (map segment_text (segment ∷ segments)) (plain_segments (segment ∷ segments) h))

plain_numbered : (word : List ℕ) (number : Option ℕ) → Plain word → IfSome number (λ n. n < 2 ^ 64) →
    Plain (numbered_text word number)
plain_numbered word None w h = tt
plain_numbered word (Some n) w h = plain_append word (decimal n) w (plain_decimal n h)

plain_kind : (kind : PrereleaseKind) → Plain (kind_text kind)
plain_kind Alpha = (refl, tt)
plain_kind Beta = (refl, tt)
plain_kind Rc = (refl, (refl, tt))

plain_pre : (pre : Option Prerelease) → IfSome pre (λ pre. pre.number < 2 ^ 64) → Plain (pre_text pre)
plain_pre None h = tt
plain_pre (Some pre) h = plain_append (kind_text pre.kind) (decimal pre.number) (plain_kind pre.kind) (plain_decimal pre.number h)

plain_epoch : (epoch : ℕ) → epoch < 2 ^ 64 → Plain (epoch_text epoch)
plain_epoch epoch h = epoch_by (epoch == 0)
  where
    epoch_by : (b : Bool) → Plain (if b then [] else decimal epoch ++ codes "!")
    epoch_by true = tt
    epoch_by false = plain_append (decimal epoch) (codes "!") (plain_decimal epoch h) (refl, tt)

pub plain_version : (version : VersionRecord) → IsPrintable version → Plain (version_text version)
unfolding version_text
plain_version version i =
    let e = epoch_text version.epoch in
    let r = release_text version.release in
    let p = pre_text version.pre in
    let o = numbered_text (codes ".post") version.post in
    let d = numbered_text (codes ".dev") version.dev in
    plain_append ((((e ++ r) ++ p) ++ o) ++ d) (local_text version.local)
    (plain_append (((e ++ r) ++ p) ++ o) d
    (plain_append ((e ++ r) ++ p) o
    (plain_append (e ++ r) p
    (plain_append e r (plain_epoch version.epoch i.fits.epoch)
    (plain_dotted (map decimal version.release)
    (plain_numbers version.release (by_recursion version.release i.fits.release))))
    (plain_pre version.pre i.fits.pre))
    (plain_numbered (codes ".post") version.post (plain_from (codes ".post") refl) i.fits.post))
    (plain_numbered (codes ".dev") version.dev (plain_from (codes ".dev") refl) i.fits.dev))
    (plain_local version.local i.segments)

-- ---- patterns

pub version_pattern : (version : VersionRecord) → IsPrintable version →
    pattern_of (version_text version) ≡ Some (record { version = version; wildcard = false })
version_pattern version i =
    (pattern_read (version_text version) (record { version = version; wildcard = false })).1
    ((version_read (version_text version) version).0 (printable_read version i))

no_number : marked_number_at 46 (codes ".*") ≡ Ok (None, codes ".*")
unfolding marked_number_at number_at
no_number = refl

regrouped : (e r : List ℕ) → (((((e ++ r) ++ []) ++ []) ++ []) ++ []) ++ codes ".*" ≡ e ++ (r ++ codes ".*")
regrouped e r = simp append_assoc

star_text_is : (epoch : ℕ) (numbers : List ℕ) →
    version_text (epoch_record epoch numbers) ++ codes ".*"
    ≡ epoch_text epoch ++ (release_text numbers ++ codes ".*")
unfolding version_text
star_text_is epoch numbers = regrouped (epoch_text epoch) (release_text numbers)

star_read : (epoch : ℕ) (numbers : List ℕ) → epoch < 2 ^ 64 → 0 < length numbers → AllSmall numbers →
    pattern_of (epoch_text epoch ++ (release_text numbers ++ codes ".*"))
    ≡ Some (record { version = epoch_record epoch numbers; wildcard = true })
unfolding pattern_of read_pattern
star_read epoch numbers e n small =
    ap (λ head. result_ok (head >>= pattern_behind))
    (head_printed epoch numbers (codes ".*") e n small refl refl no_number)

pub star_pattern : (version : VersionRecord) → IsPrintable version →
    version ≡ epoch_record version.epoch version.release →
    pattern_of (version_text version ++ codes ".*") ≡ Some (record { version = version; wildcard = true })
star_pattern version i e =
    ap (λ v. pattern_of (version_text v ++ codes ".*")) e
    ∙ ap pattern_of (star_text_is version.epoch version.release)
    ∙ star_read version.epoch version.release i.fits.epoch i.some_number
    (by_recursion version.release i.fits.release)
    ∙ ap (λ v. Some (record { version = v; wildcard = true })) (sym e)
