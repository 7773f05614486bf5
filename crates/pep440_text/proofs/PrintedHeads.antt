-- A printed epoch and release are read as what they print.
use Rattle.std.proofs.Common.{◌≡◌, ℕ, zero, suc, ◌<◌, ◌≤◌, ◌==◌, Bool, true, false, if◌then◌else◌, length}
use Rattle.std.proofs.Common.{map, List, [], ◌∷◌, ◌++◌, Option, Some, None, Result, Ok, refl, ap, sym, ◌∙◌}
use Rattle.std.proofs.Common.{arith, length-append, append_assoc}
use Rattle.std.proofs.lemmas.Bool.Decides.{nat_tests}
use Rattle.std.specs.Prelude.{codes, unwrap_or}
use Rattle.std.specs.Char.{is_ascii_whitespace, to_ascii_lowercase, digit_value}
use Rattle.std.specs.Fmt.{decimal}
use Rattle.std.specs.Str.Parse.{AllDigits}
use Rattle.pep440_text.specs.declared.TextFault.{TextFault}
use Rattle.pep440_text.specs.Print.{epoch_text, release_text}
use Rattle.pep440_text.specs.Reading.{◌>>=◌, after_white, after_v, number_of, number_at, or_none}
use Rattle.pep440_text.specs.Reading.{marked_number_at, epoch_by, epoch_at, with_front, more_numbers}
use Rattle.pep440_text.specs.Reading.{numbers_at, release_by, release_at, head_at}
use Rattle.pep440_text.proofs.FrontDigits.{Small, NoDigit, digits_again}
use Rattle.pep440_text.proofs.Releases.{AllSmall, dotted, joined_dotted}
use Rattle.pep440_text.proofs.Spans.{span_again}
use Rattle.pep440_text.proofs.Heads.{digits_stop}
use Rattle.pep440_text.proofs.PrintedParts.{NoMark, decimal_number, value_written, decimal_read}

-- ---- numbers behind dots

marked_read : (n : ℕ) (rest : List ℕ) → Small n → NoDigit rest → marked_number_at 46 (46 ∷ (decimal n ++ rest)) ≡ Ok (Some n, rest)
unfolding marked_number_at
marked_read n rest h stop = ap (λ r. r >>= λ found. Ok (or_none (46 ∷ (decimal n ++ rest)) found)) (decimal_read n rest h stop)

tail_stops : (numbers rest : List ℕ) → NoDigit rest → NoDigit (dotted (map decimal numbers) ++ rest)
tail_stops [] rest stop = stop
tail_stops (n ∷ ns) rest stop = refl

tail_printed : (k : ℕ) (numbers rest : List ℕ) → length numbers ≤ k → AllSmall numbers → NoDigit rest → marked_number_at 46 rest ≡ Ok (None, rest) → numbers_at k (dotted (map decimal numbers) ++ rest) ≡ Ok (numbers, rest)
tail_printed zero [] rest l a stop e = refl
tail_printed zero (n ∷ ns) rest l a stop e = absurd (omega arith)
tail_printed (suc k) [] rest l a stop e = ap (λ r. r >>= more_numbers (numbers_at k)) e
tail_printed (suc k) (n ∷ ns) rest l a stop e =
    let more = dotted (map decimal ns) in
    let less : length ns ≤ k = omega arith in
    ap (λ t. marked_number_at 46 (46 ∷ t) >>= more_numbers (numbers_at k)) (append_assoc (decimal n) more rest)
    ∙ ap (λ r. r >>= more_numbers (numbers_at k)) (marked_read n (more ++ rest) a.0 (tail_stops ns rest stop))
    ∙ ap (with_front (n ∷ [])) (tail_printed k ns rest less a.1 stop e)

count_most : (numbers rest : List ℕ) → length numbers ≤ length (dotted (map decimal numbers) ++ rest)
count_most [] rest = omega arith
count_most (n ∷ ns) rest =
    let more = dotted (map decimal ns) in
    let i = count_most ns rest in
    let k : length ((decimal n ++ more) ++ rest) ≡ length (decimal n ++ (more ++ rest)) = ap length (append_assoc (decimal n) more rest) in
    omega (arith, i, k, length-append (decimal n) (more ++ rest))

-- ---- the release

-- a release's print with what follows it, taken apart behind its first number
release_parts : (n : ℕ) (ns rest : List ℕ) → release_text (n ∷ ns) ++ rest ≡ decimal n ++ (dotted (map decimal ns) ++ rest)
release_parts n ns rest = ap (λ t. t ++ rest) (joined_dotted (decimal n) (map decimal ns)) ∙ append_assoc (decimal n) (dotted (map decimal ns)) rest

release_printed : (n : ℕ) (ns rest : List ℕ) → AllSmall (n ∷ ns) → NoDigit rest → marked_number_at 46 rest ≡ Ok (None, rest) → release_at (release_text (n ∷ ns) ++ rest) ≡ Ok (n ∷ ns, rest)
unfolding release_at
release_printed n ns rest a stop e =
    let text = decimal n ++ (dotted (map decimal ns) ++ rest) in
    let tail = dotted (map decimal ns) ++ rest in
    ap (λ t. number_at t >>= release_by t) (release_parts n ns rest)
    ∙ ap (λ r. r >>= release_by text) (decimal_read n tail a.0 (tail_stops ns rest stop))
    ∙ ap (with_front (n ∷ [])) (tail_printed (length tail) ns rest (count_most ns rest) a.1 stop e)

-- ---- the epoch

tail_no_mark : (numbers rest : List ℕ) → NoMark rest → NoMark (dotted (map decimal numbers) ++ rest)
tail_no_mark [] rest h = h
tail_no_mark (n ∷ ns) rest h = refl

no_epoch : (text ds rest : List ℕ) → NoMark rest → epoch_by text ds rest ≡ Ok (None, text)
no_epoch text ds [] h = refl
no_epoch text [] (b ∷ rest) h = refl
no_epoch text (d ∷ ds) (b ∷ rest) h = ap (λ t. if t then (number_of text (d ∷ ds) >>= λ number. Ok (number, rest)) else Ok (None, text)) h

marked_epoch : (text ds rest : List ℕ) → 0 < length ds → epoch_by text ds (33 ∷ rest) ≡ (number_of text ds >>= λ number. Ok (number, rest))
marked_epoch text [] rest h = absurd (omega arith)
marked_epoch text (d ∷ ds) rest h = refl

-- digits behind which no `!` stands
epoch_absent : (n : ℕ) (rest : List ℕ) → Small n → NoDigit rest → NoMark rest → epoch_at (decimal n ++ rest) ≡ Ok (None, decimal n ++ rest)
unfolding epoch_at
epoch_absent n rest h stop mark =
    let text = decimal n ++ rest in
    let k = digits_again (decimal n) rest (decimal_number n h).digits.1 stop in
    (λ z. epoch_by text (k.0 z) (k.1 z)) ∙ no_epoch text (decimal n) rest mark

epoch_read : (n : ℕ) (rest : List ℕ) → Small n → epoch_at (decimal n ++ (33 ∷ rest)) ≡ Ok (Some n, rest)
unfolding epoch_at
epoch_read n rest h =
    let text = decimal n ++ (33 ∷ rest) in
    let i = decimal_number n h in
    let k = digits_again (decimal n) (33 ∷ rest) i.digits.1 refl in
    (λ z. epoch_by text (k.0 z) (k.1 z)) ∙ marked_epoch text (decimal n) rest i.digits.0 ∙ ap (λ r. r >>= λ number. Ok (number, rest)) (value_written text (decimal n) n i h)

-- ---- the head

digit_no_v : (d : ℕ) → digit_value d < 10 → (to_ascii_lowercase d == 118) ≡ false
digit_no_v d h = grind (arith, nat_tests)

digits_no_v : (ds rest : List ℕ) → AllDigits 10 ds → 0 < length ds → after_v (ds ++ rest) ≡ ds ++ rest
digits_no_v [] rest a h = absurd (omega arith)
digits_no_v (d ∷ ds) rest a h = ap (λ t. if t then (ds ++ rest) else (d ∷ (ds ++ rest))) (digit_no_v d a.0)

-- neither white space nor `v` stands before a printed number
front_kept : (n : ℕ) (rest : List ℕ) → Small n → after_v (after_white (decimal n ++ rest)) ≡ decimal n ++ rest
front_kept n rest h =
    let i = decimal_number n h in
    ap after_v (span_again is_ascii_whitespace [] (decimal n ++ rest) tt (digits_stop (decimal n) rest i.digits.1 i.digits.0)).1 ∙ digits_no_v (decimal n) rest i.digits.1 i.digits.0

-- what reading a head makes of its epoch
abbrev behind_epoch : Option ℕ × List ℕ → Result ((ℕ × List ℕ) × List ℕ) TextFault
behind_epoch epoch = release_at epoch.1 >>= λ release. Ok ((unwrap_or epoch.0 0, release.0), release.1)

plain_head : (n : ℕ) (ns rest : List ℕ) → AllSmall (n ∷ ns) → NoDigit rest → NoMark rest → marked_number_at 46 rest ≡ Ok (None, rest) → head_at (release_text (n ∷ ns) ++ rest) ≡ Ok ((0, n ∷ ns), rest)
unfolding head_at
plain_head n ns rest a stop mark e =
    let tail = dotted (map decimal ns) ++ rest in
    ap (λ t. epoch_at (after_v (after_white t)) >>= behind_epoch) (release_parts n ns rest)
    ∙ ap (λ t. epoch_at t >>= behind_epoch) (front_kept n tail a.0)
    ∙ ap (λ r. r >>= behind_epoch) (epoch_absent n tail a.0 (tail_stops ns rest stop) (tail_no_mark ns rest mark))
    ∙ ap (λ t. release_at t >>= λ release. Ok ((0, release.0), release.1)) (sym (release_parts n ns rest))
    ∙ ap (λ r. r >>= λ release. Ok ((0, release.0), release.1)) (release_printed n ns rest a stop e)

epoch_head : (epoch n : ℕ) (ns rest : List ℕ) → Small epoch → AllSmall (n ∷ ns) → NoDigit rest → marked_number_at 46 rest ≡ Ok (None, rest) → head_at ((decimal epoch ++ codes "!") ++ (release_text (n ∷ ns) ++ rest)) ≡ Ok ((epoch, n ∷ ns), rest)
unfolding head_at
epoch_head epoch n ns rest h a stop e =
    let later = release_text (n ∷ ns) ++ rest in
    ap (λ t. epoch_at (after_v (after_white t)) >>= behind_epoch) (append_assoc (decimal epoch) (codes "!") later)
    ∙ ap (λ t. epoch_at t >>= behind_epoch) (front_kept epoch (33 ∷ later) h)
    ∙ ap (λ r. r >>= behind_epoch) (epoch_read epoch later h)
    ∙ ap (λ r. r >>= λ release. Ok ((epoch, release.0), release.1)) (release_printed n ns rest a stop e)

is_zero : (epoch : ℕ) → (epoch == 0) ≡ true → 0 ≡ epoch
is_zero epoch e = grind (arith, nat_tests)

head_by : (epoch : ℕ) (zero : Bool) (n : ℕ) (ns rest : List ℕ) → (epoch == 0) ≡ zero → Small epoch → AllSmall (n ∷ ns) → NoDigit rest → NoMark rest → marked_number_at 46 rest ≡ Ok (None, rest)
    → head_at ((if zero then [] else decimal epoch ++ codes "!") ++ (release_text (n ∷ ns) ++ rest)) ≡ Ok ((epoch, n ∷ ns), rest)
head_by epoch true n ns rest z h a stop mark e = plain_head n ns rest a stop mark e ∙ ap (λ x. Ok ((x, n ∷ ns), rest)) (is_zero epoch z)
head_by epoch false n ns rest z h a stop mark e = epoch_head epoch n ns rest h a stop e

pub head_printed : (epoch : ℕ) (numbers rest : List ℕ) → Small epoch → 0 < length numbers → AllSmall numbers → NoDigit rest → NoMark rest → marked_number_at 46 rest ≡ Ok (None, rest)
    → head_at (epoch_text epoch ++ (release_text numbers ++ rest)) ≡ Ok ((epoch, numbers), rest)
head_printed epoch [] rest h l a stop mark e = absurd (omega arith)
head_printed epoch (n ∷ ns) rest h l a stop mark e = head_by epoch (epoch == 0) n ns rest refl h a stop mark e
