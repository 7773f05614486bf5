-- Printed numbers, pre-releases, post-releases and developmental releases are read as what they print.
use Rattle.std.proofs.Common.{◌≡◌, ℕ, ◌<◌, ◌==◌, true, false, if◌then◌else◌, length, List, [], ◌∷◌, ◌++◌}
use Rattle.std.proofs.Common.{Option, Some, None, Result, Ok, refl, ap, sym, subst, ◌∙◌, arith, option_map}
use Rattle.std.proofs.Common.{drop}
use Rattle.std.proofs.lemmas.Bool.Decides.{nat_tests}
use Rattle.std.proofs.lemmas.Fmt.{decimal_is_IsNumeral}
use Rattle.std.specs.Prelude.{codes, unwrap_or, IfSome}
use Rattle.std.specs.Char.{is_ascii_lowercase, to_ascii_lowercase, digit_value}
use Rattle.std.specs.Fmt.{decimal}
use Rattle.std.specs.Str.Parse.{AllDigits, digits_value}
use Rattle.pep440_text.specs.declared.TextFault.{TextFault}
use Rattle.pep440_text.specs.declared.Prerelease.{Prerelease}
use Rattle.pep440_text.specs.declared.PrereleaseKind.{PrereleaseKind}
use Rattle.pep440_text.specs.declared.PrereleaseKind.TheVariants.{Alpha, Beta, Rc}
use Rattle.pep440_text.specs.Record.{Segment}
use Rattle.pep440_text.specs.Text.{IsNumber, pre_words, post_words, dev_words}
use Rattle.pep440_text.specs.Print.{kind_text, prerelease_text, pre_text, numbered_text, local_text}
use Rattle.pep440_text.specs.Reading.{◌>>=◌, after_separator, leading_digits, behind_digits, number_of}
use Rattle.pep440_text.specs.Reading.{number_at, marked_number_at, behind_word, or_word, word_at, suffix_by}
use Rattle.pep440_text.specs.Reading.{suffix_at, pre_at, post_at, dev_at}
use Rattle.pep440_text.proofs.Fronts.{Ends, Whole, Broken}
use Rattle.pep440_text.proofs.FrontDigits.{Small, NoDigit, digits_again, number_ends, number_of_ends}
use Rattle.pep440_text.proofs.Parts.{SmallPre, as_pre}
use Rattle.pep440_text.proofs.SuffixTexts.{none_here, digits_first}

-- ---- a number's print

pub decimal_number : (n : ℕ) → Small n → IsNumber (decimal n) n
decimal_number n h = let i = decimal_is_IsNumeral n h in record { digits = i.0; value = sym i.1 }

whole_read : {B : Type 0} (n m : ℕ) (x : B) (read : Result B TextFault) → n ≡ m → Small n → Ends Small m x read → read ≡ Ok x
whole_read n m x read e h (Whole f fit) = f
whole_read n m x read e h (Broken fault f fit) = absurd (fit (subst Small e h))

number_written : (bytes ds rest : List ℕ) (n : ℕ) → leading_digits bytes ≡ ds → behind_digits bytes ≡ rest → IsNumber ds n → Small n → number_at bytes ≡ Ok (Some n, rest)
number_written bytes [] rest n e f i h = absurd (omega (arith, i.digits.0))
number_written bytes (d ∷ ds) rest n e f i h =
    whole_read n (digits_value 10 (d ∷ ds)) (Some (digits_value 10 (d ∷ ds)), behind_digits bytes) (number_at bytes) i.value h (number_ends bytes d ds e)
    ∙ (λ z. Ok (Some (sym i.value z), f z))

pub value_written : (bytes ds : List ℕ) (n : ℕ) → IsNumber ds n → Small n → number_of bytes ds ≡ Ok (Some n)
value_written bytes [] n i h = absurd (omega (arith, i.digits.0))
value_written bytes (d ∷ ds) n i h =
    whole_read n (digits_value 10 (d ∷ ds)) (Some (digits_value 10 (d ∷ ds))) (number_of bytes (d ∷ ds)) i.value h (number_of_ends bytes d ds) ∙ ap (λ m. Ok (Some m)) (sym i.value)

pub decimal_read : (n : ℕ) (rest : List ℕ) → Small n → NoDigit rest → number_at (decimal n ++ rest) ≡ Ok (Some n, rest)
decimal_read n rest h stop =
    let i = decimal_number n h in
    let k = digits_again (decimal n) rest i.digits.1 stop in
    number_written (decimal n ++ rest) (decimal n) rest n k.0 k.1 i h

behind_separator : (n : ℕ) (rest : List ℕ) → Small n → NoDigit rest → number_at (after_separator (decimal n ++ rest)) ≡ Ok (Some n, rest)
behind_separator n rest h stop =
    let i = decimal_number n h in
    ap number_at (none_here (decimal n ++ rest) (digits_first (decimal n) rest i.digits.1 i.digits.0)) ∙ decimal_read n rest h stop

-- ---- what stands behind the release

-- what is printed behind the post-release, the pre-release and the release
abbrev pub behind_post : Option ℕ → List Segment → List ℕ
behind_post dev local = numbered_text (codes ".dev") dev ++ local_text local

abbrev pub behind_pre : Option ℕ → Option ℕ → List Segment → List ℕ
behind_pre post dev local = numbered_text (codes ".post") post ++ behind_post dev local

abbrev pub behind_release : Option Prerelease → Option ℕ → Option ℕ → List Segment → List ℕ
behind_release pre post dev local = pre_text pre ++ behind_pre post dev local

local_stops : (local : List Segment) → NoDigit (local_text local)
local_stops [] = tt
local_stops (segment ∷ local) = refl

pub post_stops : (dev : Option ℕ) (local : List Segment) → NoDigit (behind_post dev local)
post_stops None local = local_stops local
post_stops (Some n) local = refl

pre_stops : (post dev : Option ℕ) (local : List Segment) → NoDigit (behind_pre post dev local)
pre_stops None dev local = post_stops dev local
pre_stops (Some n) dev local = refl

-- no part is read where none is printed

no_dev : (local : List Segment) → dev_at (local_text local) ≡ Ok (None, local_text local)
unfolding dev_at suffix_at word_at
no_dev [] = refl
no_dev (segment ∷ local) = refl

no_post : (dev : Option ℕ) (local : List Segment) → post_at (behind_post dev local) ≡ Ok (None, behind_post dev local)
unfolding post_at marked_number_at suffix_at word_at
no_post None [] = refl
no_post None (segment ∷ local) = refl
no_post (Some n) local = refl

no_pre : (post dev : Option ℕ) (local : List Segment) → pre_at (behind_pre post dev local) ≡ Ok (None, behind_pre post dev local)
unfolding pre_at suffix_at word_at
no_pre None None [] = refl
no_pre None None (segment ∷ local) = refl
no_pre None (Some n) local = refl
no_pre (Some n) dev local = refl

-- ---- printed parts are read

word_read : {A : Type 0} (words : List (List ℕ × A)) (text : List ℕ) (m : A) (n : ℕ) (rest : List ℕ) → word_at words (after_separator text) ≡ Some (m, decimal n ++ rest) → Small n → NoDigit rest
    → suffix_at words text ≡ Ok (Some (m, n), rest)
unfolding suffix_at
word_read words text m n rest e h stop =
    ap (suffix_by text) e ∙ ap (λ r. r >>= λ found. Ok (Some (m, unwrap_or found.0 0), found.1)) (behind_separator n rest h stop)

-- a digit begins no word
digit_other : (c d : ℕ) → is_ascii_lowercase c ≡ true → digit_value d < 10 → (to_ascii_lowercase d == c) ≡ false
digit_other c d e h = grind (arith, nat_tests)

digits_no_word : (c : ℕ) (cs ds rest : List ℕ) → is_ascii_lowercase c ≡ true → AllDigits 10 ds → 0 < length ds → behind_word (c ∷ cs) (ds ++ rest) ≡ None
digits_no_word c cs [] rest e a h = absurd (omega arith)
digits_no_word c cs (d ∷ ds) rest e a h = ap (λ t. if t then behind_word cs (ds ++ rest) else None) (digit_other c d e a.0)

decimal_no_word : (c : ℕ) (cs : List ℕ) (n : ℕ) (rest : List ℕ) → is_ascii_lowercase c ≡ true → Small n → behind_word (c ∷ cs) (decimal n ++ rest) ≡ None
decimal_no_word c cs n rest e h = let i = decimal_number n h in digits_no_word c cs (decimal n) rest e i.digits.1 i.digits.0

kind_read : (kind : PrereleaseKind) (n : ℕ) (rest : List ℕ) → Small n → word_at pre_words (after_separator ((kind_text kind ++ decimal n) ++ rest)) ≡ Some (kind, decimal n ++ rest)
unfolding word_at
kind_read Alpha n rest h = ap (λ o. or_word Alpha o (word_at (drop 1 pre_words) (97 ∷ (decimal n ++ rest)))) (decimal_no_word 108 (codes "pha") n rest refl h)
kind_read Beta n rest h = ap (λ o. or_word Beta o (word_at (drop 3 pre_words) (98 ∷ (decimal n ++ rest)))) (decimal_no_word 101 (codes "ta") n rest refl h)
kind_read Rc n rest h = refl

pre_read : (pre : Prerelease) (rest : List ℕ) → Small pre.number → NoDigit rest → pre_at (prerelease_text pre ++ rest) ≡ Ok (Some pre, rest)
unfolding pre_at
pre_read pre rest h stop =
    ap (λ r. r >>= λ found. Ok (option_map as_pre found.0, found.1))
    (word_read pre_words (prerelease_text pre ++ rest) pre.kind pre.number rest (kind_read pre.kind pre.number rest h) h stop)

post_read : (n : ℕ) (rest : List ℕ) → Small n → NoDigit rest → post_at ((codes ".post" ++ decimal n) ++ rest) ≡ Ok (Some n, rest)
unfolding post_at marked_number_at word_at
post_read n rest h stop = ap (λ r. r >>= λ found. Ok (option_map (λ said. said.1) found.0, found.1)) (word_read post_words ((codes ".post" ++ decimal n) ++ rest) tt n rest refl h stop)

dev_read : (n : ℕ) (rest : List ℕ) → Small n → NoDigit rest → dev_at ((codes ".dev" ++ decimal n) ++ rest) ≡ Ok (Some n, rest)
unfolding dev_at word_at
dev_read n rest h stop = ap (λ r. r >>= λ found. Ok (option_map (λ said. said.1) found.0, found.1)) (word_read dev_words ((codes ".dev" ++ decimal n) ++ rest) tt n rest refl h stop)

pub dev_printed : (dev : Option ℕ) (local : List Segment) → IfSome dev Small → dev_at (behind_post dev local) ≡ Ok (dev, local_text local)
dev_printed None local h = no_dev local
dev_printed (Some n) local h = dev_read n (local_text local) h (local_stops local)

pub post_printed : (post dev : Option ℕ) (local : List Segment) → IfSome post Small → post_at (behind_pre post dev local) ≡ Ok (post, behind_post dev local)
post_printed None dev local h = no_post dev local
post_printed (Some n) dev local h = post_read n (behind_post dev local) h (post_stops dev local)

pub pre_printed : (pre : Option Prerelease) (post dev : Option ℕ) (local : List Segment) → IfSome pre SmallPre → pre_at (behind_release pre post dev local) ≡ Ok (pre, behind_pre post dev local)
pre_printed None post dev local h = no_pre post dev local
pre_printed (Some pre) post dev local h = pre_read pre (behind_pre post dev local) h (pre_stops post dev local)

-- ---- what stands behind the release goes on with no number and no epoch's mark

pub release_stops : (pre : Option Prerelease) (post dev : Option ℕ) (local : List Segment) → NoDigit (behind_release pre post dev local)
release_stops None post dev local = pre_stops post dev local
release_stops (Some pre) post dev local = kind_stops pre.kind
  where
    kind_stops : (kind : PrereleaseKind) → NoDigit ((kind_text kind ++ decimal pre.number) ++ behind_pre post dev local)
    kind_stops Alpha = refl
    kind_stops Beta = refl
    kind_stops Rc = refl

no_more_by : (post dev : Option ℕ) (local : List Segment) → marked_number_at 46 (behind_pre post dev local) ≡ Ok (None, behind_pre post dev local)
unfolding marked_number_at number_at
no_more_by None None [] = refl
no_more_by None None (segment ∷ local) = refl
no_more_by None (Some n) local = refl
no_more_by (Some n) dev local = refl

kind_no_more : (kind : PrereleaseKind) (n : ℕ) (rest : List ℕ) → marked_number_at 46 ((kind_text kind ++ decimal n) ++ rest) ≡ Ok (None, (kind_text kind ++ decimal n) ++ rest)
unfolding marked_number_at
kind_no_more Alpha n rest = refl
kind_no_more Beta n rest = refl
kind_no_more Rc n rest = refl

pub no_more_numbers : (pre : Option Prerelease) (post dev : Option ℕ) (local : List Segment) → marked_number_at 46 (behind_release pre post dev local) ≡ Ok (None, behind_release pre post dev local)
no_more_numbers None post dev local = no_more_by post dev local
no_more_numbers (Some pre) post dev local = kind_no_more pre.kind pre.number (behind_pre post dev local)

-- no `!` stands at the front
abbrev pub NoMark : List ℕ → Type 0
NoMark [] = Unit {0}
NoMark (b ∷ bs) = (b == 33) ≡ false

kind_no_mark : (kind : PrereleaseKind) (n : ℕ) (rest : List ℕ) → NoMark ((kind_text kind ++ decimal n) ++ rest)
kind_no_mark Alpha n rest = refl
kind_no_mark Beta n rest = refl
kind_no_mark Rc n rest = refl

pub no_mark : (pre : Option Prerelease) (post dev : Option ℕ) (local : List Segment) → NoMark (behind_release pre post dev local)
no_mark None None None [] = tt
no_mark None None None (segment ∷ local) = refl
no_mark None None (Some n) local = refl
no_mark None (Some n) dev local = refl
no_mark (Some pre) post dev local = kind_no_mark pre.kind pre.number (behind_pre post dev local)
