-- Pre-release, post-release and developmental release: suffixes, and of the post-release also `-` and a number.
use Rattle.std.proofs.Common.{◌≡◌, ℕ, ◌<◌, ◌≤◌, inl, inr, length, List, [], ◌∷◌, ◌++◌, Option, Some}
use Rattle.std.proofs.Common.{option_map, Result, Ok, refl, ap, sym, subst, ◌∙◌, arith}
use Rattle.std.proofs.lemmas.List.{append-nil}
use Rattle.std.specs.Char.{digit_value}
use Rattle.std.specs.Str.Parse.{AllDigits}
use Rattle.pep440_text.specs.declared.TextFault.{TextFault}
use Rattle.pep440_text.specs.declared.Prerelease.{Prerelease}
use Rattle.pep440_text.specs.declared.PrereleaseKind.{PrereleaseKind}
use Rattle.pep440_text.specs.Text.{Front, HasNoFront, IsMarkedNumber, IsSuffix, IsPre, IsPost, IsDev}
use Rattle.pep440_text.specs.Text.{pre_words, post_words, dev_words}
use Rattle.pep440_text.specs.Reading.{◌>>=◌, after_separator, marked_number_at, suffix_at, plain_suffix_at}
use Rattle.pep440_text.specs.Reading.{pre_at, post_by, post_at, dev_at}
use Rattle.pep440_text.proofs.Fronts.{Ends, Whole, Broken, Reads, Absent, Present, Single}
use Rattle.pep440_text.proofs.FrontDigits.{Small, ends_at, marked_reads, marked_single}
use Rattle.pep440_text.proofs.WordTables.{AllLow, one_of_letters, pre_table, post_table, dev_table}
use Rattle.pep440_text.proofs.SuffixTexts.{SmallSaid, suffix_inside, suffix_single, suffix_reads}
use Rattle.pep440_text.proofs.SuffixTexts.{digit_no_low}

-- ---- the value in another form

ends_mapped : {A B : Type 0} (Fit : A → Type 0) (f : A → B) (g : B → A) → ((a : A) → g (f a) ≡ a) → (v : A) (rest : List ℕ) (read : Result (Option A × List ℕ) TextFault) → Ends Fit v (Some v, rest) read
    → Ends {B = Option B × List ℕ} (λ b. Fit (g b)) (f v) (Some (f v), rest) (read >>= λ found. Ok (option_map f found.0, found.1))
ends_mapped Fit f g back v rest read (Whole e fit) = Whole (ap (λ r. r >>= λ found. Ok (option_map f found.0, found.1)) e) (subst Fit (sym (back v)) fit)
ends_mapped Fit f g back v rest read (Broken fault e fit) = Broken fault (ap (λ r. r >>= λ found. Ok (option_map f found.0, found.1)) e) (λ h. fit (subst Fit (back v) h))

reads_mapped : {A B : Type 0} (Is : List ℕ → A → Type 0) (Fit : A → Type 0) (f : A → B) (g : B → A) → ((a : A) → g (f a) ≡ a) → (text : List ℕ) (read : Result (Option A × List ℕ) TextFault) → Reads Is Fit text read
    → Reads (λ t b. Is t (g b)) (λ b. Fit (g b)) text (read >>= λ found. Ok (option_map f found.0, found.1))
reads_mapped Is Fit f g back text read (Absent e h) = Absent (ap (λ r. r >>= λ found. Ok (option_map f found.0, found.1)) e) (λ front rest b k i. h front rest (g b) k i)
reads_mapped Is Fit f g back text read (Present v rest here ends) =
    Present (f v) rest
    (record { front = here.front; split = here.split; is_part = subst (Is here.front) (sym (back v)) here.is_part; longest = λ other more b k i. here.longest other more (g b) k i })
    (ends_mapped Fit f g back v rest read ends)

-- ---- the pre-release

abbrev pub as_pre : PrereleaseKind × ℕ → Prerelease
as_pre said = record { kind = said.0; number = said.1 }

abbrev pub SmallPre : Prerelease → Type 0
SmallPre pre = Small pre.number

pub pre_single : Single IsPre
pre_single text v w i j = ap as_pre (suffix_single pre_words pre_table text (v.kind, v.number) (w.kind, w.number) i j)

pub pre_reads : (text : List ℕ) → Reads IsPre SmallPre text (pre_at text)
unfolding pre_at
pre_reads text = reads_mapped (IsSuffix pre_words) SmallSaid as_pre (λ pre. (pre.kind, pre.number)) (λ a. refl) text (suffix_at pre_words text) (suffix_reads pre_words pre_table text)

-- ---- the developmental release

plain_reads : (words : List (List ℕ × Unit {0})) (text : List ℕ) → Reads (IsSuffix words) SmallSaid text (suffix_at words text) → Reads (λ t n. IsSuffix words t (tt, n)) Small text (plain_suffix_at words text)
plain_reads words text reads = reads_mapped (IsSuffix words) SmallSaid (λ said. said.1) (λ n. (tt, n)) (λ a. refl) text (suffix_at words text) reads

pub dev_single : Single IsDev
dev_single text v w i j = ap (λ said. said.1) (suffix_single dev_words dev_table text (tt, v) (tt, w) i j)

pub dev_reads : (text : List ℕ) → Reads IsDev Small text (dev_at text)
unfolding dev_at
dev_reads text = plain_reads dev_words text (suffix_reads dev_words dev_table text)

-- ---- the post-release

digit_is_low : (d : ℕ) (ds w rest more : List ℕ) → digit_value d < 10 → (d ∷ ds) ++ more ≡ w ++ rest → AllLow w → 0 < length w → ⊥
digit_is_low d ds [] rest more h e a n = absurd (omega arith)
digit_is_low d ds (c ∷ w) rest more h e a n = let p : d ≡ c = cc in digit_no_low c (subst (λ x. digit_value x < 10) p h) a.0

digits_are_low : (ds w rest more : List ℕ) → AllDigits 10 ds → 0 < length ds → ds ++ more ≡ w ++ rest → AllLow w → 0 < length w → ⊥
digits_are_low [] w rest more a h e b n = absurd (omega arith)
digits_are_low (d ∷ ds) w rest more a h e b n = digit_is_low d ds w rest more a.0 e b n

-- what begins with `-` and a digit doesn't begin with a separator and a word
not_both : (text front rest other more : List ℕ) (n : ℕ) (said : Unit {0} × ℕ) → text ≡ front ++ rest → IsMarkedNumber 45 front n → text ≡ other ++ more → IsSuffix post_words other said → ⊥
not_both text front rest other more n said e i f j =
    let k = suffix_inside post_words post_table text other more said f j in
    let here : text ≡ 45 ∷ (i.0 ++ rest) = e ∙ ap (λ t. t ++ rest) i.1 in
    let same : i.0 ++ rest ≡ j.word ++ ((j.between ++ j.digits) ++ more) = ap after_separator (sym here) ∙ k.0 in
    let letters = one_of_letters post_words post_table j.word said.0 j.is_word in
    digits_are_low i.0 j.word ((j.between ++ j.digits) ++ more) rest i.2.digits.1 i.2.digits.0 same letters.0 letters.1

pub post_single : Single IsPost
post_single text v w (inl i) (inl j) = marked_single 45 text v w i j
post_single text v w (inl i) (inr j) = absurd (not_both text text [] text [] v (tt, w) (sym (append-nil text)) i (sym (append-nil text)) j)
post_single text v w (inr i) (inl j) = absurd (not_both text text [] text [] w (tt, v) (sym (append-nil text)) j (sym (append-nil text)) i)
post_single text v w (inr i) (inr j) = ap (λ said. said.1) (suffix_single post_words post_table text (tt, v) (tt, w) i j)

marked_longest : (text : List ℕ) (v : ℕ) (rest : List ℕ) → (f : Front (IsMarkedNumber 45) text v rest) → (other more : List ℕ) (n : ℕ) → text ≡ other ++ more → IsPost other n → length other ≤ length f.front
marked_longest text v rest f other more n e (inl i) = f.longest other more n e i
marked_longest text v rest f other more n e (inr i) = absurd (not_both text f.front rest other more v (tt, n) f.split f.is_part e i)

marked_ends : (bytes : List ℕ) (v : ℕ) (rest : List ℕ) (read : Result (Option ℕ × List ℕ) TextFault) → Ends Small v (Some v, rest) read → Ends Small v (Some v, rest) (read >>= post_by bytes)
marked_ends bytes v rest read (Whole e fit) = Whole (ap (λ r. r >>= post_by bytes) e) fit
marked_ends bytes v rest read (Broken fault e fit) = Broken fault (ap (λ r. r >>= post_by bytes) e) fit

neither : (text : List ℕ) → HasNoFront (IsMarkedNumber 45) text → HasNoFront (λ t n. IsSuffix post_words t (tt, n)) text → (front rest : List ℕ) (n : ℕ) → text ≡ front ++ rest → IsPost front n → ⊥
neither text none other front rest n e (inl i) = none front rest n e i
neither text none other front rest n e (inr i) = other front rest n e i

word_longest : (text : List ℕ) (v : ℕ) (rest : List ℕ) → HasNoFront (IsMarkedNumber 45) text → (f : Front (λ t n. IsSuffix post_words t (tt, n)) text v rest) → (other more : List ℕ) (n : ℕ) → text ≡ other ++ more → IsPost other n
    → length other ≤ length f.front
word_longest text v rest none f other more n e (inl i) = absurd (none other more n e i)
word_longest text v rest none f other more n e (inr i) = f.longest other more n e i

post_words_read : (text : List ℕ) (read : Result (Option ℕ × List ℕ) TextFault) → HasNoFront (IsMarkedNumber 45) text → read ≡ plain_suffix_at post_words text
    → Reads (λ t n. IsSuffix post_words t (tt, n)) Small text (plain_suffix_at post_words text) → Reads IsPost Small text read
post_words_read text read none k (Absent e h) = Absent (k ∙ e) (neither text none h)
post_words_read text read none k (Present v rest f ends) =
    Present v rest (record { front = f.front; split = f.split; is_part = inr f.is_part; longest = word_longest text v rest none f }) (ends_at Small v (Some v, rest) (plain_suffix_at post_words text) read k ends)

post_cases : (text : List ℕ) → Reads (IsMarkedNumber 45) Small text (marked_number_at 45 text) → Reads IsPost Small text (marked_number_at 45 text >>= post_by text)
post_cases text (Absent e none) =
    post_words_read text (marked_number_at 45 text >>= post_by text) none (ap (λ r. r >>= post_by text) e) (plain_reads post_words text (suffix_reads post_words post_table text))
post_cases text (Present v rest f ends) =
    Present v rest (record { front = f.front; split = f.split; is_part = inl f.is_part; longest = marked_longest text v rest f }) (marked_ends text v rest (marked_number_at 45 text) ends)

pub post_reads : (text : List ℕ) → Reads IsPost Small text (post_at text)
unfolding post_at
post_reads text = post_cases text (marked_reads 45 text)
