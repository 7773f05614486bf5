-- How versions and patterns begin: white space, `v`, the epoch and the release.
use Rattle.std.proofs.Common.{◌≡◌, ℕ, ◌<◌, ◌≤◌, ◌==◌, Bool, true, false, if◌then◌else◌, length, map, List, []}
use Rattle.std.proofs.Common.{◌∷◌, ◌++◌, Option, Some, None, Ok, refl, ap, sym, subst, ◌∙◌, arith}
use Rattle.std.proofs.Common.{append_assoc}
use Rattle.std.proofs.lemmas.Bool.Decides.{nat_tests}
use Rattle.std.specs.Prelude.{codes, unwrap_or, IfSome}
use Rattle.std.specs.Char.{is_ascii_whitespace, to_ascii_lowercase, digit_value}
use Rattle.std.specs.List.{take_while}
use Rattle.std.specs.Str.Parse.{AllDigits}
use Rattle.pep440_text.specs.Text.{Front, HasNoFront, Optional, IsLetterV, IsEpoch, IsRelease, IsHead}
use Rattle.pep440_text.specs.Reading.{◌>>=◌, after_white, after_v, epoch_at, release_at, head_at}
use Rattle.pep440_text.proofs.Fronts.{value_or, ok_inside, part_found, part_again}
use Rattle.pep440_text.proofs.FrontDigits.{Small, this_byte, epoch_single, epoch_reads}
use Rattle.pep440_text.proofs.Releases.{AllSmall, dotted, parted, release_found, release_again}
use Rattle.pep440_text.proofs.Spans.{Stops, span_split, span_passes, span_again}

-- ---- the letter `v`

letter_is : (text : List ℕ) → map to_ascii_lowercase text ≡ codes "v" → (b : ℕ) × (text ≡ b ∷ []) × (to_ascii_lowercase b ≡ 118)
letter_is [] e = absurd (cc)
letter_is (b ∷ []) e = let p : to_ascii_lowercase b ≡ 118 = cc in (b, refl, p)
letter_is (b ∷ c ∷ cs) e = absurd (cc)

letter_first : (text rest : List ℕ) (b : ℕ) (bs : List ℕ) → b ∷ bs ≡ text ++ rest → map to_ascii_lowercase text ≡ codes "v" → (to_ascii_lowercase b ≡ 118) × (bs ≡ rest)
letter_first text rest b bs e i =
    let l = letter_is text i in
    let k : b ∷ bs ≡ l.0 ∷ rest = e ∙ ap (λ t. t ++ rest) l.1 in
    let p : b ≡ l.0 = cc in
    let q : bs ≡ rest = cc in
    (ap to_ascii_lowercase p ∙ l.2, q)

-- what is read of a `v`
pub record LetterFound (body : List ℕ) : Type 0 where
  pub letter : Option (Unit {0})
  pub is_there : Optional IsLetterV body letter (after_v body)

other_letter : (b : ℕ) → (to_ascii_lowercase b == 118) ≡ false → to_ascii_lowercase b ≡ 118 → ⊥
other_letter b e k = grind (arith, nat_tests)

letter_length : (text : List ℕ) → map to_ascii_lowercase text ≡ codes "v" → length text ≤ 1
letter_length text i = let l = letter_is text i in omega (arith, ap length l.1)

letter_test : (b : ℕ) (bs : List ℕ) (t : Bool) → (to_ascii_lowercase b == 118) ≡ t → (letter : Option (Unit {0})) × Optional IsLetterV (b ∷ bs) letter (if t then bs else b ∷ bs)
letter_test b bs true e =
    (Some tt, record { front = b ∷ []; split = refl; is_part = ap (λ x. x ∷ []) (this_byte (to_ascii_lowercase b) 118 e); longest = λ other more said k i. letter_length other i })
letter_test b bs false e = (None, (λ front rest said k i. other_letter b e (letter_first front rest b bs k i).0, refl))

no_letter : (front rest : List ℕ) → [] ≡ front ++ rest → map to_ascii_lowercase front ≡ codes "v" → ⊥
no_letter front rest e i = let l = letter_is front i in let k : [] ≡ l.0 ∷ rest = e ∙ ap (λ t. t ++ rest) l.1 in absurd (cc)

letter_found : (body : List ℕ) → LetterFound body
letter_found [] = record { letter = None; is_there = (λ front rest said k i. no_letter front rest k i, refl) }
letter_found (b ∷ bs) = let i = letter_test b bs (to_ascii_lowercase b == 118) refl in record { letter = i.0; is_there = i.1 }

letter_kept : (body : List ℕ) → HasNoFront IsLetterV body → after_v body ≡ body
letter_kept [] h = refl
letter_kept (b ∷ bs) h = kept_by (to_ascii_lowercase b == 118) refl
  where
    kept_by : (t : Bool) → (to_ascii_lowercase b == 118) ≡ t → (if t then bs else b ∷ bs) ≡ b ∷ bs
    kept_by true e = absurd (h (b ∷ []) bs tt refl (ap (λ x. x ∷ []) (this_byte (to_ascii_lowercase b) 118 e)))
    kept_by false e = refl

letter_taken : (b : ℕ) (rest : List ℕ) → to_ascii_lowercase b ≡ 118 → after_v (b ∷ rest) ≡ rest
letter_taken b rest e = ap (λ x. if x == 118 then rest else b ∷ rest) e

letter_again : (body : List ℕ) (letter : Option (Unit {0})) (rest : List ℕ) → Optional IsLetterV body letter rest → after_v body ≡ rest
letter_again body None rest h = letter_kept body h.0 ∙ sym h.1
letter_again body (Some said) rest f =
    let l = letter_is f.front f.is_part in
    ap after_v (f.split ∙ ap (λ t. t ++ rest) l.1) ∙ letter_taken l.0 rest l.2

-- ---- no white space stands before them

letter_no_white : (b : ℕ) → to_ascii_lowercase b ≡ 118 → is_ascii_whitespace b ≡ false
letter_no_white b e = grind (arith, nat_tests)

digit_no_white : (b : ℕ) → digit_value b < 10 → is_ascii_whitespace b ≡ false
digit_no_white b e = grind (arith, nat_tests)

pub digits_stop : (ds rest : List ℕ) → AllDigits 10 ds → 0 < length ds → Stops is_ascii_whitespace (ds ++ rest)
digits_stop [] rest a h = absurd (omega arith)
digits_stop (d ∷ ds) rest a h = digit_no_white d a.0

abbrev Starts : List ℕ → Type 0
Starts = Stops is_ascii_whitespace

release_starts : (text : List ℕ) (ns rest : List ℕ) → Front IsRelease text ns rest → Starts text
release_starts text ns rest f =
    let a = parted f.front ns f.is_part in
    let s : text ≡ a.first ++ (dotted a.others ++ rest) = f.split ∙ ap (λ t. t ++ rest) a.joined ∙ append_assoc a.first (dotted a.others) rest in
    subst Starts (sym s) (digits_stop a.first (dotted a.others ++ rest) a.is_first.digits.1 a.is_first.digits.0)

epoch_starts : (text : List ℕ) (o : Option ℕ) (later ns rest : List ℕ) → Optional IsEpoch text o later → Front IsRelease later ns rest → Starts text
epoch_starts text None later ns rest h f = subst Starts h.1 (release_starts later ns rest f)
epoch_starts text (Some n) later ns rest h f =
    let i = h.is_part in
    let s : text ≡ i.0 ++ (codes "!" ++ later) = h.split ∙ ap (λ t. t ++ later) i.1 ∙ append_assoc i.0 (codes "!") later in
    subst Starts (sym s) (digits_stop i.0 (codes "!" ++ later) i.2.digits.1 i.2.digits.0)

body_starts : (body : List ℕ) (letter : Option (Unit {0})) (later : List ℕ) → Optional IsLetterV body letter later → Starts later → Starts body
body_starts body None later h s = subst Starts h.1 s
body_starts body (Some said) later f s =
    let l = letter_is f.front f.is_part in
    subst Starts (sym (f.split ∙ ap (λ t. t ++ later) l.1)) (letter_no_white l.0 l.2)

-- ---- what is read is in the grammar

epoch_small : (o : Option ℕ) → IfSome o Small → Small (unwrap_or o 0)
epoch_small None h = omega arith
epoch_small (Some n) h = h

-- a head, of numbers that 64 bits hold
abbrev pub SmallHead : List ℕ → ℕ → List ℕ → List ℕ → Type 0
SmallHead text epoch numbers rest = IsHead text epoch numbers rest × Small epoch × AllSmall numbers

pub head_found : (text : List ℕ) (h : (ℕ × List ℕ) × List ℕ) → head_at text ≡ Ok h → SmallHead text h.0.0 h.0.1 h.1
unfolding head_at
head_found text h q =
    let body = after_white text in
    let letter = letter_found body in
    let i = ok_inside (epoch_at (after_v body)) (λ epoch. release_at epoch.1 >>= λ release. Ok ((unwrap_or epoch.0 0, release.0), release.1)) h q in
    let j = ok_inside (release_at i.0.1) (λ release. Ok ((unwrap_or i.0.0 0, release.0), release.1)) h i.2 in
    let epoch = part_found IsEpoch Small (after_v body) (epoch_at (after_v body)) (epoch_reads (after_v body)) i.0.0 i.0.1 i.1 in
    let release = release_found i.0.1 j.0.0 j.0.1 j.1 in
    let k : ((unwrap_or i.0.0 0, j.0.0), j.0.1) ≡ h = ap (value_or h) j.2 in
    let head : IsHead text (unwrap_or i.0.0 0) j.0.0 j.0.1 = record {
      white = take_while is_ascii_whitespace text;
      body = body;
      split = span_split is_ascii_whitespace text;
      is_white = span_passes is_ascii_whitespace text;
      letter = letter.letter;
      after_letter = after_v body;
      has_letter = letter.is_there;
      written_epoch = i.0.0;
      after_epoch = i.0.1;
      has_epoch = epoch.0;
      is_epoch = refl;
      has_release = release.0;
    } in
    subst (λ (p : (ℕ × List ℕ) × List ℕ). SmallHead text p.0.0 p.0.1 p.1) k (head, epoch_small i.0.0 epoch.1, release.1)

-- ---- what is in the grammar is read

epoch_fits : (o : Option ℕ) (n : ℕ) → n ≡ unwrap_or o 0 → Small n → IfSome o Small
epoch_fits None n e h = tt
epoch_fits (Some m) n e h = subst Small e h

pub head_again : (text : List ℕ) (epoch : ℕ) (numbers rest : List ℕ) → IsHead text epoch numbers rest → Small epoch → AllSmall numbers → head_at text ≡ Ok ((epoch, numbers), rest)
unfolding head_at
head_again text epoch numbers rest h small all =
    let starts = body_starts h.body h.letter h.after_letter h.has_letter (epoch_starts h.after_letter h.written_epoch h.after_epoch numbers rest h.has_epoch h.has_release) in
    let a : after_white text ≡ h.body = ap after_white h.split ∙ (span_again is_ascii_whitespace h.white h.body h.is_white starts).1 in
    let b : after_v (after_white text) ≡ h.after_letter = ap after_v a ∙ letter_again h.body h.letter h.after_letter h.has_letter in
    let c = part_again IsEpoch Small epoch_single h.after_letter (epoch_at h.after_letter) (epoch_reads h.after_letter) h.written_epoch h.after_epoch h.has_epoch (epoch_fits h.written_epoch epoch h.is_epoch small) in
    let d = release_again h.after_epoch numbers rest h.has_release all in
    ap (λ t. epoch_at t >>= λ epoch. release_at epoch.1 >>= λ release. Ok ((unwrap_or epoch.0 0, release.0), release.1)) b
    ∙ ap (λ r. r >>= λ epoch. release_at epoch.1 >>= λ release. Ok ((unwrap_or epoch.0 0, release.0), release.1)) c
    ∙ ap (λ r. r >>= λ release. Ok ((unwrap_or h.written_epoch 0, release.0), release.1)) d
    ∙ ap (λ n. Ok ((n, numbers), rest)) (sym h.is_epoch)
