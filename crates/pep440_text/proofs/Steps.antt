-- One more number behind a dot, and one more segment.
use Rattle.std.proofs.Common.{◌≡◌, ℕ, suc, ◌+◌, ◌-◌, ◌<◌, Bool, true, false, if◌then◌else◌, List, [], ◌∷◌}
use Rattle.std.proofs.Common.{◌++◌, length, map, Option, Some, None, Result, Ok, Err, refl, ap, sym, ◌∙◌}
use Rattle.std.proofs.Common.{append_assoc, arith}
use Rattle.std.proofs.lemmas.Grind.{common_steps}
use Rattle.std.proofs.lemmas.List.{map-append}
use Rattle.pep440_text.specs.declared.TextFault.{TextFault}
use Rattle.pep440_text.specs.declared.ReadError.{ReadError}
use Rattle.pep440_text.specs.declared.ReadError.TheVariants as errors
use Rattle.pep440_text.specs.declared.LocalSegment.{LocalSegment}
use Rattle.pep440_text.specs.Record.{Segment, segment_of}
use Rattle.pep440_text.specs.Text.{is_separator}
use Rattle.read_outcome.specs.Outcome.{Tells}
use Rattle.pep440_text.specs.Faults.{told_read}
use Rattle.pep440_text.specs.Reading.{◌>>=◌, with_front, more_numbers, numbers_at, marked_number_at}
use Rattle.pep440_text.specs.Reading.{more_segments, segments_at, segment_at}

one_less : (n k : ℕ) → k < n → n - k ≡ suc (n - (k + 1))
one_less n k h = omega arith

front_twice : {A : Type 0} (xs ys : List A) (read : Result (List A × List ℕ) TextFault)
    → with_front xs (with_front ys read) ≡ with_front (xs ++ ys) read
front_twice xs ys (Ok x) = ap (λ zs. Ok (zs, x.1)) (sym (append_assoc xs ys x.0))
front_twice xs ys (Err e) = refl

nothing_more : (xs : List ℕ) → xs ++ [] ≡ xs
nothing_more xs = grind (arith, common_steps)

-- ---- numbers

-- what one more number does, by what is read at its place
numbers_step : (n k : ℕ) (xs rest : List ℕ) (read : Result (Option ℕ × List ℕ) TextFault) → k < n
    → marked_number_at 46 rest ≡ read
    → with_front xs (numbers_at (n - k) rest) ≡ with_front xs
    (read >>= more_numbers (numbers_at (n - (k + 1))))
numbers_step n k xs rest read h e =
    ap (λ m. with_front xs (numbers_at m rest)) (one_less n k h) ∙ ap
    (λ r. with_front xs (r >>= more_numbers (numbers_at (n - (k + 1))))) e

pub numbers_none : (n k : ℕ) (xs rest later : List ℕ) → k < n → marked_number_at 46 rest ≡ Ok (None, later)
    → with_front xs (numbers_at (n - k) rest) ≡ Ok (xs, later)
numbers_none n k xs rest later h e =
    numbers_step n k xs rest (Ok (None, later)) h e ∙ ap (λ ys. Ok (ys, later)) (nothing_more xs)

pub numbers_some : (n k m : ℕ) (xs rest later : List ℕ) → k < n
    → marked_number_at 46 rest ≡ Ok (Some m, later)
    → with_front xs (numbers_at (n - k) rest) ≡ with_front (xs ++ m ∷ []) (numbers_at (n - (k + 1)) later)
numbers_some n k m xs rest later h e =
    numbers_step n k xs rest (Ok (Some m, later)) h e ∙ front_twice xs (m ∷ [])
    (numbers_at (n - (k + 1)) later)

pub numbers_err : (n k : ℕ) (xs rest : List ℕ) (fault : TextFault) (all : Result (List ℕ × List ℕ) TextFault)
    → k < n
    → marked_number_at 46 rest ≡ Err fault → with_front xs (numbers_at (n - k) rest) ≡ all → all ≡ Err fault
numbers_err n k xs rest fault all h f q = sym q ∙ numbers_step n k xs rest (Err fault) h f

-- ---- segments

-- what one more segment does, by what is read at its place
segments_step : (n k : ℕ) (xs : List Segment) (rest : List ℕ) (read : Result (Segment × List ℕ) TextFault)
    → k < n → segment_at rest ≡ read
    → with_front xs (segments_at (n - k) rest) ≡ with_front xs
    (read >>= λ found. more_segments (segments_at (n - (k + 1))) found.0 found.1)
segments_step n k xs rest read h e =
    ap (λ m. with_front xs (segments_at m rest)) (one_less n k h) ∙ ap
    (λ r. with_front xs (r >>= λ found. more_segments (segments_at (n - (k + 1))) found.0 found.1)) e

pub segments_last : (n k : ℕ) (xs : List Segment) (s : Segment) (rest behind : List ℕ) → k < n
    → segment_at rest ≡ Ok (s, behind) → length behind ≡ 0
    → with_front xs (segments_at (n - k) rest) ≡ Ok (xs ++ s ∷ [], behind)
segments_last n k xs s rest [] h e z = segments_step n k xs rest (Ok (s, [])) h e
segments_last n k xs s rest (b ∷ bs) h e z = absurd (omega (arith, z))

separated_by : (n k : ℕ) (xs : List Segment) (s : Segment) (rest later : List ℕ) (byte : ℕ) (t : Bool)
    → k < n → segment_at rest ≡ Ok (s, byte ∷ later) → is_separator byte ≡ t
    → with_front xs (segments_at (n - k) rest) ≡ with_front xs
    (if t then with_front (s ∷ []) (segments_at (n - (k + 1)) later) else Ok (s ∷ [], byte ∷ later))
separated_by n k xs s rest later byte t h e b =
    segments_step n k xs rest (Ok (s, byte ∷ later)) h e ∙ ap
    (λ u. with_front xs (if u then with_front (s ∷ []) (segments_at (n - (k + 1)) later) else Ok (s ∷ [], byte ∷ later))) b

pub segments_end : (n k : ℕ) (xs : List Segment) (s : Segment) (rest behind later : List ℕ) (byte : ℕ)
    → k < n → segment_at rest ≡ Ok (s, behind) → behind ≡ byte ∷ later → is_separator byte ≡ false
    → with_front xs (segments_at (n - k) rest) ≡ Ok (xs ++ s ∷ [], behind)
segments_end n k xs s rest behind later byte h e p b =
    separated_by n k xs s rest later byte false h (e ∙ ap (λ r. Ok (s, r)) p) b ∙ ap
    (λ r. Ok (xs ++ s ∷ [], r)) (sym p)

pub segments_more : (n k : ℕ) (xs : List Segment) (s : Segment) (rest behind later : List ℕ) (byte : ℕ)
    → k < n → segment_at rest ≡ Ok (s, behind) → behind ≡ byte ∷ later → is_separator byte ≡ true
    → with_front xs (segments_at (n - k) rest) ≡ with_front (xs ++ s ∷ []) (segments_at (n - (k + 1)) later)
segments_more n k xs s rest behind later byte h e p b =
    separated_by n k xs s rest later byte true h (e ∙ ap (λ r. Ok (s, r)) p) b ∙ front_twice xs (s ∷ [])
    (segments_at (n - (k + 1)) later)

pub segments_err : (n k : ℕ) (xs : List Segment) (rest : List ℕ) (e : ReadError) (all : Result (List Segment × List ℕ) TextFault)
    → k < n → Tells (told_read e) (segment_at rest) → with_front xs (segments_at (n - k) rest) ≡ all
    → Tells (told_read e) all
segments_err n k xs rest errors.Memory all h f q = tt
segments_err n k xs rest (errors.Fault fault) all h f q = sym q ∙ segments_step n k xs rest (Err fault) h f

-- a segment more, as it is seen
pub segments_pushed : (xs ys : List LocalSegment) (x : LocalSegment) → ys ≡ xs ++ x ∷ []
    → map segment_of ys ≡ map segment_of xs ++ segment_of x ∷ []
segments_pushed xs ys x e = ap (map segment_of) e ∙ map-append segment_of xs (x ∷ [])
