-- White space, and the local part: what is read is in the grammar, and what is in the grammar is read.
use Rattle.std.proofs.Common.{◌≡◌, ℕ, zero, suc, ◌<◌, ◌≤◌, ◌==◌, Bool, true, false, if◌then◌else◌, length}
use Rattle.std.proofs.Common.{List, [], ◌∷◌, ◌++◌, Result, Ok, refl, ap, sym, subst, ◌∙◌, arith}
use Rattle.std.proofs.Common.{length-append, append_assoc}
use Rattle.std.proofs.lemmas.Bool.Decides.{nat_tests}
use Rattle.std.proofs.lemmas.List.{append-nil}
use Rattle.std.specs.Prelude.{IsTrue}
use Rattle.std.specs.Char.{is_ascii_whitespace, is_ascii_alphanumeric}
use Rattle.std.specs.List.{take_while}
use Rattle.pep440_text.specs.declared.TextFault.{TextFault}
use Rattle.pep440_text.specs.Record.{Segment}
use Rattle.pep440_text.specs.Text.{AreWhite, is_separator, segment_said, IsSegment, AreSegments}
use Rattle.pep440_text.specs.Text.{IsLocalOrNone}
use Rattle.pep440_text.specs.Reading.{◌>>=◌, after_white, with_front, segment_by, segment_at, more_segments}
use Rattle.pep440_text.specs.Reading.{segments_at, local_by, local_at, end_by, end_at}
use Rattle.pep440_text.proofs.Fronts.{value_or, good, same_value, ok_inside}
use Rattle.pep440_text.proofs.FrontDigits.{this_byte}
use Rattle.pep440_text.proofs.Spans.{behind, Passes, Stops, span_split, span_passes, span_again}

-- ---- white space at the end

end_is : (rest : List ℕ) → end_by rest ≡ Ok tt → rest ≡ []
end_is [] e = refl
end_is (b ∷ bs) e = absurd (cc)

pub end_found : (left : List ℕ) → end_at left ≡ Ok tt → AreWhite left
unfolding end_at
end_found left e =
    let k = end_is (after_white left) e in
    let s : left ≡ take_while is_ascii_whitespace left = span_split is_ascii_whitespace left ∙ ap (λ t. take_while is_ascii_whitespace left ++ t) k ∙ append-nil (take_while is_ascii_whitespace left) in
    subst AreWhite (sym s) (span_passes is_ascii_whitespace left)

pub end_again : (left : List ℕ) → AreWhite left → end_at left ≡ Ok tt
unfolding end_at
end_again left h =
    let k = span_again is_ascii_whitespace left [] h tt in
    ap end_by (ap after_white (sym (append-nil left)) ∙ k.1)

-- ---- a segment

some_letters : (bytes letters : List ℕ) (segment : Segment) → Passes is_ascii_alphanumeric letters → segment_by bytes letters ≡ Ok segment → IsSegment letters segment
some_letters bytes [] segment a e = absurd (cc)
some_letters bytes (c ∷ cs) segment a e = record { nonempty = omega arith; letters = a; says = sym (same_value (segment_by bytes (c ∷ cs)) (segment_said (c ∷ cs)) segment refl e) }

segment_found : (bytes : List ℕ) (segment : Segment) (rest : List ℕ) → segment_at bytes ≡ Ok (segment, rest) → (front : List ℕ) × (bytes ≡ front ++ rest) × IsSegment front segment
unfolding segment_at
segment_found bytes segment rest e =
    let letters = take_while is_ascii_alphanumeric bytes in
    let i = ok_inside (segment_by bytes letters) (λ s. Ok (s, behind is_ascii_alphanumeric bytes)) (segment, rest) e in
    let k : (i.0, behind is_ascii_alphanumeric bytes) ≡ (segment, rest) = ap (value_or (segment, rest)) i.2 in
    let part = some_letters bytes letters i.0 (span_passes is_ascii_alphanumeric bytes) i.1 in
    (letters, span_split is_ascii_alphanumeric bytes ∙ ap (λ p. letters ++ p.1) k, subst (λ p. IsSegment letters p.0) k part)

letters_said : (bytes letters : List ℕ) → 0 < length letters → segment_by bytes letters ≡ Ok (segment_said letters)
letters_said bytes [] h = absurd (omega arith)
letters_said bytes (c ∷ cs) h = refl

segment_again : (front rest : List ℕ) (segment : Segment) → IsSegment front segment → Stops is_ascii_alphanumeric rest → segment_at (front ++ rest) ≡ Ok (segment, rest)
unfolding segment_at
segment_again front rest segment i h =
    let bytes = front ++ rest in
    let k = span_again is_ascii_alphanumeric front rest i.letters h in
    (λ z. segment_by bytes (k.0 z) >>= λ s. Ok (s, k.1 z))
    ∙ ap (λ r. r >>= λ s. Ok (s, rest)) (letters_said bytes front i.nonempty ∙ ap Ok (sym i.says))

-- ---- segments

-- what follows a front is segments, with what is left behind them
abbrev Found : List ℕ → List Segment → List ℕ → Type 0
Found bytes segments rest = (front : List ℕ) × (bytes ≡ front ++ rest) × AreSegments front segments

one_found : (front bytes : List ℕ) (segment : Segment) (segments : List Segment) (left rest : List ℕ) → bytes ≡ front ++ left → IsSegment front segment → good {A = List Segment × List ℕ} (segment ∷ [], left) ≡ Ok (segments, rest) → Found bytes segments rest
one_found front bytes segment segments left rest s i e =
    let k : (segment ∷ [], left) ≡ (segments, rest) = ap (value_or (segments, rest)) e in
    subst (λ p. Found bytes p.0 p.1) k (front, s, i)

joined_found : (front bytes : List ℕ) (segment : Segment) (b : ℕ) (bs : List ℕ) (segments : List Segment) (rest : List ℕ) → bytes ≡ front ++ (b ∷ bs) → IsSegment front segment → IsTrue (is_separator b) → Found bs segments rest
    → Found bytes (segment ∷ segments) rest
joined_found front bytes segment b bs [] rest s i t f = absurd f.2
joined_found front bytes segment b bs (next ∷ segments) rest s i t f =
    (front ++ (b ∷ f.0), s ∙ ap (λ x. front ++ (b ∷ x)) f.1 ∙ sym (append_assoc front (b ∷ f.0) rest), (front, b, f.0, refl, t, i, f.2))

more_by : (more : List ℕ → Result (List Segment × List ℕ) TextFault) (front bytes : List ℕ) (segment : Segment) (b : ℕ) (bs : List ℕ) (segments : List Segment) (rest : List ℕ) (t : Bool)
    → ((bs : List ℕ) (segments : List Segment) (rest : List ℕ) → more bs ≡ Ok (segments, rest) → Found bs segments rest) → bytes ≡ front ++ (b ∷ bs) → IsSegment front segment → is_separator b ≡ t
    → (if t then with_front (segment ∷ []) (more bs) else Ok (segment ∷ [], b ∷ bs)) ≡ Ok (segments, rest) → Found bytes segments rest
more_by more front bytes segment b bs segments rest true ih s i t e =
    let j = ok_inside (more bs) (λ found. Ok ((segment ∷ []) ++ found.0, found.1)) (segments, rest) e in
    let k : (segment ∷ j.0.0, j.0.1) ≡ (segments, rest) = ap (value_or (segments, rest)) j.2 in
    subst (λ p. Found bytes p.0 p.1) k (joined_found front bytes segment b bs j.0.0 j.0.1 s i t (ih bs j.0.0 j.0.1 j.1))
more_by more front bytes segment b bs segments rest false ih s i t e = one_found front bytes segment segments (b ∷ bs) rest s i e

more_found : (more : List ℕ → Result (List Segment × List ℕ) TextFault) (front bytes : List ℕ) (segment : Segment) (left : List ℕ) (segments : List Segment) (rest : List ℕ)
    → ((bs : List ℕ) (segments : List Segment) (rest : List ℕ) → more bs ≡ Ok (segments, rest) → Found bs segments rest) → bytes ≡ front ++ left → IsSegment front segment
    → more_segments more segment left ≡ Ok (segments, rest) → Found bytes segments rest
more_found more front bytes segment [] segments rest ih s i e = one_found front bytes segment segments [] rest s i e
more_found more front bytes segment (b ∷ bs) segments rest ih s i e = more_by more front bytes segment b bs segments rest (is_separator b) ih s i refl e

segments_found : (k : ℕ) (bytes : List ℕ) (segments : List Segment) (rest : List ℕ) → segments_at k bytes ≡ Ok (segments, rest) → Found bytes segments rest
segments_found zero bytes segments rest e = absurd (cc)
segments_found (suc k) bytes segments rest e =
    let i = ok_inside (segment_at bytes) (λ found. more_segments (segments_at k) found.0 found.1) (segments, rest) e in
    let part = segment_found bytes i.0.0 i.0.1 i.1 in
    more_found (segments_at k) part.0 bytes i.0.0 i.0.1 segments rest (segments_found k) part.1 part.2 i.2

-- neither letter nor digit nor separator stands at the front
abbrev Ended : List ℕ → Type 0
Ended [] = Unit {0}
Ended (b ∷ bs) = (is_ascii_alphanumeric b ≡ false) × (is_separator b ≡ false)

ended_stops : (rest : List ℕ) → Ended rest → Stops is_ascii_alphanumeric rest
ended_stops [] h = tt
ended_stops (b ∷ bs) h = h.0

last_segment : (more : List ℕ → Result (List Segment × List ℕ) TextFault) (segment : Segment) (rest : List ℕ) → Ended rest → more_segments more segment rest ≡ Ok (segment ∷ [], rest)
last_segment more segment [] h = refl
last_segment more segment (b ∷ bs) h = ap (λ t. if t then with_front (segment ∷ []) (more bs) else Ok (segment ∷ [], b ∷ bs)) h.1

separator_stops : (b : ℕ) → is_separator b ≡ true → is_ascii_alphanumeric b ≡ false
separator_stops b e = grind (arith, nat_tests)

segments_again : (k : ℕ) (text : List ℕ) (segments : List Segment) (rest : List ℕ) → length text ≤ k → AreSegments text segments → Ended rest → segments_at k (text ++ rest) ≡ Ok (segments, rest)
segments_again k text [] rest h a e = absurd a
segments_again zero text (segment ∷ []) rest h a e = absurd (omega (arith, a.nonempty))
segments_again zero text (segment ∷ next ∷ segments) rest h a e = absurd (omega (arith, ap length a.3, length-append a.0 (a.1 ∷ a.2)))
segments_again (suc k) text (segment ∷ []) rest h a e =
    ap (λ r. r >>= λ found. more_segments (segments_at k) found.0 found.1) (segment_again text rest segment a (ended_stops rest e)) ∙ last_segment (segments_at k) segment rest e
segments_again (suc k) text (segment ∷ next ∷ segments) rest h a e =
    let left = a.1 ∷ (a.2 ++ rest) in
    let s : text ++ rest ≡ a.0 ++ left = ap (λ t. t ++ rest) a.3 ∙ append_assoc a.0 (a.1 ∷ a.2) rest in
    let less : length a.2 ≤ k = omega (arith, ap length a.3, length-append a.0 (a.1 ∷ a.2)) in
    ap (λ t. segment_at t >>= λ found. more_segments (segments_at k) found.0 found.1) s
    ∙ ap (λ r. r >>= λ found. more_segments (segments_at k) found.0 found.1) (segment_again a.0 left segment a.5 (separator_stops a.1 a.4))
    ∙ ap (λ t. if t then with_front (segment ∷ []) (segments_at k (a.2 ++ rest)) else Ok (segment ∷ [], left)) a.4
    ∙ ap (with_front (segment ∷ [])) (segments_again k a.2 (next ∷ segments) rest less a.6 e)

-- ---- the local part

abbrev pub LocalFound : List ℕ → List Segment → List ℕ → Type 0
LocalFound bytes segments rest = (local : List ℕ) × (bytes ≡ local ++ rest) × IsLocalOrNone local segments

plus_found : (b : ℕ) (bytes : List ℕ) (segments : List Segment) (rest : List ℕ) → b ≡ 43 → Found bytes segments rest → LocalFound (b ∷ bytes) segments rest
plus_found b bytes [] rest e f = absurd f.2
plus_found b bytes (segment ∷ segments) rest e f = (43 ∷ f.0, (λ z. e z ∷ f.1 z), (f.0, refl, f.2))

no_local : (bytes : List ℕ) (segments : List Segment) (rest : List ℕ) → good {A = List Segment × List ℕ} ([], bytes) ≡ Ok (segments, rest) → LocalFound bytes segments rest
no_local bytes segments rest e =
    let k : ([], bytes) ≡ (segments, rest) = ap (value_or (segments, rest)) e in
    subst (λ p. LocalFound bytes p.0 p.1) k ([], refl, refl)

local_test : (b : ℕ) (bytes : List ℕ) (segments : List Segment) (rest : List ℕ) (t : Bool) → (b == 43) ≡ t → (if t then segments_at (length bytes) bytes else Ok ([], b ∷ bytes)) ≡ Ok (segments, rest) → LocalFound (b ∷ bytes) segments rest
local_test b bytes segments rest true t e = plus_found b bytes segments rest (this_byte b 43 t) (segments_found (length bytes) bytes segments rest e)
local_test b bytes segments rest false t e = no_local (b ∷ bytes) segments rest e

pub local_found : (bytes : List ℕ) (segments : List Segment) (rest : List ℕ) → local_at bytes ≡ Ok (segments, rest) → LocalFound bytes segments rest
unfolding local_at
local_found [] segments rest e = no_local [] segments rest e
local_found (b ∷ bytes) segments rest e = local_test b bytes segments rest (b == 43) refl e

white_ends : (b : ℕ) → is_ascii_whitespace b ≡ true → (is_ascii_alphanumeric b ≡ false) × (is_separator b ≡ false)
white_ends b e = (grind (arith, nat_tests), grind (arith, nat_tests))

white_ended : (white : List ℕ) → AreWhite white → Ended white
white_ended [] h = tt
white_ended (b ∷ bs) h = white_ends b h.0

white_no_plus : (b : ℕ) → is_ascii_whitespace b ≡ true → (b == 43) ≡ false
white_no_plus b e = grind (arith, nat_tests)

white_no_local : (white : List ℕ) → AreWhite white → local_by white ≡ Ok ([], white)
white_no_local [] h = refl
white_no_local (b ∷ bs) h = ap (λ t. if t then segments_at (length bs) bs else Ok ([], b ∷ bs)) (white_no_plus b h.0)

pub local_again : (local : List ℕ) (segments : List Segment) (white : List ℕ) → IsLocalOrNone local segments → AreWhite white → local_at (local ++ white) ≡ Ok (segments, white)
unfolding local_at
local_again local [] white i h = ap (λ t. local_by (t ++ white)) i ∙ white_no_local white h
local_again local (segment ∷ segments) white i h =
    ap (λ t. local_by (t ++ white)) i.1
    ∙ segments_again (length (i.0 ++ white)) i.0 (segment ∷ segments) white (omega (arith, length-append i.0 white)) i.2 (white_ended white h)
