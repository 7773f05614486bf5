-- Characters that are cut off at the front, before the first that passes a test.
use Rattle.std.proofs.Common.{◌≡◌, ℕ, zero, suc, ◌+◌, ◌<◌, ◌==◌, Bool, true, false, not, cond, List}
use Rattle.std.proofs.Common.{if◌then◌else◌, [], ◌∷◌, ◌++◌, length, take, drop, get_or, All, Some, None, refl}
use Rattle.std.proofs.Common.{ap}
use Rattle.std.proofs.Common.{sym, ◌∙◌, arith, length-append}
use Rattle.std.specs.Prelude.{nat_lt, encode_utf8_all}
use Rattle.std.proofs.Math.Seq.{take-append_seam}
use Rattle.std.proofs.lemmas.Bool.Decides.{nat_tests}
use Rattle.std.proofs.lemmas.List.{append-nil}
use Rattle.std.proofs.lemmas.List.Prefix.{front_rest}
use Rattle.std.proofs.lemmas.Option.{same_Some}
use Rattle.std.specs.List.{AllByRecursion, position_or_len}
use Rattle.pep508_error.specs.Cuts.{cut_before, encoded_cut, cut_around}
use Rattle.pep508_error.proofs.Tests.{itself, the_same}

pub behind_front : (P : ℕ → Type 0) (front rest : List ℕ) → AllByRecursion P (front ++ rest)
    → AllByRecursion P rest
behind_front P [] rest h = h
behind_front P (c ∷ cs) rest h = behind_front P cs rest h.1

-- no character passes
abbrev pub NonePasses : (ℕ → Bool) → List ℕ → Type 0
NonePasses test = AllByRecursion (λ c. test c ≡ false)

pub none_joined : (test : ℕ → Bool) (front rest : List ℕ) → NonePasses test front → NonePasses test rest
    → NonePasses test (front ++ rest)
none_joined test [] rest h k = k
none_joined test (c ∷ cs) rest h k = (h.0, none_joined test cs rest h.1 k)

-- a character that passes stands first, or none is left
abbrev pub Ends : (ℕ → Bool) → List ℕ → Type 0
Ends test [] = Unit {0}
Ends test (c ∷ cs) = test c ≡ true

ends_here : (test : ℕ → Bool) (rest : List ℕ) → Ends test rest → position_or_len test rest ≡ 0
ends_here test [] h = refl
ends_here test (c ∷ cs) h = ap (λ t. cond (not t) (1 + position_or_len test cs) 0) h

pub place_again : (test : ℕ → Bool) (front rest : List ℕ) → NonePasses test front → Ends test rest
    → position_or_len test (front ++ rest) ≡ length front
place_again test [] rest h k = ends_here test rest k
place_again test (c ∷ cs) rest h k =
    let e = place_again test cs rest h.1 k in
    ap (λ t. cond (not t) (1 + position_or_len test (cs ++ rest)) 0) h.0
    ∙ (let s : 1 + position_or_len test (cs ++ rest) ≡ length (c ∷ cs) = omega (arith, e) in s)

pub cut_again : (test : ℕ → Bool) (front rest : List ℕ) → NonePasses test front → Ends test rest
    → cut_before test (front ++ rest) ≡ (front, rest)
cut_again test front rest h k =
    ap (λ i. (take i (front ++ rest), drop i (front ++ rest))) (place_again test front rest h k)
    ∙ ap (λ cs. (cs, drop (length front) (front ++ rest))) (take-append_seam front rest)
    ∙ ap (λ cs. (front, cs)) (front_rest (front ++ rest) front rest refl)

pub record Cut (test : ℕ → Bool) (cs : List ℕ) : Type 0 where
  pub front : List ℕ
  pub rest : List ℕ
  pub split : cs ≡ front ++ rest
  pub passes : NonePasses test front
  pub ends : Ends test rest

cut_by : (test : ℕ → Bool) (c : ℕ) (cs : List ℕ) (t : Bool) → test c ≡ t → Cut test cs → Cut test (c ∷ cs)
cut_by test c cs true e k = record { front = []; rest = c ∷ cs; split = refl; passes = tt; ends = e }
cut_by test c cs false e k = record {
  front = c ∷ k.front;
  rest = k.rest;
  split = ap (λ ds. c ∷ ds) k.split;
  passes = (e, k.passes);
  ends = k.ends;
}

pub cut_found : (test : ℕ → Bool) (cs : List ℕ) → Cut test cs
cut_found test [] = record { front = []; rest = []; split = refl; passes = tt; ends = tt }
cut_found test (c ∷ cs) = cut_by test c cs (test c) refl (cut_found test cs)

pub cut_is : (test : ℕ → Bool) (cs : List ℕ) (k : Cut test cs)
    → cut_before test cs ≡ (k.front, k.rest)
cut_is test cs k = ap (cut_before test) k.split ∙ cut_again test k.front k.rest k.passes k.ends

abbrev encoded : List ℕ × List ℕ → List ℕ × List ℕ
encoded parts = (encode_utf8_all parts.0, parts.1)

pub encoded_again : (test : ℕ → Bool) (front rest : List ℕ) → NonePasses test front → Ends test rest
    → encoded_cut test (front ++ rest) ≡ (encode_utf8_all front, rest)
encoded_again test front rest h k = ap encoded (cut_again test front rest h k)

pub encoded_is : (test : ℕ → Bool) (cs : List ℕ) (k : Cut test cs)
    → encoded_cut test cs ≡ (encode_utf8_all k.front, k.rest)
encoded_is test cs k = ap encoded (cut_is test cs k)

-- ---- cuts around a character

behind_one : (xs : List ℕ) (y : ℕ) (ys : List ℕ) → drop (length xs + 1) (xs ++ y ∷ ys) ≡ ys
behind_one [] y ys = refl
behind_one (x ∷ xs) y ys =
    (let e : length (x ∷ xs) + 1 ≡ suc (length xs + 1) = omega arith in ap (λ n. drop n (x ∷ (xs ++ y ∷ ys))) e
    ∙ behind_one xs y ys)

within : (n m : ℕ) → n < m → nat_lt n m ≡ true
within n m h = grind (arith, nat_tests)

not_within : (n : ℕ) → nat_lt n n ≡ false
not_within n = grind (arith, nat_tests)

pub around_again : (c : ℕ) (front rest : List ℕ) → NonePasses (λ d. d == c) front
    → cut_around c (front ++ c ∷ rest) ≡ Some (encode_utf8_all front, rest)
around_again c front rest h =
    let cs : List ℕ = front ++ c ∷ rest in
    let place : position_or_len (λ d. d == c) cs ≡ length front = place_again (λ d. d == c) front (c ∷ rest) h (itself c) in
    let long = length-append front (c ∷ rest) in
    let inside : nat_lt (length front) (length cs) ≡ true = within (length front) (length cs) (omega (arith, long)) in
    ap (λ i. if nat_lt i (length cs) then Some (encode_utf8_all (take i cs), drop (i + 1) cs) else None) place
    ∙ ap (λ t. if t then Some (encode_utf8_all (take (length front) cs), drop (length front + 1) cs) else None) inside
    ∙ ap (λ xs. Some (encode_utf8_all xs, drop (length front + 1) cs)) (take-append_seam front (c ∷ rest))
    ∙ ap (λ xs. Some (encode_utf8_all front, xs)) (behind_one front c rest)

around_none : (c : ℕ) (front : List ℕ) → NonePasses (λ d. d == c) front → cut_around c front ≡ None
around_none c front h =
    let place : position_or_len (λ d. d == c) front ≡ length front =
    ap (position_or_len (λ d. d == c)) (sym (append-nil front)) ∙ place_again (λ d. d == c) front [] h tt in
    ap (λ i. if nat_lt i (length front) then Some (encode_utf8_all (take i front), drop (i + 1) front) else None) place
    ∙ ap (λ t. if t then Some (encode_utf8_all (take (length front) front), drop (length front + 1) front) else None)
    (not_within (length front))

pub record CutAround (c : ℕ) (cs : List ℕ) (parts : List ℕ × List ℕ) : Type 0 where
  pub front : List ℕ
  pub split : cs ≡ front ++ c ∷ parts.1
  pub passes : NonePasses (λ d. d == c) front
  pub encoded : parts.0 ≡ encode_utf8_all front

around_by : (c : ℕ) (cs front rest : List ℕ) (parts : List ℕ × List ℕ) → cs ≡ front ++ rest
    → NonePasses (λ d. d == c) front
    → Ends (λ d. d == c) rest → cut_around c cs ≡ Some parts → CutAround c cs parts
around_by c cs front [] parts e n k h =
    let none : cut_around c cs ≡ None = ap (cut_around c) (e ∙ append-nil front) ∙ around_none c front n in
    absurd (cc)
around_by c cs front (d ∷ rest) parts e n k h =
    let split : cs ≡ front ++ c ∷ rest = e ∙ ap (λ x. front ++ x ∷ rest) (the_same d c k) in
    let made : List ℕ × List ℕ = (encode_utf8_all front, rest) in
    let same : made ≡ parts = same_Some made parts (sym (ap (cut_around c) split ∙ around_again c front rest n) ∙ h) in
    record {
      front = front;
      split = split ∙ ap (λ (p : List ℕ × List ℕ). front ++ c ∷ p.1) same;
      passes = n;
      encoded = ap (λ (p : List ℕ × List ℕ). p.0) (sym same);
    }

pub around_found : (c : ℕ) (cs : List ℕ) (parts : List ℕ × List ℕ) → cut_around c cs ≡ Some parts
    → CutAround c cs parts
around_found c cs parts h =
    let k = cut_found (λ d. d == c) cs in around_by c cs k.front k.rest parts k.split k.passes k.ends h

-- ---- place by place

pub by_places : (xs : List ℕ) (test : ℕ → Bool) → ((k : ℕ) → k < length xs → test (get_or xs k 0) ≡ false)
    → NonePasses test xs
by_places [] test h = tt
by_places (x ∷ xs) test h = (h zero (omega arith), by_places xs test (λ k l. h (suc k) (omega arith)))

at_place : (test : ℕ → Bool) (xs : List ℕ) → NonePasses test xs → (k d : ℕ) → k < length xs
    → test (get_or xs k d) ≡ false
at_place test [] h k d within = absurd (omega arith)
at_place test (x ∷ xs) h zero d within = h.0
at_place test (x ∷ xs) h (suc k) d within = at_place test xs h.1 k d (omega arith)

pub at_places : (test : ℕ → Bool) (xs : List ℕ) → NonePasses test xs → All (λ c. test c ≡ false) xs
at_places test xs h = λ k d within. at_place test xs h k d within

pub from_places : (test : ℕ → Bool) (xs : List ℕ) → All (λ c. test c ≡ false) xs → NonePasses test xs
from_places test xs h = by_places xs test (λ k within. h k 0 within)
