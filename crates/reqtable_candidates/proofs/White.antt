-- White space at the ends of a list of characters.
use Rattle.std.proofs.Common.{◌≡◌, ℕ, ◌<◌, ◌==◌, ◌&&◌, Bool, true, false, cond, List, [], ◌∷◌, ◌++◌, length}
use Rattle.std.proofs.Common.{refl, ap, sym, subst, ◌∙◌, length-append, arith}
use Rattle.std.proofs.lemmas.Bool.Decides.{nat_tests}
use Rattle.std.specs.Char.{is_whitespace}
use Rattle.std.specs.Str.{skip_leading_whitespace, drop_trailing_whitespace}
use Rattle.reqtable_candidates.specs.CandidateText.{AreWhite}

-- ---- at the front

-- no white space stands first
abbrev pub BeginsBlack : List ℕ → Type 0
BeginsBlack [] = Unit {0}
BeginsBlack (c ∷ cs) = is_whitespace c ≡ false

pub skip_white : (white rest : List ℕ) → AreWhite white
    → skip_leading_whitespace (white ++ rest) ≡ skip_leading_whitespace rest
skip_white [] rest h = refl
skip_white (c ∷ cs) rest h =
    ap (λ t. cond t (skip_leading_whitespace (cs ++ rest)) (c ∷ (cs ++ rest))) h.0 ∙ skip_white cs rest h.1

pub skip_black : (cs : List ℕ) → BeginsBlack cs → skip_leading_whitespace cs ≡ cs
skip_black [] h = refl
skip_black (c ∷ cs) h = ap (λ t. cond t (skip_leading_whitespace cs) (c ∷ cs)) h

-- white space, and what follows it
abbrev pub Leads : List ℕ → List ℕ → Type 0
Leads cs rest = (front : List ℕ) × (cs ≡ front ++ rest) × AreWhite front × BeginsBlack rest

led_by : (c : ℕ) (cs rest : List ℕ) (t : Bool) → is_whitespace c ≡ t → Leads cs rest → Leads (c ∷ cs) (cond t rest (c ∷ cs))
led_by c cs rest true e h = (c ∷ h.0, ap (λ ds. c ∷ ds) h.1, (e, h.2), h.3)
led_by c cs rest false e h = ([], refl, tt, e)

pub led : (cs : List ℕ) → Leads cs (skip_leading_whitespace cs)
led [] = ([], refl, tt, tt)
led (c ∷ cs) = led_by c cs (skip_leading_whitespace cs) (is_whitespace c) refl (led cs)

-- ---- at the end

some_length : (c : ℕ) (cs : List ℕ) → (length (c ∷ cs) == 0) ≡ false
some_length c cs = let n : 0 < length (c ∷ cs) = omega arith in grind (arith, nat_tests)

and_false : (b : Bool) → (b && false) ≡ false
and_false true = refl
and_false false = refl

-- what precedes white space, and the white space
abbrev pub Trails : List ℕ → List ℕ → Type 0
Trails cs rest = (back : List ℕ) × (cs ≡ rest ++ back) × AreWhite back

trailed_by : (c : ℕ) (cs rest : List ℕ) (t : Bool) → is_whitespace c ≡ t → Trails cs rest
    → Trails (c ∷ cs) (cond (t && length rest == 0) [] (c ∷ rest))
trailed_by c cs [] true e h = (c ∷ h.0, ap (λ ds. c ∷ ds) h.1, (e, h.2))
trailed_by c cs (d ∷ ds) true e h =
    let P : Bool → Type 0 = λ t. Trails (c ∷ cs) (cond t [] (c ∷ d ∷ ds)) in
    subst P (sym (some_length d ds)) (h.0, ap (λ xs. c ∷ xs) h.1, h.2)
trailed_by c cs rest false e h = (h.0, ap (λ xs. c ∷ xs) h.1, h.2)

pub trailed : (cs : List ℕ) → Trails cs (drop_trailing_whitespace cs)
trailed [] = ([], refl, tt)
trailed (c ∷ cs) = trailed_by c cs (drop_trailing_whitespace cs) (is_whitespace c) refl (trailed cs)

-- a character before what stays of the others
abbrev before_rest : ℕ → List ℕ → List ℕ
before_rest c cs = cond (is_whitespace c && length cs == 0) [] (c ∷ cs)

all_dropped : (white : List ℕ) → AreWhite white → drop_trailing_whitespace white ≡ []
all_dropped [] h = refl
all_dropped (c ∷ cs) h =
    ap (before_rest c) (all_dropped cs h.1) ∙ ap (λ t. cond (t && length {A = ℕ} [] == 0) [] (c ∷ [])) h.0

pub white_dropped : (cs white : List ℕ) → AreWhite white
    → drop_trailing_whitespace (cs ++ white) ≡ drop_trailing_whitespace cs
white_dropped [] white h = all_dropped white h
white_dropped (c ∷ cs) white h = ap (before_rest c) (white_dropped cs white h)

pub bare_stays : (cs bare : List ℕ) → drop_trailing_whitespace bare ≡ bare → 0 < length bare
    → drop_trailing_whitespace (cs ++ bare) ≡ cs ++ bare
bare_stays [] bare e h = e
bare_stays (c ∷ cs) bare e h =
    let n : 0 < length (cs ++ bare) = omega (arith, length-append cs bare) in
    let some : (length (cs ++ bare) == 0) ≡ false = grind (arith, nat_tests) in
    ap (before_rest c) (bare_stays cs bare e h)
    ∙ ap (λ t. cond (is_whitespace c && t) [] (c ∷ (cs ++ bare))) some
    ∙ ap (λ t. cond t [] (c ∷ (cs ++ bare))) (and_false (is_whitespace c))

again_by : (c : ℕ) (cs : List ℕ) (t : Bool) → drop_trailing_whitespace cs ≡ cs → (is_whitespace c && length cs == 0) ≡ t
    → drop_trailing_whitespace (cond t [] (c ∷ cs)) ≡ cond t [] (c ∷ cs)
again_by c cs true e h = refl
again_by c cs false e h = ap (before_rest c) e ∙ ap (λ t. cond t [] (c ∷ cs)) h

pub dropped_again : (cs : List ℕ) → drop_trailing_whitespace (drop_trailing_whitespace cs) ≡ drop_trailing_whitespace cs
dropped_again [] = refl
dropped_again (c ∷ cs) =
    again_by c (drop_trailing_whitespace cs) (is_whitespace c && length (drop_trailing_whitespace cs) == 0)
    (dropped_again cs) refl

end_by : (c : ℕ) (cs rest : List ℕ) (t : Bool) → cond t [] (c ∷ cs) ≡ c ∷ rest → cs ≡ rest
end_by c cs rest true e = absurd (cc)
end_by c cs rest false e = cc

-- the end of what ends in no white space
pub end_is_bare : (cs end : List ℕ) → drop_trailing_whitespace (cs ++ end) ≡ cs ++ end → drop_trailing_whitespace end ≡ end
end_is_bare [] end e = e
end_is_bare (c ∷ cs) end e =
    end_is_bare cs end
    (end_by c (drop_trailing_whitespace (cs ++ end)) (cs ++ end)
    (is_whitespace c && length (drop_trailing_whitespace (cs ++ end)) == 0) e)

-- white space does not end what ends in no white space
pub ends_in_none : (cs white : List ℕ) → 0 < length white → AreWhite white
    → drop_trailing_whitespace (cs ++ white) ≡ cs ++ white → ⊥
ends_in_none cs white n h e =
    let t = trailed cs in
    let l : length cs ≡ length (drop_trailing_whitespace cs ++ t.0) = ap length t.1 in
    let k : length (drop_trailing_whitespace cs) ≡ length (cs ++ white) = ap length (sym (white_dropped cs white h) ∙ e) in
    omega (arith, length-append (drop_trailing_whitespace cs) t.0, length-append cs white)

pub still_black : (cs : List ℕ) → BeginsBlack cs → BeginsBlack (drop_trailing_whitespace cs)
still_black [] h = tt
still_black (c ∷ cs) h =
    let P : Bool → Type 0 = λ t. BeginsBlack (cond (t && length (drop_trailing_whitespace cs) == 0) [] (c ∷ drop_trailing_whitespace cs)) in
    subst P (sym h) h
