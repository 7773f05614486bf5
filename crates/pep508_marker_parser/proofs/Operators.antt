-- The operator of a comparison is read as the grammar has it.
use Rattle.std.proofs.Common.{◌≡◌, ◌⊎◌, ℕ, ◌+◌, ◌<◌, ◌==◌, ◌||◌, arith, length-append, lit<, eqb, Bool, true}
use Rattle.std.proofs.Common.{false}
use Rattle.std.proofs.Common.{if◌then◌else◌, List, [], ◌∷◌, ◌++◌, length, drop, codes, IsTrue, All}
use Rattle.std.proofs.Common.{Some, None, Ok, Err, inl, inr, refl, ap, sym, subst, ◌∙◌, append_assoc}
use Rattle.std.specs.Prelude.{Option, encode_utf8_all}
use Rattle.std.proofs.lemmas.Bool.Decides.{nat_tests}
use Rattle.std.proofs.lemmas.Slice.Eq.{bytes_eq-Decides, starts_is}
use Rattle.std.proofs.lemmas.Str.{encode_ascii, encodes_same}
use Rattle.std.specs.Bool.{Decides}
use Rattle.std.specs.Char.{is_whitespace, is_ascii_alphabetic}
use Rattle.std.specs.List.{AllByRecursion, starts_with}
use Rattle.std.specs.Str.{bytes_eq, chars, skip_leading_whitespace, trim_start}
use Rattle.pep440_specifier.specs.SpecifierText.{AreSpaces}
use Rattle.pep508_marker.specs.declared.operators.MarkerOperator.{MarkerOperator}
use Rattle.pep508_marker.specs.declared.operators.MarkerOperator.TheVariants.{NotIn}
use Rattle.pep508_marker.specs.Operators.{marker_operator_of, is_not_in}
use Rattle.pep508_marker.specs.Operators as texts
use Rattle.pep508_comparison_parser.specs.SideReading.{Reading, Malformed, ends_word, ends_signs}
use Rattle.pep508_error.specs.Cuts.{begins_by, cut_before}
use Rattle.pep508_comparison_parser.specs.SideReading.{in_at, behind_not, if_operator, operator_in}
use Rattle.pep508_comparison_parser.specs.SideReading.{operator_at}
use Rattle.pep508_marker_parser.specs.MarkerText.{IsBefore, IsNotIn, IsOperatorText}
use Rattle.pep508_error.proofs.Tests.{the_same, or_cases, not_false}
use Rattle.pep508_error.proofs.Spaces.{Unspaced, spaces_found, spaces_again}
use Rattle.pep508_error.proofs.Cuts.{NonePasses, Ends, cut_again, cut_found, cut_is, at_places, from_places}
use Rattle.pep508_marker_parser.proofs.Ends.{ends_before, before_ends}
use Rattle.pep508_error.proofs.Steps.{ok_same}

-- ---- `in` behind `not`

same_number : (a b : ℕ) → Decides (eqb a b) (a ≡ b)
same_number a b = ((λ h. grind (arith, nat_tests)), (λ h. grind (arith, nat_tests)))

starts_in : (cs : List ℕ) → starts_with eqb cs (codes "in") ≡ true → cs ≡ codes "in" ++ drop 2 cs
starts_in cs h = (starts_is same_number cs (codes "in") (starts_with eqb cs (codes "in")) refl).0 h

record InFound (cs : List ℕ) (found : MarkerOperator × List ℕ) : Type 0 where
  split : cs ≡ codes "in" ++ found.1
  negated : found.0 ≡ NotIn

in_by : (cs : List ℕ) (found : MarkerOperator × List ℕ) (t : Bool) → starts_with eqb cs (codes "in") ≡ t
    → (if t then Ok (NotIn, drop 2 cs) else Err Malformed) ≡ Ok found → InFound cs found
in_by cs found false e h = absurd (cc)
in_by cs found true e h =
    let made : MarkerOperator × List ℕ = (NotIn, drop 2 cs) in
    let same : made ≡ found = ok_same made found h in
    record {
      split = starts_in cs e ∙ ap (λ (p : MarkerOperator × List ℕ). codes "in" ++ p.1) same;
      negated = ap (λ (p : MarkerOperator × List ℕ). p.0) (sym same);
    }

record BehindNot (rest : List ℕ) (found : MarkerOperator × List ℕ) : Type 0 where
  spaces : List ℕ
  split : rest ≡ spaces ++ (codes "in" ++ found.1)
  are_spaces : AreSpaces spaces
  some : 0 < length spaces
  negated : found.0 ≡ NotIn

abbrev spaced_in : List ℕ → Bool → Reading MarkerOperator
spaced_in cs t = if t then in_at (skip_leading_whitespace cs) else Err Malformed

behind_by : (c : ℕ) (cs : List ℕ) (found : MarkerOperator × List ℕ) (t : Bool) → is_whitespace c ≡ t
    → spaced_in cs t ≡ Ok found → BehindNot (c ∷ cs) found
behind_by c cs found false e h = absurd (cc)
behind_by c cs found true e h =
    let s = spaces_found cs in
    let left : List ℕ = skip_leading_whitespace cs in
    let w = in_by left found (starts_with eqb left (codes "in")) refl h in
    record {
      spaces = c ∷ s.spaces;
      split = ap (λ ds. c ∷ ds) (s.split ∙ ap (λ ds. s.spaces ++ ds) w.split);
      are_spaces = (e, s.are_spaces);
      some = omega arith;
      negated = w.negated;
    }

behind_found : (rest : List ℕ) (found : MarkerOperator × List ℕ) → behind_not rest ≡ Ok found → BehindNot rest found
behind_found [] found h = absurd (cc)
behind_found (c ∷ cs) found h = behind_by c cs found (is_whitespace c) refl h

-- ---- `not`

pub ascii_same : (text : List ℕ) → AllByRecursion (λ c. c < 128) text → encode_utf8_all text ≡ text
ascii_same [] h = refl
ascii_same (b ∷ bs) h = ap (λ e. e ++ encode_utf8_all bs) (encode_ascii b h.0) ∙ ap (λ e. b ∷ e) (ascii_same bs h.1)

own_not : encode_utf8_all (codes "not") ≡ codes "not"
own_not = ascii_same (codes "not") (lit< tt, (lit< tt, (lit< tt, tt)))

is_word_not : (front : List ℕ) → bytes_eq (encode_utf8_all front) (codes "not") ≡ true → front ≡ codes "not"
is_word_not front h =
    encodes_same front (codes "not") ((bytes_eq-Decides (encode_utf8_all front) (codes "not")).0 h ∙ sym own_not)

not_in_found : (cs front rest : List ℕ) (found : MarkerOperator × List ℕ) → cs ≡ front ++ rest
    → bytes_eq (encode_utf8_all front) (codes "not") ≡ true → behind_not rest ≡ Ok found → IsNotIn cs found.0 found.1
not_in_found cs front rest found e b h =
    let f = behind_found rest found h in
    record {
      spaces = f.spaces;
      split = e ∙ ap (λ ds. ds ++ rest) (is_word_not front b) ∙ ap (λ ds. codes "not" ++ ds) f.split;
      are_spaces = f.are_spaces;
      some = f.some;
      negated = f.negated;
    }

-- ---- operators of one run

abbrev IsRun : List ℕ → List ℕ → Type 0
IsRun written rest =
    (IsTrue (begins_by is_ascii_alphabetic written) × All (λ c. ends_word c ≡ false) written × IsBefore ends_word rest)
    ⊎ ((begins_by is_ascii_alphabetic written ≡ false) × All (λ c. ends_signs c ≡ false) written
    × IsBefore ends_signs rest)

no_operator : marker_operator_of [] ≡ None
unfolding marker_operator_of is_not_in texts.behind_not
no_operator = refl

not_no_operator : marker_operator_of (codes "not") ≡ None
unfolding marker_operator_of is_not_in texts.behind_not chars trim_start
not_no_operator = refl

if_operator_found : (read : Option MarkerOperator) (rest : List ℕ) (found : MarkerOperator × List ℕ)
    → if_operator read rest ≡ Ok found → (read ≡ Some found.0) × (rest ≡ found.1)
if_operator_found None rest found h = absurd (cc)
if_operator_found (Some operator) rest found h =
    let made : MarkerOperator × List ℕ = (operator, rest) in
    let same : made ≡ found = ok_same made found h in
    (ap (λ (p : MarkerOperator × List ℕ). Some p.0) same, ap (λ (p : MarkerOperator × List ℕ). p.1) same)

abbrev operator_if : List ℕ → List ℕ → Bool → Reading MarkerOperator
operator_if front rest t = if t then behind_not rest else if_operator (marker_operator_of (encode_utf8_all front)) rest

in_run : (cs front rest : List ℕ) (found : MarkerOperator × List ℕ) → cs ≡ front ++ rest → IsRun front rest
    → (t : Bool) → bytes_eq (encode_utf8_all front) (codes "not") ≡ t → operator_if front rest t ≡ Ok found
    → IsOperatorText cs found.0 found.1
in_run cs front rest found e run true b h = inr (not_in_found cs front rest found e b h)
in_run cs front rest found e run false b h =
    let f = if_operator_found (marker_operator_of (encode_utf8_all front)) rest found h in
    inl (record {
      written = front;
      split = e ∙ ap (λ ds. front ++ ds) f.1;
      run = subst (IsRun front) f.1 run;
      is_operator = f.0;
    })

letters_found : (c : ℕ) (cs front rest : List ℕ) (found : MarkerOperator × List ℕ) → is_ascii_alphabetic c ≡ true
    → c ∷ cs ≡ front ++ rest → NonePasses ends_word front → Ends ends_word rest
    → operator_in (front, rest) ≡ Ok found → IsOperatorText (c ∷ cs) found.0 found.1
letters_found c cs [] rest found a e n k h =
    let err : operator_in ([], rest) ≡ Err Malformed = ap (λ o. if_operator o rest) no_operator in absurd (cc)
letters_found c cs (d ∷ ws) rest found a e n k h =
    let same : d ≡ c = cc in
    in_run (c ∷ cs) (d ∷ ws) rest found e
    (inl (ap is_ascii_alphabetic same ∙ a, at_places ends_word (d ∷ ws) n, ends_before ends_word rest k))
    (bytes_eq (encode_utf8_all (d ∷ ws)) (codes "not")) refl h

signs_found : (c : ℕ) (cs front rest : List ℕ) (found : MarkerOperator × List ℕ) → is_ascii_alphabetic c ≡ false
    → c ∷ cs ≡ front ++ rest → NonePasses ends_signs front → Ends ends_signs rest
    → operator_in (front, rest) ≡ Ok found → IsOperatorText (c ∷ cs) found.0 found.1
signs_found c cs [] rest found a e n k h =
    let err : operator_in ([], rest) ≡ Err Malformed = ap (λ o. if_operator o rest) no_operator in absurd (cc)
signs_found c cs (d ∷ ws) rest found a e n k h =
    let same : d ≡ c = cc in
    in_run (c ∷ cs) (d ∷ ws) rest found e
    (inr (ap is_ascii_alphabetic same ∙ a, at_places ends_signs (d ∷ ws) n, ends_before ends_signs rest k))
    (bytes_eq (encode_utf8_all (d ∷ ws)) (codes "not")) refl h

abbrev run_if : ℕ → List ℕ → Bool → Reading MarkerOperator
run_if c cs t = if t then operator_in (cut_before ends_word (c ∷ cs)) else operator_in (cut_before ends_signs (c ∷ cs))

operator_by : (c : ℕ) (cs : List ℕ) (found : MarkerOperator × List ℕ) (t : Bool) → is_ascii_alphabetic c ≡ t
    → run_if c cs t ≡ Ok found → IsOperatorText (c ∷ cs) found.0 found.1
operator_by c cs found true e h =
    let k = cut_found ends_word (c ∷ cs) in
    letters_found c cs k.front k.rest found e k.split k.passes k.ends
    (sym (ap operator_in (cut_is ends_word (c ∷ cs) k)) ∙ h)
operator_by c cs found false e h =
    let k = cut_found ends_signs (c ∷ cs) in
    signs_found c cs k.front k.rest found e k.split k.passes k.ends
    (sym (ap operator_in (cut_is ends_signs (c ∷ cs) k)) ∙ h)

pub operator_found : (cs : List ℕ) (found : MarkerOperator × List ℕ) → operator_at cs ≡ Ok found
    → IsOperatorText cs found.0 found.1
operator_found [] found h = absurd (cc)
operator_found (c ∷ cs) found h = operator_by c cs found (is_ascii_alphabetic c) refl h

-- ---- what is written is read

in_run_again : (written rest : List ℕ) (operator : MarkerOperator)
    → marker_operator_of (encode_utf8_all written) ≡ Some operator → (t : Bool)
    → bytes_eq (encode_utf8_all written) (codes "not") ≡ t → operator_if written rest t ≡ Ok (operator, rest)
in_run_again written rest operator h false e = ap (λ o. if_operator o rest) h
in_run_again written rest operator h true e =
    let word : encode_utf8_all written ≡ codes "not" = (bytes_eq-Decides (encode_utf8_all written) (codes "not")).0 e in
    let none : marker_operator_of (encode_utf8_all written) ≡ None = ap marker_operator_of word ∙ not_no_operator in
    absurd (cc)

run_again : (written rest : List ℕ) (operator : MarkerOperator) → IsRun written rest
    → marker_operator_of (encode_utf8_all written) ≡ Some operator → operator_at (written ++ rest) ≡ Ok (operator, rest)
run_again [] rest operator run h = (let none = no_operator in absurd (cc))
run_again (c ∷ cs) rest operator (inl run) h =
    ap (run_if c (cs ++ rest)) run.0
    ∙ ap operator_in (cut_again ends_word (c ∷ cs) rest (from_places ends_word (c ∷ cs) run.1) (before_ends ends_word rest run.2))
    ∙ in_run_again (c ∷ cs) rest operator h (bytes_eq (encode_utf8_all (c ∷ cs)) (codes "not")) refl
run_again (c ∷ cs) rest operator (inr run) h =
    ap (run_if c (cs ++ rest)) run.0
    ∙ ap operator_in (cut_again ends_signs (c ∷ cs) rest (from_places ends_signs (c ∷ cs) run.1) (before_ends ends_signs rest run.2))
    ∙ in_run_again (c ∷ cs) rest operator h (bytes_eq (encode_utf8_all (c ∷ cs)) (codes "not")) refl

not_in_again : (spaces rest : List ℕ) → AreSpaces spaces → 0 < length spaces
    → operator_at (codes "not" ++ (spaces ++ (codes "in" ++ rest))) ≡ Ok (NotIn, rest)
not_in_again [] rest h some = absurd (omega arith)
not_in_again (s ∷ ss) rest h some =
    let cs : List ℕ = ss ++ (codes "in" ++ rest) in
    let ends : ends_word s ≡ true = ap (λ t. t || s == 39 || s == 34) h.0 in
    ap operator_in (cut_again ends_word (codes "not") (s ∷ cs) (refl, (refl, (refl, tt))) ends)
    ∙ ap (λ bs. if bytes_eq bs (codes "not") then behind_not (s ∷ cs) else if_operator (marker_operator_of bs) (s ∷ cs)) own_not
    ∙ ap (spaced_in cs) h.0
    ∙ ap in_at (spaces_again ss (codes "in" ++ rest) h.1 refl)

pub operator_again : (cs : List ℕ) (operator : MarkerOperator) (rest : List ℕ) → IsOperatorText cs operator rest
    → operator_at cs ≡ Ok (operator, rest)
operator_again cs operator rest (inl h) = ap operator_at h.split ∙ run_again h.written rest operator h.run h.is_operator
operator_again cs operator rest (inr h) =
    ap operator_at h.split ∙ not_in_again h.spaces rest h.are_spaces h.some ∙ ap (λ o. Ok (o, rest)) (sym h.negated)

-- ---- how an operator begins

letter_unspaced : (c : ℕ) (t : Bool) → is_whitespace c ≡ t → ends_word c ≡ false → t ≡ false
letter_unspaced c false e h = refl
letter_unspaced c true e h = (let yes : ends_word c ≡ true = ap (λ t. t || c == 39 || c == 34) e in absurd (cc))

is_number : (c k : ℕ) → is_whitespace k ≡ false → (c == k) ≡ true → is_whitespace c ≡ false
is_number c k n h = ap is_whitespace (the_same c k h) ∙ n

sign_by : (c : ℕ) → (c == 60 || c == 61 || c == 62 || c == 126 || c == 33) ≡ true → is_whitespace c ≡ false
sign_by c h = elim (or_cases (c == 60 || c == 61 || c == 62 || c == 126) (c == 33) h) [
  | inr e ↦ is_number c 33 refl e
  | inl h ↦ elim (or_cases (c == 60 || c == 61 || c == 62) (c == 126) h) [
    | inr e ↦ is_number c 126 refl e
    | inl h ↦ elim (or_cases (c == 60 || c == 61) (c == 62) h) [
      | inr e ↦ is_number c 62 refl e
      | inl h ↦ elim (or_cases (c == 60) (c == 61) h) [
        | inr e ↦ is_number c 61 refl e
        | inl e ↦ is_number c 60 refl e
      ]
    ]
  ]
]

run_unspaced : (written rest : List ℕ) (operator : MarkerOperator) → IsRun written rest
    → marker_operator_of (encode_utf8_all written) ≡ Some operator → Unspaced (written ++ rest)
run_unspaced [] rest operator run h = (let none = no_operator in absurd (cc))
run_unspaced (c ∷ cs) rest operator (inl run) h =
    letter_unspaced c (is_whitespace c) refl (from_places ends_word (c ∷ cs) run.1).0
run_unspaced (c ∷ cs) rest operator (inr run) h =
    sign_by c (not_false (c == 60 || c == 61 || c == 62 || c == 126 || c == 33) (from_places ends_signs (c ∷ cs) run.1).0)

pub operator_unspaced : (cs : List ℕ) (operator : MarkerOperator) (rest : List ℕ) → IsOperatorText cs operator rest
    → Unspaced cs
operator_unspaced cs operator rest (inl h) =
    ap (begins_by is_whitespace) h.split ∙ run_unspaced h.written rest operator h.run h.is_operator
operator_unspaced cs operator rest (inr h) = ap (begins_by is_whitespace) h.split

run_length : (cs written rest : List ℕ) → cs ≡ written ++ rest → length rest < length cs + 1
run_length cs written rest e =
    let l = length-append written rest in
    let m : length cs ≡ length (written ++ rest) = ap length e in omega (arith, l, m)

pub operator_length : (cs : List ℕ) (operator : MarkerOperator) (rest : List ℕ) → IsOperatorText cs operator rest
    → length rest < length cs + 1
operator_length cs operator rest (inl h) = run_length cs h.written rest h.split
operator_length cs operator rest (inr h) =
    run_length cs (codes "not" ++ (h.spaces ++ codes "in")) rest
    (h.split ∙ ap (λ ds. codes "not" ++ ds) (sym (append_assoc h.spaces (codes "in") rest)))
