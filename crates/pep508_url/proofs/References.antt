-- What expansion does with the leftmost reference to a known variable.
use Rattle.std.proofs.Common.{◌≡◌, ◌≢◌, ℕ, suc, ◌+◌, ◌<◌, nat_lt, not, ◌&&◌, Bool, true, false, cond}
use Rattle.std.proofs.Common.{if◌then◌else◌, eqb, List, [], ◌∷◌, ◌++◌, length, take, drop, Option, Some, None}
use Rattle.std.proofs.Common.{inl, inr, refl, ap, ap₂, sym, subst, ◌∙◌, arith}
use Rattle.std.specs.Prelude.{flat_map, codes, option_and_then, option_map}
use Rattle.std.specs.List.{slice_split, onto_first, position_or_len, list_all, starts_with}
use Rattle.std.proofs.lemmas.Bool.Decides.{nat_tests}
use Rattle.std.proofs.lemmas.List.Splits.{slice_split-cons_no, slice_split-cons_yes}
use Rattle.pep508_url.specs.Cuts.{behind, cut}
use Rattle.pep508_url.specs.Vars.{Variables, value_of}
use Rattle.pep508_url.specs.Expansion.{is_variable_byte, is_variable_name, with_value, reference, replaced}
use Rattle.pep508_url.specs.Expansion.{behind_dollar, expanded_parts, expanded, reference_text, IsKnown}
use Rattle.pep508_url.specs.Expansion.{LacksReference}
use Rattle.pep508_url.proofs.CutTexts.{cut_by}
use Rattle.pep508_url.proofs.Expansion.{two, some_same}
use Rattle.pep508_url.proofs.UrlLaws.{cut_whole, first_of_parts, same_number, nothing_behind, no_brace}
use Rattle.pep508_url.proofs.UrlLaws.{split_some, onto_parts}

abbrev parts_of : List ℕ → List (List ℕ)
parts_of text = slice_split (λ b. eqb b 36) text

-- ---- a reference that is read

-- the parts of a reference's text
record IsRead (vars : Variables) (part : List ℕ) (found : List ℕ × List ℕ) : Type 0 where
  name : List ℕ
  known : IsKnown vars name found.0
  is : part ≡ 123 ∷ (name ++ 125 ∷ found.1)

brace_or_not : (c : ℕ) → eqb c 123 ≡ false → c ≢ 123
brace_or_not c h e = grind (arith, nat_tests)

behind_brace : (cs : List ℕ) → behind (codes "{") (123 ∷ cs) ≡ Some cs
unfolding behind
behind_brace cs = refl

brace_first : (part rest : List ℕ) → behind (codes "{") part ≡ Some rest → part ≡ 123 ∷ rest
brace_first [] rest h = absurd (cc (sym nothing_behind ∙ h))
brace_first (c ∷ cs) rest h = elim (two (eqb c 123)) [
  | inl brace ↦
      let is = same_number c 123 brace in
      ap (λ x. x ∷ cs) is
      ∙ ap (λ xs. 123 ∷ xs)
      (some_same cs rest (sym (behind_brace cs) ∙ sym (ap (λ x. behind (codes "{") (x ∷ cs)) is) ∙ h))
  | inr other ↦ absurd (cc (sym (no_brace c cs (brace_or_not c other)) ∙ h))
]

mapped_some : (value : Option (List ℕ)) (rest : List ℕ) (found : List ℕ × List ℕ)
    → option_map (λ v. (v, rest)) value ≡ Some found → (value ≡ Some found.0) × (rest ≡ found.1)
mapped_some None rest found h = absurd (cc)
mapped_some (Some v) rest found h =
    let same = some_same (v, rest) found h in
    (ap (λ (p : List ℕ × List ℕ). Some p.0) same, ap (λ (p : List ℕ × List ℕ). p.1) same)

valued : (vars : Variables) (parts found : List ℕ × List ℕ) → with_value vars parts ≡ Some found
    → IsKnown vars parts.0 found.0 × (parts.1 ≡ found.1)
valued vars parts found h = elim (two (is_variable_name parts.0)) [
  | inl named ↦
      let both = mapped_some (value_of vars parts.0) parts.1 found
      (sym (ap (λ t. if t then option_map (λ value. (value, parts.1)) (value_of vars parts.0) else None) named) ∙ h) in
      ((named, both.0), both.1)
  | inr unnamed ↦ absurd (cc (sym (ap (λ t. if t then option_map (λ value. (value, parts.1)) (value_of vars parts.0) else None) unnamed) ∙ h))
]

cut_read : (vars : Variables) (rest : List ℕ) (parts : Option (List ℕ × List ℕ)) (found : List ℕ × List ℕ)
    → cut 125 rest ≡ parts → option_and_then (with_value vars) parts ≡ Some found → IsRead vars (123 ∷ rest) found
cut_read vars rest None found e h = absurd (cc)
cut_read vars rest (Some parts) found e h =
    let value = valued vars parts found h in
    record {
      name = parts.0;
      known = value.0;
      is = ap (λ xs. 123 ∷ xs) (cut_whole 125 rest parts e) ∙ ap (λ xs. 123 ∷ (parts.0 ++ 125 ∷ xs)) value.1;
    }

opened_read : (vars : Variables) (part : List ℕ) (rest : Option (List ℕ)) (found : List ℕ × List ℕ)
    → behind (codes "{") part ≡ rest → option_and_then (with_value vars) (option_and_then (cut 125) rest) ≡ Some found
    → IsRead vars part found
opened_read vars part None found e h = absurd (cc)
opened_read vars part (Some rest) found e h =
    subst (λ p. IsRead vars p found) (sym (brace_first part rest e)) (cut_read vars rest (cut 125 rest) found refl h)

reference_read : (vars : Variables) (part : List ℕ) (found : List ℕ × List ℕ) → reference vars part ≡ Some found
    → IsRead vars part found
unfolding reference
reference_read vars part found h = opened_read vars part (behind (codes "{") part) found refl h

-- ---- a text in which none stands

first_front : (bs : List ℕ) → (rest : List ℕ) × (bs ≡ first_of_parts (parts_of bs) ++ rest)
first_front [] = ([], refl)
first_front (c ∷ cs) = elim (two (eqb c 36)) [
  | inl dollar ↦ (
    c ∷ cs,
    ap (λ parts. first_of_parts parts ++ c ∷ cs) (sym (slice_split-cons_yes (λ b. eqb b 36) c cs dollar)),
  )
  | inr other ↦
      let more = first_front cs in (
        more.0,
        ap (λ xs. c ∷ xs) more.1 ∙ onto_front c (parts_of cs) more.0 (split_some cs)
            ∙ ap (λ parts. first_of_parts parts ++ more.0) (sym (slice_split-cons_no (λ b. eqb b 36) c cs other)),
      )
]
  where
    onto_front : (c : ℕ) (parts : List (List ℕ)) (rest : List ℕ) → parts ≢ []
        → c ∷ (first_of_parts parts ++ rest) ≡ first_of_parts (onto_first c parts) ++ rest
    onto_front c [] rest some = absurd (some refl)
    onto_front c (part ∷ parts) rest some = refl

append_assoc : (xs ys zs : List ℕ) → (xs ++ ys) ++ zs ≡ xs ++ (ys ++ zs)
append_assoc [] ys zs = refl
append_assoc (x ∷ xs) ys zs = ap (λ ws. x ∷ ws) (append_assoc xs ys zs)

-- the part behind a `$` is no reference
none_read : (vars : Variables) (bs : List ℕ) → LacksReference vars (36 ∷ bs) → (found : Option (List ℕ × List ℕ))
    → reference vars (first_of_parts (parts_of bs)) ≡ found → found ≡ None
none_read vars bs lacks None e = refl
none_read vars bs lacks (Some found) e =
    let read = reference_read vars (first_of_parts (parts_of bs)) found e in
    let front = first_front bs in
    absurd (lacks [] read.name found.0 (found.1 ++ front.0) read.known
    (ap (λ xs. 36 ∷ xs) (front.1 ∙ ap (λ xs. xs ++ front.0) read.is)
    ∙ ap (λ xs. 36 ∷ 123 ∷ xs) (append_assoc read.name (125 ∷ found.1) front.0 ∙ sym (append_assoc read.name (125 ∷ []) (found.1 ++ front.0)))))

unread : (vars : Variables) (bs : List ℕ) → LacksReference vars (36 ∷ bs)
    → reference vars (first_of_parts (parts_of bs)) ≡ None
unread vars bs lacks =
    none_read vars bs lacks (reference vars (first_of_parts (parts_of bs))) refl

lacks_behind : (vars : Variables) (b : ℕ) (bs : List ℕ) → LacksReference vars (b ∷ bs) → LacksReference vars bs
lacks_behind vars b bs lacks front name value back known e =
    lacks (b ∷ front) name value back known (ap (λ xs. b ∷ xs) e)

dollar_kept : (vars : Variables) (part : List ℕ) → reference vars part ≡ None → behind_dollar vars part ≡ 36 ∷ part
unfolding behind_dollar
dollar_kept vars part h = ap (replaced part) h

first_kept : (vars : Variables) (parts : List (List ℕ)) → parts ≢ [] → reference vars (first_of_parts parts) ≡ None
    → expanded_parts vars ([] ∷ parts) ≡ 36 ∷ expanded_parts vars parts
first_kept vars [] some none = absurd (some refl)
first_kept vars (part ∷ parts) some none =
    ap (λ xs. xs ++ flat_map (behind_dollar vars) parts) (dollar_kept vars part none)

stays : (vars : Variables) (bs : List ℕ) → LacksReference vars bs → expanded_parts vars (parts_of bs) ≡ bs
stays vars [] lacks = refl
stays vars (b ∷ bs) lacks = elim (two (eqb b 36)) [
  | inl dollar ↦
      let is = same_number b 36 dollar in
      let same : LacksReference vars (36 ∷ bs) = subst (λ (x : ℕ). LacksReference vars (x ∷ bs)) is lacks in
      ap (expanded_parts vars) (slice_split-cons_yes (λ b. eqb b 36) b bs dollar)
      ∙ first_kept vars (parts_of bs) (split_some bs) (unread vars bs same)
      ∙ ap (λ xs. 36 ∷ xs) (stays vars bs (lacks_behind vars b bs lacks))
      ∙ sym (ap (λ x. x ∷ bs) is)
  | inr other ↦
      ap (expanded_parts vars) (slice_split-cons_no (λ b. eqb b 36) b bs other)
      ∙ onto_parts vars b (parts_of bs) (split_some bs)
      ∙ ap (λ xs. b ∷ xs) (stays vars bs (lacks_behind vars b bs lacks))
]

pub unnamed_stays : (vars : Variables) (text : List ℕ) → LacksReference vars text → expanded vars text ≡ text
unfolding expanded
unnamed_stays vars text lacks = stays vars text lacks

-- ---- the leftmost one

-- where a `$` follows, the first part stays
first_same : (bs tail : List ℕ) → first_of_parts (parts_of (bs ++ 36 ∷ tail)) ≡ first_of_parts (parts_of bs)
first_same [] tail = ap first_of_parts (slice_split-cons_yes (λ b. eqb b 36) 36 tail refl)
first_same (c ∷ cs) tail = elim (two (eqb c 36)) [
  | inl dollar ↦
      ap first_of_parts (slice_split-cons_yes (λ b. eqb b 36) c (cs ++ 36 ∷ tail) dollar)
      ∙ sym (ap first_of_parts (slice_split-cons_yes (λ b. eqb b 36) c cs dollar))
  | inr other ↦
      ap first_of_parts (slice_split-cons_no (λ b. eqb b 36) c (cs ++ 36 ∷ tail) other)
      ∙ first_onto c (parts_of (cs ++ 36 ∷ tail)) (parts_of cs) (split_some (cs ++ 36 ∷ tail)) (split_some cs) (first_same cs tail)
      ∙ sym (ap first_of_parts (slice_split-cons_no (λ b. eqb b 36) c cs other))
]
  where
    first_onto : (c : ℕ) (ps qs : List (List ℕ)) → ps ≢ [] → qs ≢ [] → first_of_parts ps ≡ first_of_parts qs
        → first_of_parts (onto_first c ps) ≡ first_of_parts (onto_first c qs)
    first_onto c [] qs some other e = absurd (some refl)
    first_onto c (p ∷ ps) [] some other e = absurd (other refl)
    first_onto c (p ∷ ps) (q ∷ qs) some other e = ap (λ xs. c ∷ xs) e

front_stays : (vars : Variables) (front tail : List ℕ) → LacksReference vars front
    → expanded_parts vars (parts_of (front ++ 36 ∷ tail)) ≡ front ++ flat_map (behind_dollar vars) (parts_of tail)
front_stays vars [] tail lacks = ap (expanded_parts vars) (slice_split-cons_yes (λ b. eqb b 36) 36 tail refl)
front_stays vars (b ∷ bs) tail lacks = elim (two (eqb b 36)) [
  | inl dollar ↦
      let is = same_number b 36 dollar in
      let same : LacksReference vars (36 ∷ bs) = subst (λ (x : ℕ). LacksReference vars (x ∷ bs)) is lacks in
      ap (expanded_parts vars) (slice_split-cons_yes (λ b. eqb b 36) b (bs ++ 36 ∷ tail) dollar)
      ∙ first_kept vars (parts_of (bs ++ 36 ∷ tail)) (split_some (bs ++ 36 ∷ tail))
      (ap (reference vars) (first_same bs tail) ∙ unread vars bs same)
      ∙ ap (λ xs. 36 ∷ xs) (front_stays vars bs tail (lacks_behind vars b bs lacks))
      ∙ sym (ap (λ x. x ∷ (bs ++ flat_map (behind_dollar vars) (parts_of tail))) is)
  | inr other ↦
      ap (expanded_parts vars) (slice_split-cons_no (λ b. eqb b 36) b (bs ++ 36 ∷ tail) other)
      ∙ onto_parts vars b (parts_of (bs ++ 36 ∷ tail)) (split_some (bs ++ 36 ∷ tail))
      ∙ ap (λ xs. b ∷ xs) (front_stays vars bs tail (lacks_behind vars b bs lacks))
]

-- ---- a reference that is written

both_true : (a b : Bool) → (a && b) ≡ true → (a ≡ true) × (b ≡ true)
both_true true b h = (refl, h)
both_true false b h = absurd (cc)

no_end : (c : ℕ) → is_variable_byte c ≡ true → eqb c 125 ≡ false
no_end c h = grind (arith, nat_tests)

no_dollar : (c : ℕ) → is_variable_byte c ≡ true → eqb c 36 ≡ false
no_dollar c h = grind (arith, nat_tests)

place_of_end : (name back : List ℕ) → list_all is_variable_byte name ≡ true
    → position_or_len (λ b. eqb b 125) (name ++ 125 ∷ back) ≡ length name
place_of_end [] back h = refl
place_of_end (c ∷ cs) back h =
    let both = both_true (is_variable_byte c) (list_all is_variable_byte cs) h in
    let more = place_of_end cs back both.1 in
    ap (λ t. cond (not t) (1 + position_or_len (λ b. eqb b 125) (cs ++ 125 ∷ back)) 0) (no_end c both.0)
    ∙ omega (arith, more)

taken_front : (xs ys : List ℕ) → take (length xs) (xs ++ ys) ≡ xs
taken_front [] ys = refl
taken_front (x ∷ xs) ys = ap (λ zs. x ∷ zs) (taken_front xs ys)

dropped_front : (xs : List ℕ) (y : ℕ) (ys : List ℕ) → drop (length xs + 1) (xs ++ y ∷ ys) ≡ ys
dropped_front [] y ys = refl
dropped_front (x ∷ xs) y ys =
    let e : length (x ∷ xs) + 1 ≡ suc (length xs + 1) = omega arith in
    ap (λ n. drop n (x ∷ (xs ++ y ∷ ys))) e ∙ dropped_front xs y ys

inside_by : (n : ℕ) (xs : List ℕ) (y : ℕ) (ys : List ℕ) → n ≡ length xs → n < length (xs ++ y ∷ ys)
inside_by n xs y ys e = (let l = length_of xs y ys in omega (arith, e, l))
  where
    length_of : (xs : List ℕ) (y : ℕ) (ys : List ℕ) → length (xs ++ y ∷ ys) ≡ length xs + (1 + length ys)
    length_of [] y ys = omega arith
    length_of (x ∷ xs) y ys = (let l = length_of xs y ys in omega (arith, l))

below : (a b : ℕ) → a < b → nat_lt a b ≡ true
below a b h = grind (arith, nat_tests)

cut_name : (name back : List ℕ) → list_all is_variable_byte name ≡ true → cut 125 (name ++ 125 ∷ back) ≡ Some (name, back)
cut_name name back h =
    let text = name ++ 125 ∷ back in
    let place = place_of_end name back h in
    let n = position_or_len (λ b. eqb b 125) text in
    cut_by 125 text true (below n (length text) (inside_by n name 125 back place))
    ∙ ap₂ (λ x y. Some (x, y)) (ap (λ k. take k text) place ∙ taken_front name (125 ∷ back))
    (ap (λ k. drop (k + 1) text) place ∙ dropped_front name 125 back)

name_bytes : (name : List ℕ) → is_variable_name name ≡ true → list_all is_variable_byte name ≡ true
name_bytes name h = (both_true (nat_lt 0 (length name)) (list_all is_variable_byte name) h).1

known_reference : (vars : Variables) (name value back : List ℕ) → IsKnown vars name value
    → reference vars (123 ∷ (name ++ 125 ∷ back)) ≡ Some (value, back)
unfolding reference
known_reference vars name value back known =
    ap (λ rest. option_and_then (with_value vars) (option_and_then (cut 125) rest)) (behind_brace (name ++ 125 ∷ back))
    ∙ ap (option_and_then (with_value vars)) (cut_name name back (name_bytes name known.0))
    ∙ ap (λ t. if t then option_map (λ v. (v, back)) (value_of vars name) else None) known.0
    ∙ ap (option_map (λ v. (v, back))) known.1

known_dollar : (vars : Variables) (name value back : List ℕ) → IsKnown vars name value
    → behind_dollar vars (123 ∷ (name ++ 125 ∷ back)) ≡ value ++ back
unfolding behind_dollar
known_dollar vars name value back known =
    ap (replaced (123 ∷ (name ++ 125 ∷ back))) (known_reference vars name value back known)

-- the parts of a text, with some bytes put before the first
abbrev put_before : List ℕ → List (List ℕ) → List (List ℕ)
put_before xs [] = xs ∷ []
put_before xs (part ∷ parts) = (xs ++ part) ∷ parts

onto_put : (c : ℕ) (xs : List ℕ) (parts : List (List ℕ)) → onto_first c (put_before xs parts) ≡ put_before (c ∷ xs) parts
onto_put c xs [] = refl
onto_put c xs (part ∷ parts) = refl

put_none : (parts : List (List ℕ)) → parts ≢ [] → parts ≡ put_before [] parts
put_none [] some = absurd (some refl)
put_none (part ∷ parts) some = refl

name_parts : (name back : List ℕ) → list_all is_variable_byte name ≡ true
    → parts_of (name ++ 125 ∷ back) ≡ put_before (name ++ 125 ∷ []) (parts_of back)
name_parts [] back h =
    slice_split-cons_no (λ b. eqb b 36) 125 back refl
    ∙ ap (onto_first 125) (put_none (parts_of back) (split_some back)) ∙ onto_put 125 [] (parts_of back)
name_parts (c ∷ cs) back h =
    let both = both_true (is_variable_byte c) (list_all is_variable_byte cs) h in
    slice_split-cons_no (λ b. eqb b 36) c (cs ++ 125 ∷ back) (no_dollar c both.0)
    ∙ ap (onto_first c) (name_parts cs back both.1) ∙ onto_put c (cs ++ 125 ∷ []) (parts_of back)

reference_parts : (name back : List ℕ) → list_all is_variable_byte name ≡ true
    → parts_of (123 ∷ (name ++ 125 ∷ back)) ≡ put_before (123 ∷ (name ++ 125 ∷ [])) (parts_of back)
reference_parts name back h =
    slice_split-cons_no (λ b. eqb b 36) 123 (name ++ 125 ∷ back) refl
    ∙ ap (onto_first 123) (name_parts name back h) ∙ onto_put 123 (name ++ 125 ∷ []) (parts_of back)

replaced_first : (vars : Variables) (name value : List ℕ) (parts : List (List ℕ)) → parts ≢ [] → IsKnown vars name value
    → flat_map (behind_dollar vars) (put_before (123 ∷ (name ++ 125 ∷ [])) parts) ≡ value ++ expanded_parts vars parts
replaced_first vars name value [] some known = absurd (some refl)
replaced_first vars name value (part ∷ parts) some known =
    let rest = flat_map (behind_dollar vars) parts in
    ap (λ xs. behind_dollar vars (123 ∷ xs) ++ rest) (append_assoc name (125 ∷ []) part)
    ∙ ap (λ xs. xs ++ rest) (known_dollar vars name value part known)
    ∙ append_assoc value part rest

pub leftmost_replaced : (vars : Variables) (front name value back : List ℕ) → LacksReference vars front
    → IsKnown vars name value → expanded vars (front ++ reference_text name ++ back) ≡ front ++ value ++ expanded vars back
unfolding expanded
leftmost_replaced vars front name value back lacks known =
    let tail = 123 ∷ (name ++ 125 ∷ back) in
    ap (λ xs. expanded_parts vars (parts_of xs))
    (append_assoc front (reference_text name) back
    ∙ ap (λ xs. front ++ 36 ∷ 123 ∷ xs) (append_assoc name (125 ∷ []) back))
    ∙ front_stays vars front tail lacks
    ∙ ap (λ xs. front ++ xs)
    (ap (flat_map (behind_dollar vars)) (reference_parts name back (name_bytes name known.0))
    ∙ replaced_first vars name value (parts_of back) (split_some back) known)
    ∙ sym (append_assoc front value (expanded_parts vars (parts_of back)))
