-- Where a URL ends: what splitting finds is what the definition says at once.
use Rattle.std.proofs.Common.{◌≡◌, ◌≢◌, ◌⊎◌, ◌↔◌, ℕ, ◌==◌, ◌&&◌, ◌||◌, Bool, true, false, if◌then◌else◌, List}
use Rattle.std.proofs.Common.{[], ◌∷◌, ◌++◌, inl, inr, refl, ap, sym, subst, ◌∙◌}
use Rattle.std.specs.Prelude.{fold}
use Rattle.std.specs.Char.{is_whitespace}
use Rattle.pep508_requirement_text.specs.UrlEnds.{depth_behind, is_line_break, is_mark}
use Rattle.pep508_error.specs.Cuts.{begins_by}
use Rattle.pep508_requirement_text.specs.UrlEnds.{begins_with_end}
use Rattle.pep508_requirement_text.specs.UrlEnds.{ends_before, ends_behind, with_char, url_split, depth_of}
use Rattle.pep508_requirement_text.specs.UrlEnds.{EndsWithMark, EndsBetween, IsUrlBefore}
use Rattle.pep508_error.proofs.Tests.{the_same, or_left, or_right, or_cases, neither, or_first, or_second}
use Rattle.pep508_error.proofs.Tests.{both, and_parts}

-- ---- places at which a URL may end

-- a URL may end here, at this depth, behind a mark or not
abbrev ends_behind_mark : ℕ → Bool → List ℕ → Bool
ends_behind_mark depth mark rest = depth == 0 && mark && begins_by is_whitespace rest

abbrev may_end : ℕ → Bool → List ℕ → Bool
may_end depth mark [] = true
may_end depth mark (c ∷ cs) = ends_before depth (c ∷ cs) || ends_behind_mark depth mark (c ∷ cs)

-- a URL's characters from some place on end at the first place at which they may
abbrev EndsFirst : Bool → ℕ → Bool → List ℕ → List ℕ → Type 0
EndsFirst brackets depth mark [] rest = may_end depth mark rest ≡ true
EndsFirst brackets depth mark (c ∷ cs) rest =
    (may_end depth mark (c ∷ (cs ++ rest)) ≡ false) × EndsFirst brackets (depth_behind brackets depth c) (is_mark c) cs rest

-- ---- splitting

record IsSplit (brackets : Bool) (depth : ℕ) (mark : Bool) (cs : List ℕ) (parts : List ℕ × List ℕ) : Type 0 where
  joined : cs ≡ parts.0 ++ parts.1
  first : EndsFirst brackets depth mark parts.0 parts.1

behind_mark : (depth : ℕ) (mark : Bool) (cs : List ℕ) → ends_behind_mark depth mark cs ≡ true
    → may_end depth mark cs ≡ true
behind_mark depth mark [] h = refl
behind_mark depth mark (c ∷ cs) h = or_right (ends_before depth (c ∷ cs)) (ends_behind_mark depth mark (c ∷ cs)) h

split_by : (brackets : Bool) (depth : ℕ) (mark : Bool) (c : ℕ) (cs : List ℕ) (before behind : Bool)
    → ends_before depth (c ∷ cs) ≡ before → ends_behind_mark depth mark (c ∷ cs) ≡ false
    → ends_behind (depth_behind brackets depth c) c cs ≡ behind
    → (behind ≡ false
    → IsSplit brackets (depth_behind brackets depth c) (is_mark c) cs (url_split brackets (depth_behind brackets depth c) cs))
    → IsSplit brackets depth mark (c ∷ cs)
    (if before then ([], c ∷ cs)
    else with_char c (if behind then ([], cs) else url_split brackets (depth_behind brackets depth c) cs))
split_by brackets depth mark c cs true behind e n k more = record {
  joined = refl;
  first = or_left (ends_before depth (c ∷ cs)) (ends_behind_mark depth mark (c ∷ cs)) e;
}
split_by brackets depth mark c cs false true e n k more = record {
  joined = refl;
  first = (
    neither (ends_before depth (c ∷ cs)) (ends_behind_mark depth mark (c ∷ cs)) e n,
    behind_mark (depth_behind brackets depth c) (is_mark c) cs k,
  );
}
split_by brackets depth mark c cs false false e n k more =
    let s = more refl in
    record {
      joined = ap (λ ds. c ∷ ds) s.joined;
      first = (
        ap (λ ds. may_end depth mark (c ∷ ds)) (sym s.joined)
            ∙ neither (ends_before depth (c ∷ cs)) (ends_behind_mark depth mark (c ∷ cs)) e n,
        s.first,
      );
    }

splits : (brackets : Bool) (depth : ℕ) (mark : Bool) (cs : List ℕ) → ends_behind_mark depth mark cs ≡ false
    → IsSplit brackets depth mark cs (url_split brackets depth cs)
splits brackets depth mark [] n = record { joined = refl; first = refl }
splits brackets depth mark (c ∷ cs) n =
    split_by brackets depth mark c cs (ends_before depth (c ∷ cs)) (ends_behind (depth_behind brackets depth c) c cs) refl n refl
    (λ k. splits brackets (depth_behind brackets depth c) (is_mark c) cs k)

-- the end is found again
here_again : (brackets : Bool) (depth : ℕ) (mark : Bool) (rest : List ℕ) → may_end depth mark rest ≡ true
    → ends_behind_mark depth mark rest ≡ false → url_split brackets depth rest ≡ ([], rest)
here_again brackets depth mark [] h n = refl
here_again brackets depth mark (c ∷ cs) h n =
    let before : ends_before depth (c ∷ cs) ≡ true = elim (or_cases (ends_before depth (c ∷ cs)) (ends_behind_mark depth mark (c ∷ cs)) h) [ inl e ↦ e | inr e ↦ absurd (cc) ] in
    ap (λ t. if t then ([], c ∷ cs) else with_char c (if ends_behind (depth_behind brackets depth c) c cs then ([], cs)
    else url_split brackets (depth_behind brackets depth c) cs)) before

behind_again : (brackets : Bool) (depth : ℕ) (c : ℕ) (cs rest : List ℕ) (behind : Bool)
    → EndsFirst brackets depth (is_mark c) cs rest → ends_behind depth c (cs ++ rest) ≡ behind
    → (behind ≡ false → url_split brackets depth (cs ++ rest) ≡ (cs, rest))
    → (if behind then ([], cs ++ rest) else url_split brackets depth (cs ++ rest)) ≡ (cs, rest)
behind_again brackets depth c [] rest true f e more = refl
behind_again brackets depth c (d ∷ cs) rest true f e more =
    let no = or_second (ends_before depth (d ∷ (cs ++ rest))) (ends_behind_mark depth (is_mark c) (d ∷ (cs ++ rest))) f.0 in
    absurd (cc)
behind_again brackets depth c cs rest false f e more = more refl

split_again : (brackets : Bool) (depth : ℕ) (mark : Bool) (cs rest : List ℕ)
    → EndsFirst brackets depth mark cs rest
    → ends_behind_mark depth mark (cs ++ rest) ≡ false → url_split brackets depth (cs ++ rest) ≡ (cs, rest)
split_again brackets depth mark [] rest f n = here_again brackets depth mark rest f n
split_again brackets depth mark (c ∷ cs) rest f n =
    let deep : ℕ = depth_behind brackets depth c in
    let left : List ℕ = c ∷ (cs ++ rest) in
    ap (λ t. if t then ([], left) else with_char c (if ends_behind deep c (cs ++ rest) then ([], cs ++ rest)
    else url_split brackets deep (cs ++ rest))) (or_first (ends_before depth left) (ends_behind_mark depth mark left) f.0)
    ∙ ap (with_char c) (behind_again brackets deep c cs rest (ends_behind deep c (cs ++ rest)) f.1 refl
    (λ k. split_again brackets deep (is_mark c) cs rest f.1 k))

-- ---- said at once

abbrev last_mark : Bool → List ℕ → Bool
last_mark mark [] = mark
last_mark mark (c ∷ cs) = last_mark (is_mark c) cs

abbrev MayEndBehind : Bool → ℕ → Bool → List ℕ → List ℕ → Bool → Type 0
MayEndBehind brackets depth mark front rest t =
    may_end (fold (depth_behind brackets) depth front) (last_mark mark front) rest ≡ t

first_ends : (brackets : Bool) (depth : ℕ) (mark : Bool) (cs rest : List ℕ)
    → EndsFirst brackets depth mark cs rest
    → MayEndBehind brackets depth mark cs rest true
first_ends brackets depth mark [] rest f = f
first_ends brackets depth mark (c ∷ cs) rest f = first_ends brackets (depth_behind brackets depth c) (is_mark c) cs rest f.1

nothing_behind : (front back : List ℕ) → [] ≡ front ++ back → back ≡ []
nothing_behind [] back e = sym e
nothing_behind (c ∷ cs) back e = absurd (cc)

first_alone : (brackets : Bool) (depth : ℕ) (mark : Bool) (cs rest front back : List ℕ)
    → EndsFirst brackets depth mark cs rest → cs ≡ front ++ back → back ≢ []
    → MayEndBehind brackets depth mark front (back ++ rest) false
first_alone brackets depth mark [] rest front back f e n = absurd (n (nothing_behind front back e))
first_alone brackets depth mark (c ∷ cs) rest [] back f e n = ap (λ ds. may_end depth mark (ds ++ rest)) (sym e) ∙ f.0
first_alone brackets depth mark (c ∷ cs) rest (d ∷ front) back f e n =
    let same : c ≡ d = cc in
    let more : cs ≡ front ++ back = cc in
    subst (λ x. MayEndBehind brackets (depth_behind brackets depth x) (is_mark x) front (back ++ rest) false) same
    (first_alone brackets (depth_behind brackets depth c) (is_mark c) cs rest front back f.1 more n)

some_list : (c : ℕ) (cs : List ℕ) → c ∷ cs ≢ []
some_list c cs = λ e. absurd (cc)

first_from : (brackets : Bool) (depth : ℕ) (mark : Bool) (cs rest : List ℕ)
    → MayEndBehind brackets depth mark cs rest true
    → ((front back : List ℕ) → cs ≡ front ++ back → back ≢ [] → MayEndBehind brackets depth mark front (back ++ rest) false)
    → EndsFirst brackets depth mark cs rest
first_from brackets depth mark [] rest ends alone = ends
first_from brackets depth mark (c ∷ cs) rest ends alone = (
  alone [] (c ∷ cs) refl (some_list c cs),
  first_from brackets (depth_behind brackets depth c) (is_mark c) cs rest ends
      (λ front back e n. alone (c ∷ front) back (ap (λ ds. c ∷ ds) e) n),
)

-- ---- marks

last_is : (mark : Bool) (others : List ℕ) (c : ℕ) → last_mark mark (others ++ c ∷ []) ≡ is_mark c
last_is mark [] c = refl
last_is mark (d ∷ others) c = last_is (is_mark d) others c

last_found : (mark : Bool) (front : List ℕ) → last_mark mark front ≡ true
    → ((front ≡ []) × (mark ≡ true)) ⊎ EndsWithMark front
last_found mark [] h = inl (refl, h)
last_found mark (c ∷ cs) h =
    elim (last_found (is_mark c) cs h) [
      | inl p ↦ inr ([], c, ap (λ ds. c ∷ ds) p.0, p.1)
      | inr p ↦ inr (c ∷ p.0, p.1, ap (λ ds. c ∷ ds) p.2, p.3)
    ]

ends_with_mark : (front : List ℕ) → last_mark false front ≡ true → EndsWithMark front
ends_with_mark front h = elim (last_found false front h) [ inl p ↦ absurd (cc) | inr p ↦ p ]

mark_is_last : (front : List ℕ) → EndsWithMark front → last_mark false front ≡ true
mark_is_last front h = ap (last_mark false) h.2 ∙ last_is false h.0 h.1 ∙ h.3

-- ---- between two lists

may_from : (brackets : Bool) (front rest : List ℕ) → EndsBetween brackets front rest
    → MayEndBehind brackets 0 false front rest true
may_from brackets front [] h = refl
may_from brackets front (c ∷ cs) (inl e) = absurd (cc)
may_from brackets front (c ∷ cs) (inr (inl e)) =
    let rest : List ℕ = c ∷ cs in
    let depth : ℕ = depth_of brackets front in
    or_left (ends_before depth rest) (ends_behind_mark depth (last_mark false front) rest)
    (or_left (begins_by is_line_break rest) (depth == 0 && begins_with_end rest) e)
may_from brackets front (c ∷ cs) (inr (inr h)) =
    let rest : List ℕ = c ∷ cs in
    let depth : ℕ = depth_of brackets front in
    let zero_is : (depth == 0) ≡ true = ap (λ n. n == 0) h.0 in
    elim h.1 [
      | inl e ↦ or_left (ends_before depth rest) (ends_behind_mark depth (last_mark false front) rest)
          (or_right (begins_by is_line_break rest) (depth == 0 && begins_with_end rest) (both (depth == 0) (begins_with_end rest) zero_is e))
      | inr e ↦ or_right (ends_before depth rest) (ends_behind_mark depth (last_mark false front) rest)
          (both (depth == 0 && last_mark false front) (begins_by is_whitespace rest)
          (both (depth == 0) (last_mark false front) zero_is (mark_is_last front e.0)) e.1)
    ]

between_from : (brackets : Bool) (front rest : List ℕ) → MayEndBehind brackets 0 false front rest true
    → EndsBetween brackets front rest
between_from brackets front [] h = inl refl
between_from brackets front (c ∷ cs) h =
    let rest : List ℕ = c ∷ cs in
    let depth : ℕ = depth_of brackets front in
    elim (or_cases (ends_before depth rest) (ends_behind_mark depth (last_mark false front) rest) h) [
      | inl e ↦ elim (or_cases (begins_by is_line_break rest) (depth == 0 && begins_with_end rest) e) [
        | inl l ↦ inr (inl l)
        | inr l ↦ (let p = and_parts (depth == 0) (begins_with_end rest) l in inr (inr (the_same depth 0 p.0, inl p.1)))
      ]
      | inr e ↦ (let p = and_parts (depth == 0 && last_mark false front) (begins_by is_whitespace rest) e in
          let q = and_parts (depth == 0) (last_mark false front) p.0 in
          inr (inr (the_same depth 0 q.0, inr (ends_with_mark front q.1, p.1))))
    ]

-- ---- the law

nothing_first : (cs : List ℕ) → ends_behind_mark 0 false cs ≡ false
nothing_first cs = refl

not_true : (t : Bool) → (t ≡ true → ⊥) → t ≡ false
not_true true h = absurd (h refl)
not_true false h = refl

unspaced_front : (cs rest : List ℕ) → cs ≢ [] → begins_by is_whitespace (cs ++ rest) ≡ false
    → begins_by is_whitespace cs ≡ false
unspaced_front [] rest some h = absurd (some refl)
unspaced_front (c ∷ cs) rest some h = h

pub url_found : (brackets : Bool) (cs : List ℕ) → begins_by is_whitespace cs ≡ false
    → (url_split brackets 0 cs).0 ≢ []
    → IsUrlBefore brackets (url_split brackets 0 cs).0 (url_split brackets 0 cs).1
url_found brackets cs unspaced some =
    let url : List ℕ = (url_split brackets 0 cs).0 in
    let rest : List ℕ = (url_split brackets 0 cs).1 in
    let s = splits brackets 0 false cs (nothing_first cs) in
    record {
      some = some;
      starts = unspaced_front url rest some (ap (begins_by is_whitespace) (sym s.joined) ∙ unspaced);
      ends = between_from brackets url rest (first_ends brackets 0 false url rest s.first);
      first = λ front back e n h.
          (let no = first_alone brackets 0 false url rest front back s.first e n in
          let yes = may_from brackets front (back ++ rest) h in absurd (cc));
    }

pub url_joined : (brackets : Bool) (cs : List ℕ)
    → cs ≡ (url_split brackets 0 cs).0 ++ (url_split brackets 0 cs).1
url_joined brackets cs = (splits brackets 0 false cs (nothing_first cs)).joined

pub url_again : (brackets : Bool) (url rest : List ℕ) → IsUrlBefore brackets url rest
    → url_split brackets 0 (url ++ rest) ≡ (url, rest)
url_again brackets url rest h =
    let first = first_from brackets 0 false url rest (may_from brackets url rest h.ends)
    (λ front back e n. not_true (may_end (depth_of brackets front) (last_mark false front) (back ++ rest))
    (λ t. h.first front back e n (between_from brackets front (back ++ rest) t))) in
    split_again brackets 0 false url rest first (nothing_first (url ++ rest))

pub unspaced_whole : (url rest : List ℕ) → url ≢ [] → begins_by is_whitespace url ≡ false
    → begins_by is_whitespace (url ++ rest) ≡ false
unspaced_whole [] rest some h = absurd (some refl)
unspaced_whole (c ∷ cs) rest some h = h

split_off : (brackets : Bool) (url rest : List ℕ) → url_split brackets 0 (url ++ rest) ≡ (url, rest)
    → url ≢ []
    → begins_by is_whitespace url ≡ false → IsUrlBefore brackets url rest
split_off brackets url rest e some unspaced =
    let parts : List ℕ × List ℕ = url_split brackets 0 (url ++ rest) in
    let same : (url, rest) ≡ parts = sym e in
    subst (λ (p : List ℕ × List ℕ). IsUrlBefore brackets p.0 p.1) e
    (url_found brackets (url ++ rest) (unspaced_whole url rest some unspaced)
    (subst (λ (p : List ℕ × List ℕ). p.0 ≢ []) same some))

pub url_law : (brackets : Bool) (url rest : List ℕ)
    → (url_split brackets 0 (url ++ rest) ≡ (url, rest)) × (url ≢ []) × (begins_by is_whitespace url ≡ false)
    ↔ IsUrlBefore brackets url rest
url_law brackets url rest = (
  λ h. split_off brackets url rest h.0 h.1 h.2,
  λ h. (url_again brackets url rest h, h.some, h.starts),
)
