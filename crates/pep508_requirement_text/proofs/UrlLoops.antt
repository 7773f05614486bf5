-- How the reading of a URL goes on, ends, and has begun.
use Rattle.std.proofs.Common.{◌≡◌, ℕ, ◌+◌, ◌-◌, ◌<◌, ◌≤◌, ◌&&◌, ◌||◌, Bool, true, false, cond, if◌then◌else◌}
use Rattle.std.proofs.Common.{eqb, List, [], ◌∷◌, ◌++◌, length, take, drop, refl, sym, ap, subst, ◌∙◌, arith}
use Rattle.std.proofs.Common.{append_assoc, length-append, None}
use Rattle.std.proofs.Math.Seq.{drop-append_seam, take-append_seam}
use Rattle.std.proofs.lemmas.Bool.Decides.{nat_tests}
use Rattle.std.proofs.lemmas.List.{take-append-drop, append-nil, append_cancel_right, length-take-le}
use Rattle.std.proofs.lemmas.Str.{IsUtf8-nil, IsUtf8-append, IsUtf8-take, IsUtf8-drop, IsUtf8-past_char}
use Rattle.std.proofs.lemmas.Str.{IsCharBoundary-from_drop, chars-append, chars-nil, chars_past_char}
use Rattle.std.proofs.lemmas.Str.{chars_from_encodes, length-encode, len_utf8_bounds, IsCharBoundary-at_seam}
use Rattle.std.specs.Char.{is_whitespace, is_not_whitespace, encode_utf8}
use Rattle.std.specs.Str.{chars, skip_leading_whitespace, IsUtf8, NonePass, IsCharBoundary, IsTrimStart}
use Rattle.std.specs.Str.{trim_start}
use Rattle.std.specs.Str.Pattern.{FindsBy, MatchBeginsAt}
use Rattle.pep508_requirement_text.specs.UrlEnds.{url_split, depth_behind, with_char, is_over, is_line_break}
use Rattle.pep508_requirement_text.specs.UrlEnds.{is_mark, ends_before, ends_behind}
use Rattle.pep508_error.specs.Cuts.{begins_by}
use Rattle.pep508_error.proofs.Places.{end_begins}
use Rattle.pep508_requirement_text.specs.UrlTurns.{IsCut, BeginsWith, AreBlanks, onto, EndsAt, GoesOnAt}

-- ---- one character

abbrev step : Bool → ℕ → ℕ → List ℕ → Bool → Bool → List ℕ × List ℕ
step b depth c cs ends behind =
    if ends then ([], c ∷ cs)
    else with_char c (if behind then ([], cs) else url_split b (depth_behind b depth c) cs)

split_step : (b : Bool) (depth c : ℕ) (cs : List ℕ) (ends behind : Bool) → ends_before depth (c ∷ cs) ≡ ends
    → ends_behind (depth_behind b depth c) c cs ≡ behind → url_split b depth (c ∷ cs) ≡ step b depth c cs ends behind
split_step b depth c cs ends behind e f =
    ap (λ (t : Bool). step b depth c cs t (ends_behind (depth_behind b depth c) c cs)) e
    ∙ ap (λ (t : Bool). step b depth c cs ends t) f

-- ---- depth and characters

no_break : (c : ℕ) → is_whitespace c ≡ false → is_line_break c ≡ false
no_break c h = grind (arith, nat_tests)

no_mark : (c : ℕ) → is_not_whitespace c ≡ false → is_mark c ≡ false
no_mark c h = grind (arith, nat_tests)

white : (c : ℕ) → is_not_whitespace c ≡ false → is_whitespace c ≡ true
white c h = grind (arith, nat_tests)

abbrev at_char : ℕ → Bool → Bool → ℕ
at_char depth opens closes = if opens then depth + 1 else (if closes then depth - 1 else depth)

no_open : (c : ℕ) → is_not_whitespace c ≡ false → eqb c 91 ≡ false
no_open c h = grind (arith, nat_tests)

no_close : (c : ℕ) → is_not_whitespace c ≡ false → eqb c 93 ≡ false
no_close c h = grind (arith, nat_tests)

-- a blank leaves the depth
kept_by : (b : Bool) (depth c : ℕ) → is_not_whitespace c ≡ false → depth_behind b depth 32 ≡ depth
    → depth_behind b depth c ≡ depth
kept_by false depth c h e = e
kept_by true depth c h e =
    ap (λ (t : Bool). at_char depth t (eqb c 93)) (no_open c h) ∙ ap (λ (t : Bool). at_char depth false t) (no_close c h)

pub kept_again : (b : Bool) (depth c : ℕ) → depth_behind b (depth_behind b depth c) 32 ≡ depth_behind b depth c
kept_again false depth c = refl
kept_again true depth c = refl

opened : (depth : ℕ) (opens closes : Bool) → at_char depth opens closes ≤ depth + 1
opened depth true closes = omega arith
opened depth false true = omega arith
opened depth false false = omega arith

deeper : (b : Bool) (depth c : ℕ) → depth_behind b depth c ≤ depth + 1
deeper false depth c = omega arith
deeper true depth c = opened depth (eqb c 91) (eqb c 93)

-- ---- white space

abbrev tests : ℕ → Bool → Bool → Bool → Bool
tests depth breaks blank over = breaks || (eqb depth 0 && (blank && over))

nothing_blank : (breaks over zero : Bool) → breaks ≡ false → (breaks || (zero && (false && over))) ≡ false
nothing_blank breaks over true e = ap (λ (t : Bool). t || (true && (false && over))) e
nothing_blank breaks over false e = ap (λ (t : Bool). t || (false && (false && over))) e

skip_blank : (c : ℕ) (cs : List ℕ) → is_not_whitespace c ≡ false
    → skip_leading_whitespace (c ∷ cs) ≡ skip_leading_whitespace cs
skip_blank c cs h = ap (λ (t : Bool). cond t (skip_leading_whitespace cs) (c ∷ cs)) (white c h)

pub skip_blanks : (ws ds : List ℕ) → NonePass is_not_whitespace ws
    → skip_leading_whitespace (ws ++ ds) ≡ skip_leading_whitespace ds
skip_blanks [] ds h = refl
skip_blanks (c ∷ ws) ds h = skip_blank c (ws ++ ds) h.0 ∙ skip_blanks ws ds h.1

zero_over : (zero over : Bool) → (zero && over) ≡ false → (zero && (true && over)) ≡ false
zero_over true over h = h
zero_over false over h = refl

-- no end before a blank of a run that no end follows
open_blank : (depth c : ℕ) (ws ds : List ℕ) → is_not_whitespace c ≡ false → NonePass is_not_whitespace ws
    → is_line_break c ≡ false → (eqb depth 0 && is_over (skip_leading_whitespace ds)) ≡ false
    → ends_before depth (c ∷ (ws ++ ds)) ≡ false
open_blank depth c ws ds h all l e =
    ap (λ (t : Bool). tests depth t (is_whitespace c) (is_over (skip_leading_whitespace (c ∷ (ws ++ ds))))) l
    ∙ ap (λ (t : Bool). tests depth false t (is_over (skip_leading_whitespace (c ∷ (ws ++ ds))))) (white c h)
    ∙ ap (λ (xs : List ℕ). tests depth false true (is_over xs)) (skip_blank c (ws ++ ds) h ∙ skip_blanks ws ds all)
    ∙ zero_over (eqb depth 0) (is_over (skip_leading_whitespace ds)) e

not_behind : (depth c : ℕ) (cs : List ℕ) (zero : Bool) → is_mark c ≡ false → (zero && is_mark c && begins_by is_whitespace cs) ≡ false
not_behind depth c cs true h = ap (λ (t : Bool). t && begins_by is_whitespace cs) h
not_behind depth c cs false h = refl

-- a URL goes on over white space with no line break, which no end follows
pub over_blanks : (b : Bool) (depth : ℕ) (ws ds : List ℕ) → NonePass is_not_whitespace ws → NonePass is_line_break ws
    → (eqb depth 0 && is_over (skip_leading_whitespace ds)) ≡ false → depth_behind b depth 32 ≡ depth
    → url_split b depth (ws ++ ds) ≡ onto ws (url_split b depth ds)
over_blanks b depth [] ds h l e k = refl
over_blanks b depth (c ∷ ws) ds h l e k =
    let at : depth_behind b depth c ≡ depth = kept_by b depth c h.0 k in
    split_step b depth c (ws ++ ds) false false (open_blank depth c ws ds h.0 h.1 l.0 e)
    (not_behind (depth_behind b depth c) c (ws ++ ds) (eqb (depth_behind b depth c) 0) (no_mark c h.0))
    ∙ ap (λ (d : ℕ). with_char c (url_split b d (ws ++ ds))) at
    ∙ ap (with_char c) (over_blanks b depth ws ds h.1 l.1 e k)

-- a URL ends here
pub ended_before : (b : Bool) (depth : ℕ) (cs : List ℕ) → ends_before depth cs ≡ true → url_split b depth cs ≡ ([], cs)
ended_before b depth [] h = refl
ended_before b depth (c ∷ cs) h =
    split_step b depth c cs true (ends_behind (depth_behind b depth c) c cs) h refl

breaks_true : (c : ℕ) (depth : ℕ) (cs : List ℕ) → is_line_break c ≡ true → ends_before depth (c ∷ cs) ≡ true
breaks_true c depth cs h =
    ap (λ (t : Bool). t || (eqb depth 0 && (is_whitespace c && is_over (skip_leading_whitespace (c ∷ cs))))) h

or_true : (x y : Bool) → y ≡ true → (x || y) ≡ true
or_true true y h = refl
or_true false y h = h

parted : (x y : Bool) → (x && y) ≡ true → (x ≡ true) × (y ≡ true)
parted true y h = (refl, h)
parted false y h = absurd (cc)

all_true : (zero blank over : Bool) → zero ≡ true → blank ≡ true → over ≡ true → (zero && (blank && over)) ≡ true
all_true zero blank over p q r = cc

-- ---- texts

pub whole_cut : (text : List ℕ) → IsUtf8 text → IsCut text [] text
whole_cut text u = record { whole = refl; front_utf8 = IsUtf8-nil; rest_utf8 = u }

-- a URL ends before the text
pub ends_at_once : (b : Bool) (depth : ℕ) (text : List ℕ) → IsUtf8 text → ends_before depth (chars text) ≡ true
    → EndsAt b depth text text
ends_at_once b depth text u h = record {
  front = [];
  cut = whole_cut text u;
  split = ended_before b depth (chars text) h ∙ ap (λ (xs : List ℕ). (xs, chars text)) (sym chars-nil);
}

pub ends_with_text : (b : Bool) (depth : ℕ) (text : List ℕ) → IsUtf8 text → chars text ≡ [] → EndsAt b depth text text
ends_with_text b depth text u h = record {
  front = [];
  cut = whole_cut text u;
  split = ap (url_split b depth) h ∙ ap (λ (xs : List ℕ). (xs, xs)) (sym h) ∙ ap (λ (xs : List ℕ). (xs, chars text)) (h ∙ sym chars-nil);
}

one_char : (c : ℕ) (rest text : List ℕ) → BeginsWith text c rest → chars (encode_utf8 c) ≡ c ∷ []
one_char c rest text h =
    chars_past_char (encode_utf8 c) [] c h.cut.front_utf8 (sym (append-nil (encode_utf8 c)))
    ∙ ap (λ (xs : List ℕ). c ∷ xs) chars-nil

plain_before : (depth c : ℕ) (cs : List ℕ) → is_whitespace c ≡ false → ends_before depth (c ∷ cs) ≡ false
plain_before depth c cs h =
    ap (λ (t : Bool). tests depth (is_line_break c) t (is_over (skip_leading_whitespace (c ∷ cs)))) h
    ∙ nothing_blank (is_line_break c) (is_over (skip_leading_whitespace (c ∷ cs))) (eqb depth 0) (no_break c h)

-- a URL ends behind its first character
pub ends_next : (b : Bool) (depth c : ℕ) (text rest : List ℕ) → BeginsWith text c rest → is_whitespace c ≡ false
    → ends_behind (depth_behind b depth c) c (chars rest) ≡ true → EndsAt b depth text rest
ends_next b depth c text rest h w e = record {
  front = encode_utf8 c;
  cut = h.cut;
  split =
      ap (url_split b depth) h.characters
      ∙ split_step b depth c (chars rest) false true (plain_before depth c (chars rest) w) e
      ∙ ap (λ (xs : List ℕ). (xs, chars rest)) (sym (one_char c rest text h));
}

pub shorter : (c : ℕ) (text rest : List ℕ) → BeginsWith text c rest → length rest + 1 ≤ length text
shorter c text rest h =
    let some = len_utf8_bounds c in
    let all : length text ≡ length (encode_utf8 c) + length rest =
    ap length h.cut.whole ∙ length-append (encode_utf8 c) rest in
    let l = length-encode c in
    omega (arith, all, some, l)

-- a URL goes on behind its first character
pub goes_next : (b : Bool) (depth c : ℕ) (text rest : List ℕ) → BeginsWith text c rest → is_whitespace c ≡ false
    → ends_behind (depth_behind b depth c) c (chars rest) ≡ false
    → GoesOnAt b depth text (depth_behind b depth c) rest × (length rest < length text)
goes_next b depth c text rest h w e =
    let short = shorter c text rest h in
    let deep = deeper b depth c in (
      record {
        front = encode_utf8 c;
        cut = h.cut;
        split =
            ap (url_split b depth) h.characters
            ∙ split_step b depth c (chars rest) false false (plain_before depth c (chars rest) w) e
            ∙ ap (λ (xs : List ℕ). onto xs (url_split b (depth_behind b depth c) (chars rest))) (sym (one_char c rest text h));
        kept = kept_again b depth c;
        bound = omega (arith, short, deep);
      },
      omega (arith, short),
    )

-- a URL ends before white space that an end follows
pub ends_blank : (b : Bool) (depth : ℕ) (text run rest : List ℕ) → IsUtf8 text → AreBlanks text run rest
    → begins_by is_whitespace (chars text) ≡ true → (eqb depth 0 && is_over (chars rest)) ≡ true
    → EndsAt b depth text text
ends_blank b depth text run rest u blanks w h =
    let both = parted (eqb depth 0) (is_over (chars rest)) h in
    let over : is_over (skip_leading_whitespace (chars text)) ≡ true = ap is_over (sym blanks.skipped) ∙ both.1 in
    ends_at_once b depth text u
    (or_true (begins_by is_line_break (chars text)) (eqb depth 0 && (begins_by is_whitespace (chars text) && is_over (skip_leading_whitespace (chars text))))
    (all_true (eqb depth 0) (begins_by is_whitespace (chars text)) (is_over (skip_leading_whitespace (chars text))) both.0 w over))

-- ---- a run of white space

front_passes : (p : ℕ → Bool) (xs ys : List ℕ) → NonePass p (xs ++ ys) → NonePass p xs
front_passes p [] ys h = tt
front_passes p (x ∷ xs) ys h = (h.0, front_passes p xs ys h.1)

skip_shorter : (cs : List ℕ) → length (skip_leading_whitespace cs) ≤ length cs
skip_shorter [] = omega arith
skip_shorter (c ∷ cs) =
    let less = skip_shorter cs in
    elim (is_whitespace c) as (λ (t : Bool). length (cond t (skip_leading_whitespace cs) (c ∷ cs)) ≤ length (c ∷ cs))
    [ true ↦ omega (arith, less) | false ↦ omega arith ]

not_same : (cs : List ℕ) → begins_by is_whitespace cs ≡ true → cs ≡ skip_leading_whitespace cs → ⊥
not_same [] w e = absurd (cc)
not_same (c ∷ cs) w e =
    let less = skip_shorter cs in
    let skips : skip_leading_whitespace (c ∷ cs) ≡ skip_leading_whitespace cs =
    ap (λ (t : Bool). cond t (skip_leading_whitespace cs) (c ∷ cs)) w in
    let same : length (c ∷ cs) ≡ length (skip_leading_whitespace cs) = ap length (e ∙ skips) in
    absurd (omega (arith, less, same))

longer : (run rest text : List ℕ) → text ≡ run ++ rest → chars rest ≡ skip_leading_whitespace (chars text)
    → begins_by is_whitespace (chars text) ≡ true → length rest < length text
longer [] rest text e s w = absurd (not_same (chars text) w (ap chars e ∙ s))
longer (x ∷ xs) rest text e s w =
    let all : length text ≡ length ((x ∷ xs) ++ rest) = ap length e in
    let l = length-append xs rest in
    omega (arith, all, l)

module _ (b : Bool) (depth : ℕ) (text run rest : List ℕ) (blanks : AreBlanks text run rest) where
  skipped_behind : (ws ds : List ℕ) → chars text ≡ ws ++ ds → NonePass is_not_whitespace ws
      → skip_leading_whitespace ds ≡ chars rest
  skipped_behind ws ds e h =
      sym (skip_blanks ws ds h) ∙ ap skip_leading_whitespace (sym e) ∙ sym blanks.skipped

  over_by : (ws ds : List ℕ) → chars text ≡ ws ++ ds → NonePass is_not_whitespace ws → NonePass is_line_break ws
      → (eqb depth 0 && is_over (chars rest)) ≡ false → depth_behind b depth 32 ≡ depth
      → url_split b depth (chars text) ≡ onto ws (url_split b depth ds)
  over_by ws ds e h l going kept =
      ap (url_split b depth) e
      ∙ over_blanks b depth ws ds h l
      (ap (λ (cs : List ℕ). eqb depth 0 && is_over cs) (skipped_behind ws ds e h) ∙ going) kept

  -- no line break stands in the run
  pub goes_over : begins_by is_whitespace (chars text) ≡ true → (eqb depth 0 && is_over (chars rest)) ≡ false
      → depth_behind b depth 32 ≡ depth → FindsBy is_line_break run None
      → GoesOnAt b depth text depth rest × (length rest < length text)
  goes_over w going kept none =
      let less = longer run rest text blanks.cut.whole blanks.skipped w in
      let cs : List ℕ = none.0 in
      let same : cs ≡ chars run = chars_from_encodes cs run blanks.cut.front_utf8 none.1 in (
        record {
          front = run;
          cut = blanks.cut;
          split =
              over_by (chars run) (chars rest)
              (ap chars blanks.cut.whole ∙ chars-append run rest blanks.cut.front_utf8) blanks.blank
              (subst (NonePass is_line_break) same none.2) going kept;
          kept = kept;
          bound = omega (arith, less);
        },
        less,
      )

  module _ (place : ℕ) (found : MatchBeginsAt (FindsBy is_line_break) run place) where
    abbrev pub front : List ℕ
    front = take place run

    abbrev pub tail : List ℕ
    tail = drop place run ++ rest

    whole_at : text ≡ front ++ tail
    whole_at =
        blanks.cut.whole ∙ ap (λ (xs : List ℕ). xs ++ rest) (sym (take-append-drop place run))
        ∙ append_assoc front (drop place run) rest

    front_len : length front ≡ place
    front_len = length-take-le place run found.3.0

    tail_utf8 : IsUtf8 tail
    tail_utf8 = IsUtf8-append (drop place run) rest (IsUtf8-drop run place blanks.cut.front_utf8 found.3) blanks.cut.rest_utf8

    pub tail_at : drop place text ≡ tail
    tail_at =
        ap (λ (n : ℕ). drop n text) (sym front_len) ∙ ap (drop (length front)) whole_at
        ∙ drop-append_seam front tail

    -- the text may be cut there
    pub break_boundary : IsCharBoundary text place
    break_boundary = subst (IsCharBoundary text) front_len (IsCharBoundary-at_seam text front tail whole_at tail_utf8)

    -- a URL ends before the line break
    pub ends_broken : (eqb depth 0 && is_over (chars rest)) ≡ false → depth_behind b depth 32 ≡ depth
        → EndsAt b depth text (drop place text)
    ends_broken going kept =
        let none = found.1.0 in
        let some = found.1.1 in
        let cs : List ℕ = none.0 in
        let c : ℕ = some.0 in
        let front_utf8 : IsUtf8 front = IsUtf8-take run place blanks.cut.front_utf8 found.3 in
        let before : cs ≡ chars front = chars_from_encodes cs front front_utf8 none.1 in
        let rest_run : chars (drop place run) ≡ c ∷ chars (drop found.0 run) =
        chars_past_char (drop place run) (drop found.0 run) c (IsUtf8-drop run place blanks.cut.front_utf8 found.3) some.2.split in
        let tail_is : chars tail ≡ c ∷ (chars (drop found.0 run) ++ chars rest) =
        chars-append (drop place run) rest (IsUtf8-drop run place blanks.cut.front_utf8 found.3)
        ∙ ap (λ (xs : List ℕ). xs ++ chars rest) rest_run in
        let run_is : chars run ≡ chars front ++ chars (drop place run) =
        ap chars (sym (take-append-drop place run)) ∙ chars-append front (drop place run) front_utf8 in
        let blank : NonePass is_not_whitespace (chars front) =
        front_passes is_not_whitespace (chars front) (chars (drop place run)) (subst (NonePass is_not_whitespace) run_is blanks.blank) in
        let ended : url_split b depth (chars tail) ≡ ([], chars tail) =
        ended_before b depth (chars tail) (ap (ends_before depth) tail_is ∙ breaks_true c depth (chars (drop found.0 run) ++ chars rest) some.1) in
        let split : url_split b depth (chars text) ≡ (chars front, chars tail) =
        over_by (chars front) (chars tail) (ap chars whole_at ∙ chars-append front tail front_utf8) blank
        (subst (NonePass is_line_break) before none.2) going kept
        ∙ ap (onto (chars front)) ended
        ∙ ap (λ (xs : List ℕ). (xs, chars tail)) (append-nil (chars front)) in
        subst (EndsAt b depth text) (sym tail_at) (record {
          front = front;
          cut = record { whole = whole_at; front_utf8 = front_utf8; rest_utf8 = tail_utf8 };
          split = split;
        })

-- ---- one turn after another

joined : (text f rest g last : List ℕ) → IsCut text f rest → IsCut rest g last → IsCut text (f ++ g) last
joined text f rest g last h k = record {
  whole = h.whole ∙ ap (λ (xs : List ℕ). f ++ xs) k.whole ∙ sym (append_assoc f g last);
  front_utf8 = IsUtf8-append f g h.front_utf8 k.front_utf8;
  rest_utf8 = k.rest_utf8;
}

pub begins : (b : Bool) (text : List ℕ) → IsUtf8 text → GoesOnAt b 0 text 0 text
begins true text u = record {
  front = [];
  cut = whole_cut text u;
  split = ap (λ (xs : List ℕ). onto xs (url_split true 0 (chars text))) (sym chars-nil);
  kept = refl;
  bound = omega arith;
}
begins false text u = record {
  front = [];
  cut = whole_cut text u;
  split = ap (λ (xs : List ℕ). onto xs (url_split false 0 (chars text))) (sym chars-nil);
  kept = refl;
  bound = omega arith;
}

pub ends_later : (b : Bool) (text rest last : List ℕ) (depth : ℕ) → GoesOnAt b 0 text depth rest
    → EndsAt b depth rest last → EndsAt b 0 text last
ends_later b text rest last depth h k = record {
  front = h.front ++ k.front;
  cut = joined text h.front rest k.front last h.cut k.cut;
  split =
      h.split ∙ ap (onto (chars h.front)) k.split
      ∙ ap (λ (xs : List ℕ). (xs, chars last)) (sym (chars-append h.front k.front h.cut.front_utf8));
}

pub goes_later : (b : Bool) (text rest last : List ℕ) (depth later : ℕ) → GoesOnAt b 0 text depth rest
    → GoesOnAt b depth rest later last → GoesOnAt b 0 text later last
goes_later b text rest last depth later h k =
    let here = h.bound in
    let there = k.bound in
    let parts : List ℕ × List ℕ = url_split b later (chars last) in
    record {
      front = h.front ++ k.front;
      cut = joined text h.front rest k.front last h.cut k.cut;
      split =
          h.split ∙ ap (onto (chars h.front)) k.split
          ∙ ap (λ (xs : List ℕ). (xs, parts.1)) (sym (append_assoc (chars h.front) (chars k.front) parts.0))
          ∙ ap (λ (xs : List ℕ). onto xs parts) (sym (chars-append h.front k.front h.cut.front_utf8));
      kept = k.kept;
      bound = omega (arith, here, there);
    }

-- ---- the end

end_at : (text front rest : List ℕ) → text ≡ front ++ rest → length text - length rest ≡ length front
end_at text front rest e =
    let l = length-append front rest in
    let all : length text ≡ length (front ++ rest) = ap length e in
    omega (arith, l, all)

pub cut_boundary : (text front rest : List ℕ) → IsCut text front rest → IsCharBoundary text (length text - length rest)
cut_boundary text front rest h =
    subst (IsCharBoundary text) (sym (end_at text front rest h.whole))
    (IsCharBoundary-at_seam text front rest h.whole h.rest_utf8)

pub cut_front : (text front rest : List ℕ) → text ≡ front ++ rest → take (length text - length rest) text ≡ front
cut_front text front rest e =
    ap (λ (n : ℕ). take n text) (end_at text front rest e) ∙ ap (take (length front)) e ∙ take-append_seam front rest

pub cut_rest : (text front rest : List ℕ) → text ≡ front ++ rest → drop (length text - length rest) text ≡ rest
cut_rest text front rest e =
    ap (λ (n : ℕ). drop n text) (end_at text front rest e) ∙ ap (drop (length front)) e ∙ drop-append_seam front rest

-- the text was cut where its URL ends
pub url_parts : (b : Bool) (text last one two : List ℕ) (h : EndsAt b 0 text last)
    → one ≡ take (length text - length last) text → two ≡ drop (length text - length last) text
    → ((chars one, chars two) ≡ url_split b 0 (chars text)) × (text ≡ one ++ two)
url_parts b text last one two h e f =
    let same_one : one ≡ h.front = e ∙ cut_front text h.front last h.cut.whole in
    let same_two : two ≡ last = f ∙ cut_rest text h.front last h.cut.whole in (
      ap (λ (xs : List ℕ). (chars xs, chars two)) same_one ∙ ap (λ (xs : List ℕ). (chars h.front, chars xs)) same_two
          ∙ sym h.split,
      h.cut.whole ∙ ap (λ (xs : List ℕ). xs ++ last) (sym same_one) ∙ ap (λ (xs : List ℕ). one ++ xs) (sym same_two),
    )

-- ---- the first character, and the white space at the front

char_utf8 : (text rest : List ℕ) (c : ℕ) → IsUtf8 text → text ≡ encode_utf8 c ++ rest → IsUtf8 rest → IsUtf8 (encode_utf8 c)
char_utf8 text rest c u whole v =
    subst IsUtf8
    (ap (take (length (encode_utf8 c))) whole ∙ take-append_seam (encode_utf8 c) rest)
    (IsUtf8-take text (length (encode_utf8 c)) u (IsCharBoundary-at_seam text (encode_utf8 c) rest whole v))

pub begun : (text same rest : List ℕ) (c : ℕ) → IsUtf8 text → same ≡ text → same ≡ encode_utf8 c ++ rest
    → BeginsWith text c rest
begun text same rest c u e h =
    let whole : text ≡ encode_utf8 c ++ rest = sym e ∙ h in
    let v : IsUtf8 rest = IsUtf8-past_char text rest c u whole in
    record {
      cut = record { whole = whole; front_utf8 = char_utf8 text rest c u whole v; rest_utf8 = v };
      characters = chars_past_char text rest c u whole;
    }

module _ (text trimmed : List ℕ) (u : IsUtf8 text) (v : IsUtf8 trimmed) (cut : IsTrimStart text trimmed) where
  trimmed_at : drop (length text - length trimmed) text ≡ trimmed
  trimmed_at =
      ap (λ (xs : List ℕ). drop (length text - length xs) text) cut.1 ∙ end_begins cut.0 text ∙ sym cut.1

  pub trimmed_boundary : IsCharBoundary text (length text - length trimmed)
  trimmed_boundary =
      IsCharBoundary-from_drop text (length text - length trimmed) (omega arith) (subst IsUtf8 (sym trimmed_at) v)

  pub blanks_are : (run : List ℕ) → run ≡ take (length text - length trimmed) text → trimmed ≡ trim_start text
      → AreBlanks text run trimmed
  unfolding trim_start
  blanks_are run e same =
      let whole : text ≡ run ++ trimmed =
      sym (take-append-drop (length text - length trimmed) text)
      ∙ ap (λ (xs : List ℕ). xs ++ drop (length text - length trimmed) text) (sym e)
      ∙ ap (λ (xs : List ℕ). run ++ xs) trimmed_at in
      let other : text ≡ take cut.0 text ++ trimmed =
      sym (take-append-drop cut.0 text) ∙ ap (λ (xs : List ℕ). take cut.0 text ++ xs) (sym cut.1) in
      let run_is : take cut.0 text ≡ run = append_cancel_right (take cut.0 text) run trimmed (sym other ∙ whole) in
      let run_utf8 : IsUtf8 run =
      subst IsUtf8 (sym e) (IsUtf8-take text (length text - length trimmed) u trimmed_boundary) in
      let none = cut.2 in
      let cs : List ℕ = none.0 in
      let blank : cs ≡ chars run = chars_from_encodes cs run run_utf8 (none.1 ∙ run_is) in
      record {
        cut = record { whole = whole; front_utf8 = run_utf8; rest_utf8 = v };
        blank = subst (NonePass is_not_whitespace) blank none.2;
        skipped = sym (chars_from_encodes (skip_leading_whitespace (chars text)) trimmed v (sym same));
      }
