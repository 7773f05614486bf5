-- Sets by their runs: one behind the other, their order, and the places of their members.
use Rattle.std.proofs.Common.{◌≡◌, ℕ, zero, suc, ◌+◌, ◌-◌, ◌<◌, ◌≤◌, ◌==◌, ◌%◌, ◌&&◌, ◌||◌, ◌++◌, List, [], ◌∷◌, length, true, false, not, Bool}
use Rattle.std.proofs.Common.{refl, ap, sym, ◌∙◌, arith, replicate, take, drop, min, true≢false}
use Rattle.std.proofs.lemmas.List.{append-nil, append_assoc, length-append, length-replicate, replicate-append-replicate}
use Rattle.std.specs.Bool.{beq}
use Rattle.std.proofs.lemmas.Bool.Decides.{nat_tests}
use Rattle.std.specs.Ordering.{ordering_reverse}
use Rattle.pep508_cases.specs.Cases.{Marks, marks_cmp}
use Rattle.pep508_cases.specs.Sets.{marks_by, mark_after, marked, marks_meet, places_from, ended_cmp}

pub not_not : (mark : Bool) → mark ≡ not (not mark)
not_not true = refl
not_not false = refl

-- ---- the mark after some runs

pub after_evenly : (mark : Bool) (runs : List ℕ) →
    (length runs % 2 ≡ 0 → mark ≡ mark_after mark runs) × (length runs % 2 ≡ 1 → not mark ≡ mark_after mark runs)
after_evenly mark [] = ((λ e. refl), (λ e. absurd (omega (arith, e))))
after_evenly mark (run ∷ runs) =
    let before = after_evenly (not mark) runs in
    ((λ e. not_not mark ∙ before.1 (omega (arith, e))), (λ e. before.0 (omega (arith, e))))

-- no runs are of no trees, whichever mark comes first
pub none_by : (first mark : Bool) (runs : List ℕ) → length runs ≡ 0 → marks_by first runs ≡ marks_by mark runs
none_by first mark [] e = refl
none_by first mark (run ∷ runs) e = absurd (omega (arith, e))

-- ---- one behind the other

pub appended : (mark : Bool) (runs later : List ℕ) →
    marks_by mark (runs ++ later) ≡ marks_by mark runs ++ marks_by (mark_after mark runs) later
appended mark [] later = refl
appended mark (run ∷ runs) later =
    ap (λ xs. replicate (suc run) mark ++ xs) (appended (not mark) runs later)
    ∙ sym (append_assoc (replicate (suc run) mark) (marks_by (not mark) runs) (marks_by (mark_after mark (run ∷ runs)) later))

grouped : (mark : Bool) (last run : ℕ) (xs : Marks) →
    replicate (suc (last + run + 1)) mark ++ xs ≡ (replicate (suc last) mark ++ []) ++ (replicate (suc run) mark ++ xs)
grouped mark last run xs =
    let count : suc (last + run + 1) ≡ suc last + suc run = omega arith in
    ap (λ n. replicate n mark ++ xs) count
    ∙ ap (λ r. r ++ xs) (sym (replicate-append-replicate (suc last) (suc run) mark))
    ∙ append_assoc (replicate (suc last) mark) (replicate (suc run) mark) xs
    ∙ ap (λ r. r ++ (replicate (suc run) mark ++ xs)) (sym (append-nil (replicate (suc last) mark)))

after_turn : (mark : Bool) (runs : List ℕ) (run : ℕ) → mark_after mark (runs ++ run ∷ []) ≡ not (mark_after mark runs)
after_turn mark [] run = refl
after_turn mark (r ∷ runs) run = after_turn (not mark) runs run

-- one tree more, of the last run or of a new one
pub one_longer : (first : Bool) (runs : List ℕ) (run : ℕ) →
    marks_by first (runs ++ (run + 1) ∷ []) ≡ marks_by first (runs ++ run ∷ []) ++ mark_after first runs ∷ []
one_longer first runs run =
    let mark = mark_after first runs in
    let long : suc (run + 1) ≡ suc run + 1 = omega arith in
    appended first runs ((run + 1) ∷ [])
    ∙ ap (λ n. marks_by first runs ++ (replicate n mark ++ [])) long
    ∙ ap (λ r. marks_by first runs ++ (r ++ [])) (sym (replicate-append-replicate (suc run) 1 mark))
    ∙ ap (λ r. marks_by first runs ++ r) (append_assoc (replicate (suc run) mark) (mark ∷ []) [])
    ∙ sym (append_assoc (marks_by first runs) (replicate (suc run) mark) (mark ∷ []))
    ∙ ap (λ r. (marks_by first runs ++ r) ++ mark ∷ []) (sym (append-nil (replicate (suc run) mark)))
    ∙ ap (λ r. r ++ mark ∷ []) (sym (appended first runs (run ∷ [])))

pub one_turned : (first : Bool) (runs : List ℕ) (run : ℕ) →
    marks_by first ((runs ++ run ∷ []) ++ 0 ∷ []) ≡ marks_by first (runs ++ run ∷ []) ++ not (mark_after first runs) ∷ []
one_turned first runs run =
    appended first (runs ++ run ∷ []) (0 ∷ [])
    ∙ ap (λ m. marks_by first (runs ++ run ∷ []) ++ m ∷ []) (after_turn first runs run)

-- a run that goes on with the last one
pub merged : (mark : Bool) (front : List ℕ) (last run : ℕ) (others : List ℕ) →
    marks_by mark (front ++ (last + run + 1) ∷ others)
    ≡ marks_by mark (front ++ last ∷ []) ++ marks_by (not (mark_after mark (front ++ last ∷ []))) (run ∷ others)
merged true [] last run others = grouped true last run (marks_by false others)
merged false [] last run others = grouped false last run (marks_by true others)
merged mark (f ∷ front) last run others =
    ap (λ xs. replicate (suc f) mark ++ xs) (merged (not mark) front last run others)
    ∙ sym (append_assoc (replicate (suc f) mark) (marks_by (not mark) (front ++ last ∷ []))
    (marks_by (not (mark_after mark (f ∷ (front ++ last ∷ [])))) (run ∷ others)))

pub long_behind : (mark : Bool) (run : ℕ) (runs : List ℕ) →
    length (marks_by mark (run ∷ runs)) ≡ suc run + length (marks_by (not mark) runs)
long_behind mark run runs =
    length-append (replicate (suc run) mark) (marks_by (not mark) runs)
    ∙ ap (λ n. n + length (marks_by (not mark) runs)) (length-replicate (suc run) mark)

pub long_alike : (mark other : Bool) (runs : List ℕ) → length (marks_by mark runs) ≡ length (marks_by other runs)
long_alike mark other [] = refl
long_alike mark other (run ∷ runs) =
    long_behind mark run runs ∙ ap (λ n. suc run + n) (long_alike (not mark) (not other) runs)
    ∙ sym (long_behind other run runs)

pub last_within : (mark : Bool) (front : List ℕ) (last : ℕ) → last < length (marks_by mark (front ++ last ∷ []))
last_within mark [] last = let e = long_behind mark last [] in omega (arith, e)
last_within mark (f ∷ front) last =
    let e = long_behind mark f (front ++ last ∷ []) in
    let within = last_within (not mark) front last in
    omega (arith, e, within)

-- ---- the order

pub runs_alike : (mark : Bool) (n : ℕ) (xs ys : Marks) →
    marks_cmp (replicate n mark ++ xs) (replicate n mark ++ ys) ≡ marks_cmp xs ys
runs_alike mark zero xs ys = refl
runs_alike true (suc n) xs ys = runs_alike true n xs ys
runs_alike false (suc n) xs ys = runs_alike false n xs ys

pub run_less : (mark : Bool) (x y : ℕ) (later : List ℕ) (ys : Marks) → x < y →
    marks_cmp (replicate x mark ++ marks_by (not mark) later) (replicate y mark ++ ys)
    ≡ ended_cmp mark (not (length later == 0))
run_less mark x zero later ys h = absurd (omega (arith, h))
run_less true zero (suc y) [] ys h = refl
run_less true zero (suc y) (run ∷ later) ys h =
    let some : (suc (length later) == 0) ≡ false = grind (arith, nat_tests) in
    ap (λ none. ended_cmp true (not none)) (sym some)
run_less false zero (suc y) [] ys h = refl
run_less false zero (suc y) (run ∷ later) ys h = refl
run_less true (suc x) (suc y) later ys h = run_less true x y later ys (omega (arith, h))
run_less false (suc x) (suc y) later ys h = run_less false x y later ys (omega (arith, h))

pub run_more : (mark : Bool) (x y : ℕ) (xs : Marks) (later : List ℕ) → y < x →
    marks_cmp (replicate x mark ++ xs) (replicate y mark ++ marks_by (not mark) later)
    ≡ ordering_reverse (ended_cmp mark (not (length later == 0)))
run_more mark zero y xs later h = absurd (omega (arith, h))
run_more true (suc x) zero xs [] h = refl
run_more true (suc x) zero xs (run ∷ later) h =
    let some : (suc (length later) == 0) ≡ false = grind (arith, nat_tests) in
    ap (λ none. ordering_reverse (ended_cmp true (not none))) (sym some)
run_more false (suc x) zero xs [] h = refl
run_more false (suc x) zero xs (run ∷ later) h = refl
run_more true (suc x) (suc y) xs later h = run_more true x y xs later (omega (arith, h))
run_more false (suc x) (suc y) xs later h = run_more false x y xs later (omega (arith, h))

pub same_from : (a b : Bool) → beq a b ≡ true → a ≡ b
same_from true true e = refl
same_from true false e = absurd (true≢false (sym e))
same_from false true e = absurd (true≢false (sym e))
same_from false false e = refl

pub other_from : (a b : Bool) → beq a b ≡ false → not a ≡ b
other_from true true e = absurd (true≢false e)
other_from true false e = refl
other_from false true e = refl
other_from false false e = absurd (true≢false e)

-- ---- some trees more of two sets

pub split_run : (mark : Bool) (count run : ℕ) (xs : Marks) → count < run →
    replicate (suc run) mark ++ xs ≡ replicate (suc count) mark ++ (replicate (suc (run - count - 1)) mark ++ xs)
split_run mark count run xs h =
    let long : suc run ≡ suc count + suc (run - count - 1) = omega (arith, h) in
    ap (λ n. replicate n mark ++ xs) long
    ∙ ap (λ r. r ++ xs) (sym (replicate-append-replicate (suc count) (suc (run - count - 1)) mark))
    ∙ append_assoc (replicate (suc count) mark) (replicate (suc (run - count - 1)) mark) xs

pub not_both : (mark other : Bool) → other ≡ false → (mark && other) ≡ false
not_both true other e = e
not_both false other e = refl

pub runs_apart : (mark other : Bool) (n : ℕ) (xs ys : Marks) → (mark && other) ≡ false →
    marks_meet (replicate n mark ++ xs) (replicate n other ++ ys) ≡ marks_meet xs ys
runs_apart mark other zero xs ys e = refl
runs_apart mark other (suc n) xs ys e =
    ap (λ b. b || marks_meet (replicate n mark ++ xs) (replicate n other ++ ys)) e ∙ runs_apart mark other n xs ys e

none_marked : (marks : Marks) (ns : List ℕ) → ns ≡ [] → marked marks ns ≡ []
none_marked [] ns e = refl
none_marked (b ∷ marks) [] e = refl
none_marked (b ∷ marks) (x ∷ ns) e = absurd (cc)

take_most : (k n : ℕ) (ns : List ℕ) → k ≡ min n (length ns) → take k ns ≡ take n ns
take_most zero zero ns e = refl
take_most (suc k) zero ns e = absurd (omega (arith, e))
take_most zero (suc n) [] e = refl
take_most (suc k) (suc n) [] e = refl
take_most zero (suc n) (x ∷ ns) e = absurd (omega (arith, e))
take_most (suc k) (suc n) (x ∷ ns) e = ap (λ l. x ∷ l) (take_most k n ns (omega (arith, e)))

drop_most : (k n : ℕ) (ns : List ℕ) → k ≡ min n (length ns) → drop k ns ≡ drop n ns
drop_most zero zero ns e = refl
drop_most (suc k) zero ns e = absurd (omega (arith, e))
drop_most zero (suc n) [] e = refl
drop_most (suc k) (suc n) [] e = refl
drop_most zero (suc n) (x ∷ ns) e = absurd (omega (arith, e))
drop_most (suc k) (suc n) (x ∷ ns) e = drop_most k n ns (omega (arith, e))

pub marked_run : (n : ℕ) (xs : Marks) (ns : List ℕ) →
    marked (replicate n true ++ xs) ns ≡ take n ns ++ marked xs (drop n ns)
marked_run zero xs ns = refl
marked_run (suc n) xs [] = sym (none_marked xs [] refl)
marked_run (suc n) xs (x ∷ ns) = ap (λ l. x ∷ l) (marked_run n xs ns)

pub unmarked_run : (n : ℕ) (xs : Marks) (ns : List ℕ) → marked (replicate n false ++ xs) ns ≡ marked xs (drop n ns)
unmarked_run zero xs ns = refl
unmarked_run (suc n) xs [] = sym (none_marked xs [] refl)
unmarked_run (suc n) xs (x ∷ ns) = unmarked_run n xs ns

-- what a run selects, and what is left after it
pub selected : (found more own later : List ℕ) (mark : Bool) (k run : ℕ) (runs left whole : List ℕ) →
    k ≡ min (suc run) (length left) → own ≡ take k left → later ≡ drop k left → mark ≡ true → more ≡ found ++ own →
    (found ++ marked (marks_by mark (run ∷ runs)) left) ≡ whole →
    (more ++ marked (marks_by (not mark) runs) later) ≡ whole
selected found more own later true k run runs left whole ends front back is added before =
    let xs = marks_by false runs in
    (λ i. added i ++ marked xs (back i))
    ∙ (λ i. (found ++ front i) ++ marked xs (drop_most k (suc run) left ends i))
    ∙ (λ i. (found ++ take_most k (suc run) left ends i) ++ marked xs (drop (suc run) left))
    ∙ append_assoc found (take (suc run) left) (marked xs (drop (suc run) left))
    ∙ ap (λ l. found ++ l) (sym (marked_run (suc run) xs left)) ∙ before
selected found more own later false k run runs left whole ends front back is added before = absurd (true≢false (sym is))

pub left_out : (found later : List ℕ) (mark : Bool) (k run : ℕ) (runs left whole : List ℕ) →
    k ≡ min (suc run) (length left) → later ≡ drop k left → mark ≡ false →
    (found ++ marked (marks_by mark (run ∷ runs)) left) ≡ whole →
    (found ++ marked (marks_by (not mark) runs) later) ≡ whole
left_out found later true k run runs left whole ends back is before = absurd (true≢false is)
left_out found later false k run runs left whole ends back is before =
    let xs = marks_by true runs in
    (λ i. found ++ marked xs ((back ∙ drop_most k (suc run) left ends) i))
    ∙ ap (λ l. found ++ l) (sym (unmarked_run (suc run) xs left)) ∙ before

-- ---- places

pub places_behind : (at n : ℕ) (mark : Bool) (marks : Marks) →
    places_from at (replicate n mark ++ marks) ≡ places_from at (replicate n mark) ++ places_from (at + n) marks
places_behind at zero mark marks = ap (λ k. places_from k marks) (omega arith)
places_behind at (suc n) true marks =
    ap (λ places. at ∷ places) (places_behind (suc at) n true marks
    ∙ ap (λ k. places_from (suc at) (replicate n true) ++ places_from k marks) (omega arith))
places_behind at (suc n) false marks =
    places_behind (suc at) n false marks
    ∙ ap (λ k. places_from (suc at) (replicate n false) ++ places_from k marks) (omega arith)

pub no_places : (at n : ℕ) → places_from at (replicate n false) ≡ []
no_places at zero = refl
no_places at (suc n) = no_places (suc at) n

-- the places of one run more, and what is left of the marks
pub run_next : (found more : List ℕ) (at end run : ℕ) (mark : Bool) (runs : List ℕ) (i : ℕ) (whole : List ℕ) →
    drop i runs ≡ run ∷ drop (i + 1) runs → at + suc run ≡ end →
    more ≡ found ++ places_from at (replicate (suc run) mark) →
    (found ++ places_from at (marks_by mark (drop i runs))) ≡ whole →
    (more ++ places_from end (marks_by (not mark) (drop (i + 1) runs))) ≡ whole
run_next found more at end run mark runs i whole is ends added before =
    let later = marks_by (not mark) (drop (i + 1) runs) in
    ap (λ xs. xs ++ places_from end later) added
    ∙ append_assoc found (places_from at (replicate (suc run) mark)) (places_from end later)
    ∙ ap (λ k. found ++ (places_from at (replicate (suc run) mark) ++ places_from k later)) (sym ends)
    ∙ ap (λ xs. found ++ xs) (sym (places_behind at (suc run) mark later))
    ∙ ap (λ rs. found ++ places_from at (marks_by mark rs)) (sym is)
    ∙ before

pub long_next : (at run : ℕ) (mark : Bool) (runs : List ℕ) (i whole : ℕ) → drop i runs ≡ run ∷ drop (i + 1) runs →
    at + length (marks_by mark (drop i runs)) ≡ whole →
    at + run + 1 + length (marks_by (not mark) (drop (i + 1) runs)) ≡ whole
long_next at run mark runs i whole is before =
    let later = long_behind mark run (drop (i + 1) runs) in
    let same = ap (λ rs. length (marks_by mark rs)) is in
    omega (arith, later, same, before)

pub none_listed : (found : List ℕ) (mark : Bool) (at n : ℕ) → mark ≡ false →
    found ≡ found ++ places_from at (replicate n mark)
none_listed found true at n e = absurd (true≢false e)
none_listed found false at n e = sym (append-nil found) ∙ ap (λ xs. found ++ xs) (sym (no_places at n))

-- ---- the runs of marks

-- a run, and those before it, of the first marks
pub record IsSplit (first : Bool) (later : Marks) (index : ℕ) (runs : List ℕ) (mark : Bool) (run : ℕ) : Type 0 where
  pub marks : marks_by first (runs ++ run ∷ []) ≡ first ∷ take index later
  pub last : mark ≡ mark_after first runs
  pub small : run ≤ index

pub goes_on : (first : Bool) (later : Marks) (i : ℕ) (runs : List ℕ) (mark next : Bool) (run : ℕ) →
    take (i + 1) later ≡ take i later ++ next ∷ [] → beq next mark ≡ true → IsSplit first later i runs mark run →
    IsSplit first later (i + 1) runs mark (run + 1)
goes_on first later i runs mark next run more same h = record {
  marks =
      one_longer first runs run ∙ ap (λ xs. xs ++ mark_after first runs ∷ []) h.marks
      ∙ ap (λ m. first ∷ (take i later ++ m ∷ [])) (sym (same_from next mark same ∙ h.last))
      ∙ ap (λ xs. first ∷ xs) (sym more);
  last = h.last;
  small = omega (arith, h.small);
}

pub turns : (first : Bool) (later : Marks) (i : ℕ) (runs : List ℕ) (mark next : Bool) (run : ℕ) →
    take (i + 1) later ≡ take i later ++ next ∷ [] → beq next mark ≡ false → IsSplit first later i runs mark run →
    IsSplit first later (i + 1) (runs ++ run ∷ []) next 0
turns first later i runs mark next run more other h =
    let turned : next ≡ not (mark_after first runs) =
    not_not next ∙ ap not (other_from next mark other ∙ h.last) in
    record {
      marks =
          one_turned first runs run ∙ ap (λ xs. xs ++ not (mark_after first runs) ∷ []) h.marks
          ∙ ap (λ m. first ∷ (take i later ++ m ∷ [])) (sym turned) ∙ ap (λ xs. first ∷ xs) (sym more);
      last = turned ∙ sym (after_turn first runs run);
      small = omega arith;
    }

pub split_is : (first : Bool) (later : Marks) (i : ℕ) (runs now : List ℕ) (mark last : Bool) (run end : ℕ) →
    now ≡ runs → last ≡ mark → end ≡ run → IsSplit first later i runs mark run → IsSplit first later i now last end
split_is first later i runs now mark last run end a b e h = record {
  marks = (λ k. marks_by first (a k ++ e k ∷ [])) ∙ h.marks;
  last = b ∙ h.last ∙ ap (mark_after first) (sym a);
  small = omega (arith, e, h.small);
}
