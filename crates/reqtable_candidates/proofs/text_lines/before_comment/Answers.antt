use Rattle.std.proofs.Common.{slice_range, take, ◌-◌, refl, ◌≢◌, ◌≡◌, ℕ, ◌&&◌, ◌==◌, ◌∙◌, ◌+◌, Bool, true}
use Rattle.std.proofs.Common.{false, length, ap, sym, subst, rules, arith, length-append}
use Rattle.std.proofs.lemmas.Bool.Decides.{nat_tests}
use Rattle.std.specs.Char.{encode_utf8, is_whitespace}
use Rattle.std.specs.Str.Iter.{char_indices_rest, char_indices_offset}
use Rattle.reqtable_candidates.specs.TextLines.{without_comment}
use Rattle.reqtable_candidates.proofs.Comments.{Scan, scan_none, scan_more, scan_stop, scan_end}
use Rattle.reqtable_candidates.proofs.text_lines.before_comment.Goals as goal
use Rattle.reqtable_candidates.proofs.text_lines.before_comment.Goals.{else-begins-via-then-begins+else-c-eq35}
use Rattle.reqtable_candidates.proofs.text_lines.before_comment.Goals.{else-begins-via-else-begins}

pub loop-at-init : goal.loop-at-init
loop-at-init c =
    let e = c.into_iter-at-iterator.ensures.into_iter_gives in
    let r : char_indices_rest c.into_iter-at-iterator.result ≡ c.args.line.now = ap char_indices_rest e ∙ c.char_indices-at-items.ensures.rest in
    let o : char_indices_offset c.into_iter-at-iterator.result ≡ 0 = ap char_indices_offset e ∙ c.char_indices-at-items.ensures.offset in
    let P : ℕ → Type 0 = λ n. Scan c.args.line.now true n (char_indices_rest c.into_iter-at-iterator.result) in
    (search rules, tt, subst P (sym o) (scan_none c.args.line.now (char_indices_rest c.into_iter-at-iterator.result) c.utf8.line r))

pub returns-then-c-eq35 : goal.returns-then-c-eq35
returns-then-c-eq35 c =
    let steps = c.in-Some.ensures.steps in
    let t : (c.loop-at.begins && c.in-Some.c == 35) ≡ true = grind (arith, nat_tests) in
    let z : char_indices_offset c.loop-at.at-iterator - 0 ≡ char_indices_offset c.loop-at.at-iterator = omega arith in
    let s : take (char_indices_offset c.loop-at.at-iterator) c.args.line.now ≡ without_comment c.args.line.now =
    scan_stop c.args.line.now (char_indices_rest c.loop-at.at-iterator) (char_indices_rest c.next.new.self) c.loop-at.begins (char_indices_offset c.loop-at.at-iterator) c.in-Some.c c.loop-at.invariant.2 steps.1 t in
    c.range.ensures.value ∙ ap (λ n. slice_range c.args.line.now 0 n) steps.0 ∙ ap (λ n. take n c.args.line.now) z ∙ s

test_fails : (begins : Bool) (c : ℕ) → c ≢ 35 → (begins && c == 35) ≡ false
test_fails true c h = grind (arith, nat_tests)
test_fails false c h = refl

pub loop-at-preserved : goal.loop-at-preserved
loop-at-preserved c =
    let steps = c.in-Some.ensures.steps in
    let s = c.loop-at.invariant.2 in
    let t : (c.loop-at.begins && c.in-Some.c == 35) ≡ false =
    elim c.else-begins.branch [ else-begins-via-then-begins+else-c-eq35 w ↦ test_fails c.loop-at.begins c.in-Some.c w.if-c-eq35.false | else-begins-via-else-begins w ↦ ap (λ b. b && c.in-Some.c == 35) w.if-begins.false ] in
    let next : Scan c.args.line.now (is_whitespace c.in-Some.c) (char_indices_offset c.loop-at.at-iterator + length (encode_utf8 c.in-Some.c)) (char_indices_rest c.next.new.self) =
    scan_more c.args.line.now (char_indices_rest c.loop-at.at-iterator) (char_indices_rest c.next.new.self) c.loop-at.begins (char_indices_offset c.loop-at.at-iterator) c.in-Some.c s steps.1 t in
    let P : Bool → Type 0 = λ b. Scan c.args.line.now b (char_indices_offset c.next.new.self) (char_indices_rest c.next.new.self) in
    let Q : ℕ → Type 0 = λ n. Scan c.args.line.now (is_whitespace c.in-Some.c) n (char_indices_rest c.next.new.self) in (
      omega (arith, c.loop-at.invariant.0, steps.2, ap length steps.1, length-append (encode_utf8 c.in-Some.c) (char_indices_rest c.next.new.self)),
      tt,
      subst P (sym c.is_whitespace-begins.ensures) (subst Q (sym steps.2) next),
    )

pub returns : goal.returns
returns c =
    scan_end c.args.line.now (char_indices_rest c.loop-at.at-iterator) c.loop-at.begins (char_indices_offset c.loop-at.at-iterator) c.loop-at.invariant.2 c.in-None.ensures.steps.0
