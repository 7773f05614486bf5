use Rattle.std.proofs.Common.{◌≡◌, ◌<◌, ◌∙◌, ◌+◌, ℕ, List, IsTrue, Ok, false, ap, sym, subst, rules, arith}
use Rattle.std.proofs.lemmas.Iterator.Consumers.{YieldsList-at, YieldsList-end, YieldsList-so_far}
use Rattle.std.proofs.lemmas.Iterator.Consumers.{YieldsList-turn, YieldsList-from_enumerate}
use Rattle.std.proofs.lemmas.Iterator.Splits.{YieldsList-from_str_split}
use Rattle.std.specs.Str.{trim}
use Rattle.std.specs.Str.Lines.{strip_carriage_return}
use Rattle.read_outcome.specs.Outcome.{Tells}
use Rattle.reqtable_candidates.specs.TextLines.{is_blank, without_comment, text_lines, each_line}
use Rattle.reqtable_candidates.specs.CandidateLine.{has_name}
use Rattle.reqtable_candidates.specs.Candidates.{candidate_at, told_candidates}
use Rattle.reqtable_candidates.proofs.Lines.{lines_of, numbered, seen, lines_all, lines_split, lines_more_kept}
use Rattle.reqtable_candidates.proofs.Lines.{each_more, tells_all, answers_err}
use Rattle.reqtable_candidates.proofs.candidates.read_candidates.Goals as goal

pub returns-clause-answered : goal.returns-clause-answered
returns-clause-answered c =
    let ascii : 10 < 128 = omega arith in
    let parts = YieldsList-at c.enumerate-index-items.ensures.source
    (YieldsList-from_str_split 10 c.args.text.now ascii c.split.ensures.text c.split.ensures.has_more c.split.ensures.pattern) in
    let all = YieldsList-at c.into_iter-index-iterator.ensures.into_iter_gives
    (YieldsList-from_enumerate parts c.enumerate-index-items.ensures.count) in
    let ended = YieldsList-end all c.loop-index.yielded _ c.loop-index.yielded_by _ _ c.in-None.is c.next.ensures.steps in
    sym (ap (each_line candidate_at) (lines_all c.args.text.now c.loop-index.yielded ended.0)) ∙ c.loop-index.invariant.2

pub returns-in_err-read_candidate-clause-answered : goal.returns-in_err-read_candidate-clause-answered
returns-in_err-read_candidate-clause-answered c =
    let ascii : 10 < 128 = omega arith in
    let parts = YieldsList-at c.enumerate-index-items.ensures.source
    (YieldsList-from_str_split 10 c.args.text.now ascii c.split.ensures.text c.split.ensures.has_more c.split.ensures.pattern) in
    let all = YieldsList-at c.into_iter-index-iterator.ensures.into_iter_gives
    (YieldsList-from_enumerate parts c.enumerate-index-items.ensures.count) in
    let so_far = YieldsList-so_far all c.loop-index.yielded _ c.loop-index.yielded_by in
    let turn = YieldsList-turn all c.loop-index.yielded _ c.loop-index.yielded_by _ _ (c.in-Some.index, c.in-Some.line) c.in-Some.is c.next.ensures.steps in
    let kept : is_blank c.line_text-line.result.now ≡ false = sym c.is_blank.ensures ∙ c.if-not-is_blank.true in
    let lines = lines_split c.args.text.now c.loop-index.yielded (c.in-Some.index, c.in-Some.line) so_far turn
    (sym (ap is_blank c.line_text-line.ensures) ∙ kept) in
    let P : List ℕ → Type 0 = λ bs. Tells (told_candidates c.in_err-read_candidate.field-0.0) (candidate_at (c.in-Some.index + 1) bs) in
    answers_err (λ read. read.items) told_candidates _ c.in_err-read_candidate.field-0.0 (each_line candidate_at (text_lines c.args.text.now)) c.from_residual.ensures.1
    (tells_all candidate_at (text_lines c.args.text.now) (lines_of c.loop-index.yielded) c.loop-index.read.items
    (numbered (seen (c.in-Some.index, c.in-Some.line))) lines.0 (told_candidates c.in_err-read_candidate.field-0.0) lines.1 c.loop-index.invariant.2
    (subst P c.line_text-line.ensures c.in_err-read_candidate.ensures.answered))

pub loop-index-preserved-in_ok-push : goal.loop-index-preserved-in_ok-push
loop-index-preserved-in_ok-push c =
    let kept : is_blank c.line_text-line.result.now ≡ false = sym c.is_blank.ensures ∙ c.if-not-is_blank.true in
    let read : candidate_at (c.in-Some.index + 1) (without_comment (strip_carriage_return c.in-Some.line.now)) ≡ Ok c.in_ok-read_candidate.field-0 =
    ap (candidate_at (c.in-Some.index + 1)) (sym c.line_text-line.ensures) ∙ c.in_ok-read_candidate.ensures.answered in (
      search rules,
      tt,
      ap (each_line candidate_at) (lines_more_kept c.loop-index.yielded (c.in-Some.index, c.in-Some.line) (sym (ap is_blank c.line_text-line.ensures) ∙ kept))
          ∙ each_more candidate_at (lines_of c.loop-index.yielded) c.loop-index.read.items (numbered (seen (c.in-Some.index, c.in-Some.line)))
          c.in_ok-read_candidate.field-0 c.loop-index.invariant.2 read
          ∙ sym (ap (λ items. Ok items) c.in_ok-push.ensures.items),
    )

pub returns-in_err-read_candidate-clause-grown : goal.returns-in_err-read_candidate-clause-grown
returns-in_err-read_candidate-clause-grown c = λ e.
    let ascii : 10 < 128 = omega arith in
    let parts = YieldsList-at c.enumerate-index-items.ensures.source
    (YieldsList-from_str_split 10 c.args.text.now ascii c.split.ensures.text c.split.ensures.has_more c.split.ensures.pattern) in
    let all = YieldsList-at c.into_iter-index-iterator.ensures.into_iter_gives
    (YieldsList-from_enumerate parts c.enumerate-index-items.ensures.count) in
    let so_far = YieldsList-so_far all c.loop-index.yielded _ c.loop-index.yielded_by in
    let turn = YieldsList-turn all c.loop-index.yielded _ c.loop-index.yielded_by _ _ (c.in-Some.index, c.in-Some.line) c.in-Some.is c.next.ensures.steps in
    let kept : is_blank c.line_text-line.result.now ≡ false = sym c.is_blank.ensures ∙ c.if-not-is_blank.true in
    let lines = lines_split c.args.text.now c.loop-index.yielded (c.in-Some.index, c.in-Some.line) so_far turn
    (sym (ap is_blank c.line_text-line.ensures) ∙ kept) in
    let P : List ℕ → Type 0 = λ bs. IsTrue (has_name (trim bs)) in
    record {
      front = lines_of c.loop-index.yielded;
      candidates = c.loop-index.read.items;
      number = c.in-Some.index + 1;
      line = without_comment (strip_carriage_return c.in-Some.line.now);
      back = lines.0;
      split = lines.1;
      are_candidates = c.loop-index.invariant.2;
      is_named = subst P c.line_text-line.ensures (c.in_err-read_candidate.ensures.grown (search rules));
    }

pub returns-in_err-push-clause-grown : goal.returns-in_err-push-clause-grown
returns-in_err-push-clause-grown c = λ e.
    let ascii : 10 < 128 = omega arith in
    let parts = YieldsList-at c.enumerate-index-items.ensures.source
    (YieldsList-from_str_split 10 c.args.text.now ascii c.split.ensures.text c.split.ensures.has_more c.split.ensures.pattern) in
    let all = YieldsList-at c.into_iter-index-iterator.ensures.into_iter_gives
    (YieldsList-from_enumerate parts c.enumerate-index-items.ensures.count) in
    let so_far = YieldsList-so_far all c.loop-index.yielded _ c.loop-index.yielded_by in
    let turn = YieldsList-turn all c.loop-index.yielded _ c.loop-index.yielded_by _ _ (c.in-Some.index, c.in-Some.line) c.in-Some.is c.next.ensures.steps in
    let kept : is_blank c.line_text-line.result.now ≡ false = sym c.is_blank.ensures ∙ c.if-not-is_blank.true in
    let lines = lines_split c.args.text.now c.loop-index.yielded (c.in-Some.index, c.in-Some.line) so_far turn
    (sym (ap is_blank c.line_text-line.ensures) ∙ kept) in
    let P : List ℕ → Type 0 = λ bs. IsTrue (has_name (trim bs)) in
    record {
      front = lines_of c.loop-index.yielded;
      candidates = c.loop-index.read.items;
      number = c.in-Some.index + 1;
      line = without_comment (strip_carriage_return c.in-Some.line.now);
      back = lines.0;
      split = lines.1;
      are_candidates = c.loop-index.invariant.2;
      is_named = subst P c.line_text-line.ensures c.in_ok-read_candidate.ensures.named;
    }
