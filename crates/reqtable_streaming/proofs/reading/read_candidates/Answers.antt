use Rattle.std.proofs.Common.{◌<◌, ◌∙◌, ◌+◌, [], ℕ, List, refl, ap, sym, rules, arith}
use Rattle.std.proofs.lemmas.Iterator.Consumers.{YieldsList-at, YieldsList-end, YieldsList-so_far}
use Rattle.std.proofs.lemmas.Iterator.Consumers.{YieldsList-turn, YieldsList-from_enumerate}
use Rattle.std.proofs.lemmas.Iterator.Splits.{YieldsList-from_str_split}
use Rattle.std.specs.Borrow.{Bor}
use Rattle.reqtable_candidates.specs.TextLines.{is_blank, text_lines, each_line}
use Rattle.reqtable_candidates.specs.Candidates.{candidate_at, told_candidates}
use Rattle.reqtable_candidates.proofs.Lines.{lines_of, numbered, seen, lines_all, lines_split, tells_all}
use Rattle.reqtable_answer.specs.Admission.{Admits, AnswersBy}
use Rattle.reqtable_streaming.specs.LinesRead.{text_of}
use Rattle.reqtable_streaming.proofs.Best.{all_begin, all_ended}
use Rattle.reqtable_streaming.proofs.LineByLine.{never, past_line}
use Rattle.reqtable_streaming.proofs.reading.read_candidates.Goals as goal
use Rattle.reqtable_streaming.proofs.Read.{judges_err}

pub returns-clause-answered : goal.returns-clause-answered
returns-clause-answered g c =
    let ascii : 10 < 128 = omega arith in
    let parts = YieldsList-at c.enumerate-index-items.ensures.source
    (YieldsList-from_str_split 10 c.args.text.now ascii c.split.ensures.text c.split.ensures.has_more c.split.ensures.pattern) in
    let all = YieldsList-at c.into_iter-index-iterator.ensures.into_iter_gives
    (YieldsList-from_enumerate parts c.enumerate-index-items.ensures.count) in
    let ended = YieldsList-end all c.loop-index.yielded _ c.loop-index.yielded_by _ _ c.in-None.is c.next.ensures.steps in
    let read = c.loop-index.invariant.read in (
      read.0,
      sym (ap (each_line candidate_at) (lines_all c.args.text.now c.loop-index.yielded ended.0)) ∙ read.1,
      λ admits asked by new. all_ended admits asked read.0 c.loop-index.packages.items (read.2 admits asked by new),
    )

pub returns-in_err-place-clause-answered : goal.returns-in_err-place-clause-answered
returns-in_err-place-clause-answered g c =
    let ascii : 10 < 128 = omega arith in
    let parts = YieldsList-at c.enumerate-index-items.ensures.source
    (YieldsList-from_str_split 10 c.args.text.now ascii c.split.ensures.text c.split.ensures.has_more c.split.ensures.pattern) in
    let all = YieldsList-at c.into_iter-index-iterator.ensures.into_iter_gives
    (YieldsList-from_enumerate parts c.enumerate-index-items.ensures.count) in
    let so_far = YieldsList-so_far all c.loop-index.yielded _ c.loop-index.yielded_by in
    let turn = YieldsList-turn all c.loop-index.yielded _ c.loop-index.yielded_by _ _ (c.in-Some.index, c.in-Some.line) c.in-Some.is c.next.ensures.steps in
    let kept = never (is_blank (text_of c.in-Some.line.now)) c.in_err-place.ensures.blank in
    let lines = lines_split c.args.text.now c.loop-index.yielded (c.in-Some.index, c.in-Some.line) so_far turn kept in
    judges_err _ _ c.in_err-place.field-0.0 (each_line candidate_at (text_lines c.args.text.now)) c.from_residual.ensures.1
    (tells_all candidate_at (text_lines c.args.text.now) (lines_of c.loop-index.yielded) c.loop-index.invariant.read.0
    (numbered (seen (c.in-Some.index, c.in-Some.line))) lines.0 (told_candidates c.in_err-place.field-0.0) lines.1
    c.loop-index.invariant.read.1 (c.in_err-place.ensures.answered kept))

pub returns-in_err-place-clause-grown : goal.returns-in_err-place-clause-grown
returns-in_err-place-clause-grown g c = λ e.
    let ascii : 10 < 128 = omega arith in
    let parts = YieldsList-at c.enumerate-index-items.ensures.source
    (YieldsList-from_str_split 10 c.args.text.now ascii c.split.ensures.text c.split.ensures.has_more c.split.ensures.pattern) in
    let all = YieldsList-at c.into_iter-index-iterator.ensures.into_iter_gives
    (YieldsList-from_enumerate parts c.enumerate-index-items.ensures.count) in
    let so_far = YieldsList-so_far all c.loop-index.yielded _ c.loop-index.yielded_by in
    let turn = YieldsList-turn all c.loop-index.yielded _ c.loop-index.yielded_by _ _ (c.in-Some.index, c.in-Some.line) c.in-Some.is c.next.ensures.steps in
    let kept = never (is_blank (text_of c.in-Some.line.now)) c.in_err-place.ensures.blank in
    let lines = lines_split c.args.text.now c.loop-index.yielded (c.in-Some.index, c.in-Some.line) so_far turn kept in
    record {
      front = lines_of c.loop-index.yielded;
      candidates = c.loop-index.invariant.read.0;
      number = c.in-Some.index + 1;
      line = text_of c.in-Some.line.now;
      back = lines.0;
      split = lines.1;
      are_candidates = c.loop-index.invariant.read.1;
      is_named = c.in_err-place.ensures.grown (search rules);
    }

pub loop-index-init : goal.loop-index-init
loop-index-init g c = record {
  can_next = search rules;
  is_finite = tt;
  names = refl;
  sound = c.requires.sound;
  read = ([], refl, λ admits all by new. all_begin admits all c.args.packages.now.items new);
}

pub loop-index-preserved : goal.loop-index-preserved
loop-index-preserved g c =
    let part : ℕ × Bor (List ℕ) = (c.in-Some.index, c.in-Some.line) in
    let old = c.loop-index.packages.items in
    let new = c.read_line.new.packages.items in
    let Lawful : Admits → Type 0 = λ admits. AnswersBy (goal.F-post g c.args.admission.now) admits in
    record {
      can_next = search rules;
      is_finite = tt;
      names = c.in_ok-place.ensures.names ∙ c.loop-index.invariant.names;
      sound = c.in_ok-place.ensures.sound;
      read = past_line Lawful c.args.packages.now.items c.loop-index.yielded part old new c.loop-index.invariant.sound
          c.loop-index.invariant.read c.in_ok-place.ensures.blank c.in_ok-place.ensures.answered;
    }
