use Rattle.std.proofs.Common.{◌≡◌, ◌<◌, ◌∙◌, ◌+◌, ◌++◌, ◌∷◌, [], ℕ, List, Ok, Err, false, ap, sym, subst}
use Rattle.std.proofs.Common.{rules, arith}
use Rattle.std.proofs.lemmas.Iterator.Consumers.{YieldsList-at, YieldsList-end, YieldsList-so_far}
use Rattle.std.proofs.lemmas.Iterator.Consumers.{YieldsList-turn, YieldsList-from_enumerate}
use Rattle.std.proofs.lemmas.Iterator.Splits.{YieldsList-from_str_split}
use Rattle.reqtable_candidates.specs.TextLines.{is_blank, text_lines, each_line}
use Rattle.reqtable_candidates.proofs.Lines.{lines_of, numbered, seen, lines_all, lines_split, lines_more_kept}
use Rattle.reqtable_requirements.specs.declared.marked.MarkedLine.{MarkedLine}
use Rattle.reqtable_requirements.specs.LineReading.{line_of}
use Rattle.reqtable_requirements.specs.Requirements.{SaysLine, ReadsLine}
use Rattle.reqtable_requirements.proofs.Lines.{AreReadOf, one_more, refused, lines_err}
use Rattle.reqtable_requirements.proofs.marked.read_lines.Goals as goal

pub returns-in_err-read_line : goal.returns-in_err-read_line
returns-in_err-read_line c =
    let ascii : 10 < 128 = omega arith in
    let parts = YieldsList-at c.enumerate-index-items.ensures.source
    (YieldsList-from_str_split 10 c.args.text.now ascii c.split.ensures.text c.split.ensures.has_more c.split.ensures.pattern) in
    let all = YieldsList-at c.into_iter-index-iterator.ensures.into_iter_gives
    (YieldsList-from_enumerate parts c.enumerate-index-items.ensures.count) in
    let so_far = YieldsList-so_far all c.loop-index.yielded _ c.loop-index.yielded_by in
    let turn = YieldsList-turn all c.loop-index.yielded _ c.loop-index.yielded_by _ _ (c.in-Some.index, c.in-Some.line) c.in-Some.is c.next.ensures.steps in
    let kept : is_blank c.line_text-line.result.now ≡ false = sym c.is_blank.ensures ∙ c.if-not-is_blank.true in
    let lines = lines_split c.args.text.now c.loop-index.yielded (c.in-Some.index, c.in-Some.line) so_far turn
    (sym (ap is_blank c.line_text-line.ensures) ∙ kept) in
    let P : List ℕ → Type 0 = λ bs. ReadsLine c.args.vars.now (c.in-Some.index + 1) bs (Err c.in_err-read_line.field-0.0) in
    lines_err (SaysLine c.args.vars.now) (λ read. read.items) c.args.vars.now (text_lines c.args.text.now)
    (each_line (line_of c.args.vars.now) (text_lines c.args.text.now)) c.from_residual.result c.in_err-read_line.field-0.0 c.from_residual.ensures.1
    (refused c.args.vars.now (lines_of c.loop-index.yielded) c.loop-index.read.items c.loop-index.invariant.are_read (numbered (seen (c.in-Some.index, c.in-Some.line)))
    (text_lines c.args.text.now) lines.0 c.in_err-read_line.field-0.0 lines.1
    (subst P c.line_text-line.ensures c.in_err-read_line.ensures))

pub loop-index-preserved-in_ok-push : goal.loop-index-preserved-in_ok-push
loop-index-preserved-in_ok-push c =
    let vars = c.args.vars.now in
    let line = c.in_ok-read_line.field-0 in
    let kept : is_blank c.line_text-line.result.now ≡ false = sym c.is_blank.ensures ∙ c.if-not-is_blank.true in
    let P : List ℕ → Type 0 = λ bs. ReadsLine vars (c.in-Some.index + 1) bs (Ok line) in
    let more : AreReadOf vars (lines_of c.loop-index.yielded ++ numbered (seen (c.in-Some.index, c.in-Some.line)) ∷ []) (c.loop-index.read.items ++ line ∷ []) =
    one_more vars (lines_of c.loop-index.yielded) c.loop-index.read.items
    c.loop-index.invariant.are_read (numbered (seen (c.in-Some.index, c.in-Some.line))) line
    (subst P c.line_text-line.ensures c.in_ok-read_line.ensures) in
    let Q : List (ℕ × List ℕ) → Type 0 = λ texts. AreReadOf vars texts (c.loop-index.read.items ++ line ∷ []) in
    let R : List MarkedLine → Type 0 = λ lines. AreReadOf vars (lines_of (c.loop-index.yielded ++ (c.in-Some.index, c.in-Some.line) ∷ [])) lines in
    record {
      can_next = search rules;
      is_finite = tt;
      are_read = subst R (sym c.in_ok-push.ensures.items)
          (subst Q (sym (lines_more_kept c.loop-index.yielded (c.in-Some.index, c.in-Some.line) (sym (ap is_blank c.line_text-line.ensures) ∙ kept))) more);
    }

pub returns : goal.returns
returns c =
    let ascii : 10 < 128 = omega arith in
    let parts = YieldsList-at c.enumerate-index-items.ensures.source
    (YieldsList-from_str_split 10 c.args.text.now ascii c.split.ensures.text c.split.ensures.has_more c.split.ensures.pattern) in
    let all = YieldsList-at c.into_iter-index-iterator.ensures.into_iter_gives
    (YieldsList-from_enumerate parts c.enumerate-index-items.ensures.count) in
    let ended = YieldsList-end all c.loop-index.yielded _ c.loop-index.yielded_by _ _ c.in-None.is c.next.ensures.steps in
    let read = c.loop-index.invariant.are_read in (
      read.0,
      sym (ap (each_line (line_of c.args.vars.now)) (lines_all c.args.text.now c.loop-index.yielded ended.0)) ∙ read.1,
      read.2,
    )
