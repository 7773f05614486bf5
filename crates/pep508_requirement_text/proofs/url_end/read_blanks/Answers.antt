use Rattle.std.proofs.Common.{sym, ◌∙◌, rules}
use Rattle.std.proofs.lemmas.List.Sorted.{answers_always}
use Rattle.pep508_requirement_text.specs.UrlEnds.{is_line_break}
use Rattle.pep508_requirement_text.proofs.UrlLoops.{ends_blank, goes_over, break_boundary, ends_broken}
use Rattle.pep508_requirement_text.proofs.url_end.read_blanks.Goals as goal

pub returns-then-is_end : goal.returns-then-is_end
returns-then-is_end c =
    ends_blank c.args.brackets c.args.depth c.args.text.now c.split_blanks.result.0.now c.split_blanks.result.1.now
    c.utf8.text c.split_blanks.ensures c.requires.blank (sym c.is_end.ensures ∙ c.if-is_end.true)

pub range_from-requires : goal.range_from-requires
range_from-requires c =
    let s = c.in-Some.ensures.cases in
    λ some. break_boundary c.args.brackets c.args.depth c.args.text.now c.split_blanks.result.0.now
    c.split_blanks.result.1.now c.split_blanks.ensures c.in-Some.place
    (s.0, s.1 is_line_break (answers_always _ _ _ (λ f a r q k. search rules)), s.2, s.3, s.4)

pub returns-in-Some : goal.returns-in-Some
returns-in-Some c =
    let s = c.in-Some.ensures.cases in
    rw c.range_from.ensures.value (ends_broken c.args.brackets c.args.depth c.args.text.now
    c.split_blanks.result.0.now c.split_blanks.result.1.now c.split_blanks.ensures c.in-Some.place
    (s.0, s.1 is_line_break (answers_always _ _ _ (λ f a r q k. search rules)), s.2, s.3, s.4)
    (sym c.is_end.ensures ∙ c.if-is_end.false) c.requires.kept)

pub returns-in-None : goal.returns-in-None
returns-in-None c =
    goes_over c.args.brackets c.args.depth c.args.text.now c.split_blanks.result.0.now c.split_blanks.result.1.now
    c.split_blanks.ensures c.requires.blank (sym c.is_end.ensures ∙ c.if-is_end.false) c.requires.kept
    (c.in-None.ensures.cases is_line_break (answers_always _ _ _ (λ f a r q k. search rules)))
