use Rattle.std.proofs.Common.{rules, ◌∙◌}
use Rattle.std.proofs.lemmas.List.Sorted.{answers_always}
use Rattle.std.specs.Char.{is_whitespace}
use Rattle.pep440_specifier.proofs.Fronts.{cut_some, cut_none}
use Rattle.pep440_specifier.proofs.reading.split_word.Goals as goal

pub returns-in-Some : goal.returns-in-Some
returns-in-Some c =
    let s = c.in-Some.ensures.cases in
    c.cut_at.ensures ∙ cut_some is_whitespace c.args.text.now c.in-Some.end c.utf8.text (s.0, s.1 is_whitespace (answers_always _ _ _ (λ f a r q k. search rules)), s.2, s.3, s.4)

pub returns-in-None : goal.returns-in-None
returns-in-None c = c.cut_at-in-None.ensures ∙ cut_none is_whitespace c.args.text.now c.utf8.text (c.in-None.ensures.cases is_whitespace (answers_always _ _ _ (λ f a r q k. search rules)))
