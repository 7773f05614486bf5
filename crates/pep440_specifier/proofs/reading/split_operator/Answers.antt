use Rattle.std.proofs.Common.{rules, ◌∙◌}
use Rattle.std.proofs.lemmas.List.Sorted.{answers_always}
use Rattle.pep440_operator.specs.OperatorReading.{ends_operator}
use Rattle.pep440_specifier.proofs.Fronts.{cut_some, cut_none}
use Rattle.pep440_specifier.proofs.reading.split_operator.Goals as goal

pub returns-in-Some : goal.returns-in-Some
returns-in-Some c =
    let s = c.in-Some.ensures.cases in
    c.cut_at.ensures ∙ cut_some ends_operator c.args.text.now c.in-Some.end c.utf8.text (s.0, s.1 ends_operator (answers_always _ _ _ (λ f a r q k. search rules)), s.2, s.3, s.4)

pub returns-in-None : goal.returns-in-None
returns-in-None c = c.cut_at-in-None.ensures ∙ cut_none ends_operator c.args.text.now c.utf8.text (c.in-None.ensures.cases ends_operator (answers_always _ _ _ (λ f a r q k. search rules)))
