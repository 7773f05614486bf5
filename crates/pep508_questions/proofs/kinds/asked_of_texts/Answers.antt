use Rattle.std.proofs.Common.{sym, ◌∙◌}
use Rattle.pep508_questions.proofs.Boundaries.{texts_asked, old_texts, modern_texts}
use Rattle.pep508_questions.proofs.kinds.asked_of_texts.Goals as goal

pub returns-then-is_deprecated : goal.returns-then-is_deprecated
returns-then-is_deprecated c =
    texts_asked c.args.key c.args.later.now c.have_quote.result _ c.have_quote.ensures
    (old_texts c.args.key c.args.later.now c.is_empty.result
    (sym c.is_deprecated.ensures ∙ c.if-is_deprecated.true) c.is_empty.ensures)

pub returns-else-is_deprecated : goal.returns-else-is_deprecated
returns-else-is_deprecated c =
    texts_asked c.args.key c.args.later.now c.have_quote.result _ c.have_quote.ensures
    (c.if-is_deprecated.false
    ∙ modern_texts c.args.key c.args.later.now (sym c.is_deprecated.ensures ∙ c.if-is_deprecated.false))
