use Rattle.std.proofs.lemmas.Result.{IfOk-weaker}
use Rattle.reqtable_tests.proofs.again.answer_after_reading.Goals as goal

pub returns : goal.returns
returns g c =
    IfOk-weaker c.answer-2.result _ _
    (λ answer h said admits keeps by.
    h said admits ((c.in_ok-answer.ensures.lasts c.parse.new.interner.nodes c.parse.ensures.keeps).lines said keeps) by)
    c.answer-2.ensures.answered

pub answer-requires-2-clause-cases : goal.answer-requires-2-clause-cases
answer-requires-2-clause-cases g c = (c.answer.ensures.lasts c.parse.new.interner.nodes c.parse.ensures.keeps).cases
