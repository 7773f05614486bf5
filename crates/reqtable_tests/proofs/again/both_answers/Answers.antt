use Rattle.reqtable_tests.proofs.again.both_answers.Goals as goal

pub returns-clause-second : goal.returns-clause-second
returns-clause-second g c = λ said admits keeps by.
    c.in_ok-second.ensures.answered said admits (c.in_ok-first.ensures.serves.lines said keeps) by
