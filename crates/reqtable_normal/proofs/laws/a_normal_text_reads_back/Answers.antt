use Rattle.reqtable_normal.proofs.SameAnswers.{reads_as, same_answers}
use Rattle.reqtable_normal.proofs.laws.a_normal_text_reads_back.Goals as goal

pub returns-clause-read : goal.returns-clause-read
returns-clause-read c = reads_as c.requirements_are_their_lines.ensures

pub returns-clause-answers : goal.returns-clause-answers
returns-clause-answers c = λ vars others bytes text said again v admits candidates answer read normal.
    same_answers c.requirements_are_their_lines.ensures vars others bytes text said read normal again v admits
    candidates answer
