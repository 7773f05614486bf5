use Rattle.reqtable_normal.proofs.SameAnswers.{its_own}
use Rattle.reqtable_normal.proofs.laws.a_normal_text_is_its_own.Goals as goal

pub returns : goal.returns
returns c = λ vars others bytes text said again read normal.
    its_own c.requirements_are_their_lines.ensures vars others bytes text said read normal again
