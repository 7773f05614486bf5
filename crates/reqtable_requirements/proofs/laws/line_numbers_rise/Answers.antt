use Rattle.reqtable_requirements.proofs.Numbers.{numbers_rise}
use Rattle.reqtable_requirements.proofs.laws.line_numbers_rise.Goals as goal

pub returns : goal.returns
returns c = λ vars nodes bytes lines h.
    numbers_rise vars nodes bytes lines h.0 ((c.requirements_are_their_lines.ensures vars bytes h.0).0 h.1).1 h.2
