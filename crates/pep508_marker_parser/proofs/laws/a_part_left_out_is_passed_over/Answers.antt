use Rattle.pep508_marker_parser.proofs.LeftOut.{both_behind, both_before, either_behind, either_before}
use Rattle.pep508_marker_parser.proofs.laws.a_part_left_out_is_passed_over.Goals as goal

pub returns : goal.returns
returns c = λ truth f g h.
    (both_behind truth f g h, both_before truth f g h, either_behind truth f g h, either_before truth f g h)
