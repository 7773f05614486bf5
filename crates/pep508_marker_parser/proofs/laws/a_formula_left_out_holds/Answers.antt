use Rattle.pep508_marker_parser.proofs.LeftOut.{left_out_holds}
use Rattle.pep508_marker_parser.proofs.laws.a_formula_left_out_holds.Goals as goal

pub returns : goal.returns
returns c = left_out_holds
