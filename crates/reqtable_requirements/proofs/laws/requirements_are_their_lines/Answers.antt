use Rattle.reqtable_requirements.proofs.Grammar.{lines_read}
use Rattle.reqtable_requirements.proofs.laws.requirements_are_their_lines.Goals as goal

pub returns : goal.returns
returns c = lines_read c.a_read_front_is_written.ensures c.a_written_front_is_read.ensures
    c.a_read_marker_is_written.ensures c.a_written_marker_is_read.ensures
