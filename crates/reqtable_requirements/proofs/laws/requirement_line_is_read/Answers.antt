use Rattle.reqtable_requirements.proofs.Grammar.{line_found, line_again}
use Rattle.reqtable_requirements.proofs.laws.requirement_line_is_read.Goals as goal

pub returns : goal.returns
returns c = λ vars number text line. (
  line_found c.a_read_front_is_written.ensures c.a_written_front_is_read.ensures c.a_read_marker_is_written.ensures
      c.a_written_marker_is_read.ensures vars number text line,
  λ h. line_again c.a_written_front_is_read.ensures c.a_written_marker_is_read.ensures vars number text line h.0 h.1,
)
