use Rattle.reqtable_requirements.proofs.Refusals.{first_none, first_at_end}
use Rattle.reqtable_requirements.proofs.laws.first_line_at_fault_is_named.Goals as goal

pub returns : goal.returns
returns c = record {
  none = first_none c.a_read_front_is_written.ensures c.a_written_front_is_read.ensures
      c.a_read_marker_is_written.ensures c.a_written_marker_is_read.ensures;
  at_end = first_at_end c.a_read_front_is_written.ensures c.a_written_front_is_read.ensures
      c.a_read_marker_is_written.ensures c.a_written_marker_is_read.ensures;
}
