use Rattle.pep508_marker_parser.proofs.Markers.{one_marker}
use Rattle.pep508_marker_parser.proofs.laws.a_text_has_one_marker.Goals as goal

pub returns : goal.returns
returns c = one_marker c.a_written_marker_is_read.ensures
