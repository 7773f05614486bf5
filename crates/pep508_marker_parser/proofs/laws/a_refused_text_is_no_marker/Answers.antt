use Rattle.pep508_marker_parser.proofs.Markers.{no_marker}
use Rattle.pep508_marker_parser.proofs.laws.a_refused_text_is_no_marker.Goals as goal

pub returns : goal.returns
returns c = no_marker c.a_written_marker_is_read.ensures
