use Rattle.pep508_marker_parser.proofs.Markers.{marker_found}
use Rattle.pep508_marker_parser.proofs.laws.a_read_marker_is_written.Goals as goal

pub returns : goal.returns
returns c = marker_found
