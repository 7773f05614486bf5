use Rattle.pep508_marker_parser.proofs.Markers.{marker_again}
use Rattle.pep508_marker_parser.proofs.laws.a_written_marker_is_read.Goals as goal

pub returns : goal.returns
returns c = marker_again
