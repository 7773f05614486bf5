use Rattle.std.proofs.Common.{sym}
use Rattle.pep508_marker_parser.proofs.parse_marker.MarkerTreeMarkerTreeReading.from_value.Goals as goal

pub returns-in-Err-clause-answered : goal.returns-in-Err-clause-answered
returns-in-Err-clause-answered c = λ old. rw (sym c.in-Some.ensures) (c.in-Err.ensures.read old)
