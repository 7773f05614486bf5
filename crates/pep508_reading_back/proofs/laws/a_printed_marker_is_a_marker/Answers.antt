use Rattle.pep508_reading_back.proofs.WritableDiagrams.{written_marker}
use Rattle.pep508_reading_back.proofs.laws.a_printed_marker_is_a_marker.Goals as goal

pub returns : goal.returns
returns c = written_marker
