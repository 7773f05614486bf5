use Rattle.pep508_reading_back.proofs.Diagrams.{text_read}
use Rattle.pep508_reading_back.proofs.laws.a_printed_marker_means_its_diagram.Goals as goal

pub returns : goal.returns
returns c = text_read
