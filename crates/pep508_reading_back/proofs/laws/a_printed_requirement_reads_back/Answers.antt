use Rattle.pep508_reading_back.proofs.ReadRequirements.{printed_read}
use Rattle.pep508_reading_back.proofs.Requirements.{requirement_read}
use Rattle.pep508_requirement_ref.specs.RequirementPrint.{requirement_text}
use Rattle.pep508_marker_text_laws.specs.MarkerText.{marker_text}
use Rattle.pep508_reading_back.proofs.laws.a_printed_requirement_reads_back.Goals as goal

pub returns : goal.returns
returns g c = λ vars directory nodes front d r readable canonical good k i.
    printed_read c.a_written_requirement_is_read.ensures _ nodes (requirement_text front (marker_text d)) front d r
    (requirement_read front d readable canonical good k) i
