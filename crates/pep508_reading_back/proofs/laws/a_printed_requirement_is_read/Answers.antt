use Rattle.pep508_reading_back.proofs.Requirements.{unmarked_read, marked_read}
use Rattle.pep508_reading_back.proofs.laws.a_printed_requirement_is_read.Goals as goal

pub returns : goal.returns
returns c = record { plain = unmarked_read; marked = marked_read }
