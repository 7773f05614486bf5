use Rattle.pep508_reading_back.proofs.PrintedLines.{requirement_line}
use Rattle.pep508_reading_back.proofs.laws.a_printed_requirement_is_a_line.Goals as goal

pub returns : goal.returns
returns c = requirement_line
