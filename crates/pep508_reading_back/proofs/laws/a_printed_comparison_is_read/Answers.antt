use Rattle.pep508_reading_back.proofs.Clauses.{term_written}
use Rattle.pep508_reading_back.proofs.laws.a_printed_comparison_is_read.Goals as goal

pub returns : goal.returns
returns c = term_written
