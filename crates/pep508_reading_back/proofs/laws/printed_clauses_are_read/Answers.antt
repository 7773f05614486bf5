use Rattle.pep508_reading_back.proofs.Clauses.{clauses_are_read}
use Rattle.pep508_reading_back.proofs.laws.printed_clauses_are_read.Goals as goal

pub returns : goal.returns
returns c = clauses_are_read
