use Rattle.pep440_text.proofs.Prints.{printable_read}
use Rattle.pep440_text.proofs.laws.print_reads_back.Goals as goal

pub returns : goal.returns
returns c = printable_read
