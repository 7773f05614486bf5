use Rattle.pep440_text.proofs.Prints.{read_printable}
use Rattle.pep440_text.proofs.laws.read_is_printable.Goals as goal

pub returns : goal.returns
returns c = read_printable
