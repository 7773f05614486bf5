use Rattle.pep508_questions.proofs.Unasked.{unquoted}
use Rattle.pep508_questions.proofs.laws.no_quote_is_asked.Goals as goal

pub returns : goal.returns
returns c = unquoted
