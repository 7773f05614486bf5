use Rattle.pep508_clauses.proofs.Natural.{simple_shown}
use Rattle.pep508_clauses.proofs.clauses.simplified_clauses.Goals as goal

pub returns : goal.returns
returns c = simple_shown c.args.clauses.items c.in_ok-simple.simple.items c.in_ok-simple.ensures
