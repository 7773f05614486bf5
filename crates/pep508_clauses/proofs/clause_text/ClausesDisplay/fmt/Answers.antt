use Rattle.std.proofs.Common.{rules}
use Rattle.pep508_clauses.proofs.Texts.{joined_all}
use Rattle.pep508_clauses.proofs.clause_text.ClausesDisplay.fmt.Goals as goal

pub returns-else-is_empty-clause-writes : goal.returns-else-is_empty-clause-writes
returns-else-is_empty-clause-writes g c =
    rw (joined_all c.args.self.now.clauses.now c.in-Some.first.now c.in-Some.others.now (search rules)
    (search rules)) (search rules)
