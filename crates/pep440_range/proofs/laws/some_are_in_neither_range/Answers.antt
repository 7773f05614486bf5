use Rattle.pep440_range.proofs.Neither.{before, behind}
use Rattle.pep440_range.proofs.laws.some_are_in_neither_range.Goals as goal

pub returns-clause-before : goal.returns-clause-before
returns-clause-before c = before

pub returns-clause-behind : goal.returns-clause-behind
returns-clause-behind c = behind
