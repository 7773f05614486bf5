use Rattle.std.proofs.Common.{arith}
use Rattle.std.proofs.lemmas.Grind.{text_groups}
use Rattle.reqtable_answer.proofs.grouping.add_ask.Goals as goal

pub returns-clause-packages : goal.returns-clause-packages
returns-clause-packages c = λ q. grind (arith, text_groups)

pub returns-clause-asks : goal.returns-clause-asks
returns-clause-asks c = λ q. grind (arith, text_groups)

pub returns-clause-candidates : goal.returns-clause-candidates
returns-clause-candidates c = λ q. grind (arith, text_groups)
