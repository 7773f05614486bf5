use Rattle.std.proofs.Common.{rules}
use Rattle.reqtable_list_tests.proofs.lists.answer_of.Goals as goal

pub new-admission-requires-clause-lawful : goal.new-admission-requires-clause-lawful
new-admission-requires-clause-lawful c = (λ version named. named, λ version named answer h. search rules)
