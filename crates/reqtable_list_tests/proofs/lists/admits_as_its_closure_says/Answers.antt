use Rattle.std.proofs.Common.{rules}
use Rattle.reqtable_list_tests.proofs.lists.admits_as_its_closure_says.Goals as goal

pub new-admission-requires-clause-lawful : goal.new-admission-requires-clause-lawful
new-admission-requires-clause-lawful g c = (λ version named. named, λ version named answer h. search rules)
