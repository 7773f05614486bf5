use Rattle.std.proofs.Common.{rules, true}
use Rattle.reqtable_tests.proofs.tables.tests_of_two.Goals as goal

pub new-admission-requires-clause-lawful : goal.new-admission-requires-clause-lawful
new-admission-requires-clause-lawful c = ((λ version named. true), λ version named answer is. search rules)
