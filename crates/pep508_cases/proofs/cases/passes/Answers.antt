use Rattle.std.proofs.Common.{take, rules}
use Rattle.pep508_cases.proofs.Prefixes.{too_many}
use Rattle.pep508_cases.proofs.cases.passes.Goals as goal

pub returns-then-len-limit-2-clause-many : goal.returns-then-len-limit-2-clause-many
returns-then-len-limit-2-clause-many c = λ t trees k marked.
    too_many c.args.interner.now.nodes c.cases_of.new.interner.nodes c.args.limit k trees c.in_ok-cases.cases.items
    (c.in_ok-cases.ensures.cases (take k trees) marked) (search rules)
