use Rattle.std.proofs.Common.{refl, subst}
use Rattle.pep508_cases.specs.Cases.{marks_of, AreCases}
use Rattle.pep508_cases.specs.Seen.{cases_seen}
use Rattle.pep508_cases.specs.Last.{IsOf}
use Rattle.pep508_cases.proofs.Last.{last_kept, last_found, has_cases}
use Rattle.pep508_cases.proofs.last_cases.LastCases.find.Goals as goal

pub returns-then-has-clause-cases : goal.returns-then-has-clause-cases
returns-then-has-clause-cases c =
    let nodes = c.args.interner.now.nodes in
    let last = c.args.self.now in
    let is : IsOf last c.args.trees.items c.args.limit = c.has.ensures c.if-has.true in
    subst (λ trees. AreCases (marks_of nodes trees) nodes (cases_seen last.cases.items)) is.same
    (has_cases nodes last is.some c.requires.last).are

pub returns-then-has-clause-few : goal.returns-then-has-clause-few
returns-then-has-clause-few c = (c.has.ensures c.if-has.true).few

pub returns-in-Ok-clause-last : goal.returns-in-Ok-clause-last
returns-in-Ok-clause-last c =
    last_found c.args.interner.now.nodes c.tree_cases.new.interner.nodes
    (record { trees = c.args.trees; cases = c.in-Ok.cases }) c.args.trees.items c.in-Ok.ensures.keeps c.requires.trees refl
    (subst (λ trees. AreCases (marks_of c.args.interner.now.nodes trees) c.tree_cases.new.interner.nodes (cases_seen c.in-Ok.cases.items))
    c.deref.ensures.value c.in-Ok.ensures.cases)

pub returns-in-Err-clause-last : goal.returns-in-Err-clause-last
returns-in-Err-clause-last c =
    last_kept c.args.interner.now.nodes c.tree_cases.new.interner.nodes c.args.self.now c.in-Err.ensures.keeps c.requires.last
