use Rattle.pep440_specifier.specs.Bounds.{lent_bound}
use Rattle.pep440_specifier_list.proofs.ListBounds.{last_of_some, last_release_of}
use Rattle.pep440_specifier_list.proofs.bounds.last_upper.Goals as goal

pub returns-in-Some-clause-last : goal.returns-in-Some-clause-last
returns-in-Some-clause-last c =
    last_of_some (lent_bound c.args.upper) c.args.later.now c.in-Some.field-0-1.now c.in-Some.last.now
    c.in-Some.ensures.cases.0

pub returns-in-Some-clause-release : goal.returns-in-Some-clause-release
returns-in-Some-clause-release c =
    last_release_of c.args.later.now c.in-Some.field-0-1.now c.in-Some.last.now c.in-Some.ensures.cases.0
    c.requires.later
