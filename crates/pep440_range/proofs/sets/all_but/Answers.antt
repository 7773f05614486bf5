use Rattle.std.proofs.Common.{subst}
use Rattle.pep440_range.specs.Ranges.{Gives}
use Rattle.pep440_range.proofs.Answered.{rest_given}
use Rattle.pep440_range.proofs.sets.all_but.Goals as goal

pub returns-in_ok-complement-in-Ok : goal.returns-in_ok-complement-in-Ok
returns-in_ok-complement-in-Ok c wanted g =
    rest_given c.in-Ok.range c.in_ok-complement-in-Ok.field-0 wanted
    (subst (λ r. Gives r wanted) c.in-Ok.is g) c.in_ok-complement-in-Ok.ensures
