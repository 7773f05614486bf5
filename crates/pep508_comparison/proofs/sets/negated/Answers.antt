use Rattle.std.proofs.Common.{subst}
use Rattle.pep440_range.specs.Ranges.{Gives}
use Rattle.pep508_comparison.proofs.Unions.{rest_given}
use Rattle.pep508_comparison.proofs.sets.negated.Goals as goal

pub returns-in_ok-complement-in-Ok : goal.returns-in_ok-complement-in-Ok
returns-in_ok-complement-in-Ok c wanted g =
    rest_given c.in-Ok.set c.in_ok-complement-in-Ok.field-0 c.args.negated wanted c.if-negated.true
    (subst (λ r. Gives r wanted) c.in-Ok.is g) c.in_ok-complement-in-Ok.ensures
