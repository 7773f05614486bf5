use Rattle.std.proofs.Common.{◌∷◌, []}
use Rattle.reqs_c_assuming.proofs.AtHand.{with_condition}
use Rattle.reqs_c_assuming.specs.Assuming.{CoversEndsUnder}
use Rattle.reqs_c_assuming.proofs.covering.covered.Goals as goal

pub returns : goal.returns
returns c =
    with_condition 3 (CoversEndsUnder c.args.format c.args.limit c.args.bounds (c.args.lock.now ∷ c.args.requirements.now ∷ []))
    c.args.assumption.now c.in-Ok-no_variables.vars c.in-Ok.formula _ c.in-Ok-no_variables.ensures c.in-Ok.ensures.formula
    c.covered_with.ensures
