use Rattle.std.proofs.Common.{◌∷◌, []}
use Rattle.reqs_c_assuming.proofs.AtHand.{with_condition}
use Rattle.reqs_c_assuming.specs.Assuming.{SameEndsUnder}
use Rattle.reqs_c_assuming.proofs.comparing.compared.Goals as goal

pub returns : goal.returns
returns c =
    with_condition 3 (SameEndsUnder c.args.format c.args.limit c.args.bounds (c.args.left.now ∷ c.args.right.now ∷ []))
    c.args.assumption.now c.in-Ok-no_variables.vars c.in-Ok.formula _ c.in-Ok-no_variables.ensures c.in-Ok.ensures.formula
    c.compared_with.ensures
