use Rattle.std.specs.Str.Parse.{ParsesUnsigned, ExplainsUnsignedError, HasUnsignedDigitsIfOk}
use Rattle.reqs_command.proofs.Limits.{limit_is}
use Rattle.reqs_command.proofs.request.number_of.Goals as goal

pub returns : goal.returns
returns c =
    limit_is (λ bs r. ParsesUnsigned 64 10 bs r × ExplainsUnsignedError 10 bs r × HasUnsignedDigitsIfOk bs r)
    (λ text r g. g.0) _ _ c.get_one.ensures.none c.get_one.ensures.value
