use Rattle.std.proofs.Common.{◌∷◌, [], subst}
use Rattle.pep508_url.specs.Vars.{Variables}
use Rattle.reqs_c_reply.specs.Endings.{ending_of}
use Rattle.reqs_c_lists.specs.Commands.{NormalEndsWith}
use Rattle.reqs_c_lists.proofs.list_answers.normalized.Goals as goal

pub returns : goal.returns
returns c =
    subst
    (λ (vars : Variables). NormalEndsWith c.args.format c.args.bounds vars (c.args.requirements.now ∷ []) (ending_of c.normalized_with.result))
    c.in-Ok.ensures c.normalized_with.ensures
