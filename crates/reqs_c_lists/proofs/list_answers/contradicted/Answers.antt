use Rattle.std.proofs.Common.{◌∷◌, [], subst}
use Rattle.pep508_url.specs.Vars.{Variables}
use Rattle.reqs_c_reply.specs.Endings.{ending_of}
use Rattle.reqs_c_lists.specs.Commands.{ConflictsEndWith}
use Rattle.reqs_c_lists.proofs.list_answers.contradicted.Goals as goal

pub returns : goal.returns
returns c =
    subst
    (λ (vars : Variables). ConflictsEndWith c.args.format c.args.limit c.args.bounds vars (c.args.requirements.now ∷ []) (ending_of c.contradicted_with.result))
    c.in-Ok.ensures c.contradicted_with.ensures
