use Rattle.std.proofs.Common.{◌∷◌, [], subst}
use Rattle.pep508_url.specs.Vars.{Variables}
use Rattle.reqs_c_reply.specs.Endings.{ending_of}
use Rattle.reqs_c_lists.specs.Commands.{SameEndsWith}
use Rattle.reqs_c_lists.proofs.list_answers.compared.Goals as goal

pub returns : goal.returns
returns c =
    subst
    (λ (vars : Variables). SameEndsWith c.args.format c.args.limit c.args.bounds vars (c.args.left.now ∷ c.args.right.now ∷ []) (ending_of c.compared_with.result))
    c.in-Ok.ensures c.compared_with.ensures
