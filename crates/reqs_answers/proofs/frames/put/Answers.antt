use Rattle.std.proofs.Common.{◌∙◌, ◌∷◌, [], string_bytes}
use Rattle.std.proofs.lemmas.Result.{on_ok_weaker}
use Rattle.reqs_answers.proofs.frames.put.Goals as goal

pub returns-clause-grow : goal.returns-clause-grow
returns-clause-grow c =
    on_ok_weaker c.append.result
    (λ h. (string_bytes c.args.piece ∷ [], c.append.ensures.kept ∙ c.in_ok-place.ensures.kept))
    c.append.ensures.whole
