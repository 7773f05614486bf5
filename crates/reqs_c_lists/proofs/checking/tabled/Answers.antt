use Rattle.std.proofs.Common.{◌∙◌, ◌∷◌, [], Bor, ℕ, List, ap, map}
use Rattle.reqs_c_reply.specs.Lines.{filled_lines}
use Rattle.reqs_c_lists.specs.Commands.{TablesWith}
use Rattle.reqs_c_lists.proofs.AtHand.{with_extras}
use Rattle.reqs_c_lists.proofs.checking.tabled.Goals as goal

pub returns : goal.returns
returns c =
    let inputs = c.args.requirements.now ∷ c.args.environments.now ∷ c.args.candidates.now ∷ [] in
    let text = c.in-Ok.ensures in
    with_extras 4 (TablesWith c.args.format c.args.limit c.args.bounds inputs)
    c.args.extras.now c.in-Ok-no_variables.vars _ _ text.is_text c.in-Ok-no_variables.ensures
    (ap (map (λ (e : Bor (List ℕ)). e.now)) c.deref.ensures.value ∙ c.in-Ok-filled_lines.ensures ∙ ap filled_lines text.text)
    c.tabled_with.ensures
