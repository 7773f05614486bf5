use Rattle.std.proofs.Common.{◌∷◌, [], ℕ, List, Vec, Global, Some, map, ap, refl}
use Rattle.pep508_tree.specs.Meaning.{NodeRecord}
use Rattle.reqs_io_faults.specs.Within.{RefusesOr}
use Rattle.reqs_answers.specs.Matrix.{MatrixAnswersWithin, MatrixPasses, MatrixRefusesWithin}
use Rattle.reqs_c_reply.specs.Endings.{ending_of}
use Rattle.reqs_c_lists.specs.Commands.{matrix_names}
use Rattle.reqs_c_lists.specs.Refusals.{IsToldAt}
use Rattle.reqs_c_lists.proofs.AtHand.{at_hand, of_nodes}
use Rattle.reqs_c_lists.proofs.checking.tabled_with.Goals as goal

pub returns : goal.returns
returns c =
    let limit = c.args.limit in
    let bounds = c.args.bounds in
    let vars = c.args.vars.now in
    let extras = map (λ e. e.now) c.args.extras.now in
    let inputs = c.args.requirements.now ∷ c.args.environments.now ∷ c.args.candidates.now ∷ [] in
    let nodes = c.matrix_within-ran.new.interner.nodes in
    let wrote = c.matrix_within-ran.new.output in
    let answers = λ (nodes : List NodeRecord). MatrixAnswersWithin bounds nodes c.args.format limit vars extras in
    let refuses = λ (nodes : List NodeRecord). RefusesOr (MatrixPasses bounds nodes limit vars extras) (MatrixRefusesWithin bounds limit vars extras) in
    of_nodes answers refuses (IsToldAt matrix_names 4) inputs nodes c.are_sound.ensures (ending_of c.ended.result)
    (at_hand (answers nodes) (refuses nodes) matrix_names 4 inputs
    (λ (v : Vec ℕ Global). Some v.items) c.new-text.result wrote wrote.items (ap Some c.new-text.ensures.items) refl
    c.matrix_within-ran.result (ending_of c.ended.result) c.matrix_within-ran.ensures.runs c.ended.ensures)
