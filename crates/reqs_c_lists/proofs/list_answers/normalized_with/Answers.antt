use Rattle.std.proofs.Common.{◌∷◌, [], ℕ, List, Vec, Global, Some, ap, refl}
use Rattle.pep508_tree.specs.Meaning.{NodeRecord}
use Rattle.reqs_io_faults.specs.Within.{RefusesOr}
use Rattle.reqs_lists.specs.Normal.{NormalAnswersWithin, NormalPasses, NormalRefusesWithin}
use Rattle.reqs_c_reply.specs.Endings.{ending_of}
use Rattle.reqs_c_lists.specs.Commands.{list_names}
use Rattle.reqs_c_lists.specs.Refusals.{IsToldAt}
use Rattle.reqs_c_lists.proofs.AtHand.{at_hand, of_nodes}
use Rattle.reqs_c_lists.proofs.list_answers.normalized_with.Goals as goal

pub returns : goal.returns
returns c =
    let bounds = c.args.bounds in
    let vars = c.args.vars.now in
    let inputs = c.args.requirements.now ∷ [] in
    let nodes = c.normal_within-ran.new.interner.nodes in
    let wrote = c.normal_within-ran.new.output in
    let answers = λ (nodes : List NodeRecord). NormalAnswersWithin bounds nodes c.args.format vars in
    let refuses = λ (nodes : List NodeRecord). RefusesOr (NormalPasses bounds nodes vars) (NormalRefusesWithin bounds vars) in
    of_nodes answers refuses (IsToldAt list_names 0) inputs nodes c.are_sound.ensures (ending_of c.ended.result)
    (at_hand (answers nodes) (refuses nodes) list_names 0 inputs
    (λ (v : Vec ℕ Global). Some v.items) c.new-text.result wrote wrote.items (ap Some c.new-text.ensures.items) refl
    c.normal_within-ran.result (ending_of c.ended.result) c.normal_within-ran.ensures.runs c.ended.ensures)
