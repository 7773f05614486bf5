use Rattle.std.proofs.Common.{◌∷◌, [], ℕ, List, Vec, Global, Some, ap, refl}
use Rattle.pep508_tree.specs.Meaning.{NodeRecord}
use Rattle.reqs_io_faults.specs.Within.{RefusesOr}
use Rattle.reqs_lists.specs.Comparison.{SameRefusesWithin}
use Rattle.reqs_lists.specs.Covered.{CoversAnswersWithin, CoversPasses}
use Rattle.reqs_c_reply.specs.Endings.{ending_of}
use Rattle.reqs_c_lists.specs.Commands.{covers_names}
use Rattle.reqs_c_lists.specs.Refusals.{IsToldAt}
use Rattle.reqs_c_lists.proofs.AtHand.{at_hand, of_nodes}
use Rattle.reqs_c_lists.proofs.list_answers.covered_with.Goals as goal

pub returns : goal.returns
returns c =
    let limit = c.args.limit in
    let bounds = c.args.bounds in
    let vars = c.args.vars.now in
    let inputs = c.args.lock.now ∷ c.args.requirements.now ∷ [] in
    let nodes = c.covers_within-ran.new.interner.nodes in
    let wrote = c.covers_within-ran.new.output in
    let answers = λ (nodes : List NodeRecord). CoversAnswersWithin bounds nodes c.args.format limit vars in
    let refuses = λ (nodes : List NodeRecord). RefusesOr (CoversPasses bounds nodes limit vars) (SameRefusesWithin bounds limit vars) in
    of_nodes answers refuses (IsToldAt covers_names 0) inputs nodes c.are_sound.ensures (ending_of c.ended.result)
    (at_hand (answers nodes) (refuses nodes) covers_names 0 inputs
    (λ (v : Vec ℕ Global). Some v.items) c.new-text.result wrote wrote.items (ap Some c.new-text.ensures.items) refl
    c.covers_within-ran.result (ending_of c.ended.result) c.covers_within-ran.ensures.runs c.ended.ensures)
