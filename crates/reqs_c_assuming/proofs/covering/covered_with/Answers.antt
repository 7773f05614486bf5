use Rattle.std.proofs.Common.{◌∷◌, [], ℕ, List, Vec, Global, Some, ap, refl}
use Rattle.pep508_formula.specs.Postfix.{formula_of}
use Rattle.pep508_tree.specs.Meaning.{NodeRecord}
use Rattle.reqs_io_faults.specs.Within.{RefusesOr}
use Rattle.reqs_assuming.specs.Comparison.{SameRefusesWhere}
use Rattle.reqs_assuming.specs.Covered.{CoversAnswersWhere, CoversPassesWhere}
use Rattle.reqs_c_reply.specs.Endings.{ending_of}
use Rattle.reqs_c_lists.specs.Commands.{covers_names}
use Rattle.reqs_c_lists.specs.Refusals.{IsToldAt}
use Rattle.reqs_c_lists.proofs.AtHand.{at_hand, of_nodes}
use Rattle.reqs_c_assuming.proofs.covering.covered_with.Goals as goal

pub returns : goal.returns
returns c =
    let limit = c.args.limit in
    let terms = c.args.terms.now in
    let bounds = terms.bounds in
    let vars = terms.vars.now in
    let condition = formula_of terms.condition.now in
    let inputs = c.args.lock.now ∷ c.args.requirements.now ∷ [] in
    let nodes = c.covers_where-ran.new.interner.nodes in
    let wrote = c.covers_where-ran.new.output in
    let answers = λ (nodes : List NodeRecord). CoversAnswersWhere condition bounds nodes terms.format limit vars in
    let refuses = λ (nodes : List NodeRecord). RefusesOr (CoversPassesWhere condition bounds nodes limit vars) (SameRefusesWhere condition bounds limit vars) in
    of_nodes answers refuses (IsToldAt covers_names 0) inputs nodes c.are_sound.ensures (ending_of c.ended.result)
    (at_hand (answers nodes) (refuses nodes) covers_names 0 inputs
    (λ (v : Vec ℕ Global). Some v.items) c.new-text.result wrote wrote.items (ap Some c.new-text.ensures.items) refl
    c.covers_where-ran.result (ending_of c.ended.result) c.covers_where-ran.ensures.runs c.ended.ensures)
