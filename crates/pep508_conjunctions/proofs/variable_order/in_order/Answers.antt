use Rattle.std.proofs.Common.{◌∙◌, ap, map}
use Rattle.std.proofs.lemmas.Result.{IfOk-weaker}
use Rattle.pep508_conjunctions.specs.Orders.{indexed}
use Rattle.pep508_conjunctions.proofs.Orders.{trees_moved}
use Rattle.pep508_conjunctions.proofs.variable_order.in_order.Goals as goal

pub returns : goal.returns
returns c =
    let trees = c.args.trees.now in
    IfOk-weaker c.trees_of.result _ _
    (λ sorted s. trees_moved trees sorted.items c.in_ok-places.places.items c.sort_by.new.self.items
    c.in_ok-places.ensures c.in_ok-sort_by.ensures.permutation (s ∙ ap (map (indexed trees)) c.deref.ensures.value))
    c.trees_of.ensures
