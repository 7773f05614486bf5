use Rattle.std.proofs.Common.{◌∙◌, ap, not}
use Rattle.pep508_tree.specs.Meaning.{holds}
use Rattle.pep508_tree.proofs.OneTree.{negation_holds}
use Rattle.reqtable_key.proofs.Writing.{not_all}
use Rattle.reqtable_key.proofs.regions.union.Goals as goal

pub returns-clause-truth : goal.returns-clause-truth
returns-clause-truth c = λ v.
    let new = c.conjunction_of_all.new.interner.nodes in
    ap (λ t. holds new t v) c.negate.ensures ∙ negation_holds new c.in_ok-neither.neither v
    ∙ ap not (c.in_ok-neither.ensures.truth v) ∙ not_all c.args.interner.now.nodes c.args.trees.now v
