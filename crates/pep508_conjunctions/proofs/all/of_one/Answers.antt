use Rattle.std.proofs.Common.{◌∙◌, ap}
use Rattle.pep508_tree.specs.Meaning.{holds}
use Rattle.pep508_conjunctions.proofs.Meets.{alone, no_item}
use Rattle.pep508_conjunctions.proofs.Sources.{one_holds, none_holds}
use Rattle.pep508_conjunctions.proofs.all.of_one.Goals as goal

pub returns-in-Some-clause-truth : goal.returns-in-Some-clause-truth
returns-in-Some-clause-truth c =
    λ v.
    let nodes = c.args.interner.now.nodes in
    ap (λ t. holds nodes t v) c.turned.ensures
    ∙ one_holds nodes c.args.negated c.args.trees.now c.in-Some.tree.now
    (alone c.args.trees.now c.in-Some.tree.now c.requires.few c.in-Some.ensures.value) v

pub returns-in-None-clause-truth : goal.returns-in-None-clause-truth
returns-in-None-clause-truth c =
    λ v.
    none_holds c.args.interner.now.nodes c.args.negated c.args.trees.now (no_item c.args.trees.now c.in-None.ensures.value) v
