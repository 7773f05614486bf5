use Rattle.std.proofs.Common.{◌∙◌, ◌&&◌, not, ap}
use Rattle.pep508_tree.specs.Meaning.{holds}
use Rattle.pep508_tree.proofs.OneTree.{negation_holds}
use Rattle.pep508_cases.proofs.SetTrees.{neither}
use Rattle.pep508_cases.proofs.collecting.either.Goals as goal

pub returns-clause-truth : goal.returns-clause-truth
returns-clause-truth c = λ v.
    let old = c.args.interner.now.nodes in
    let new = c.uncounted_conjunction.new.interner.nodes in
    ap (λ t. holds new t v) c.negate.ensures
    ∙ negation_holds new c.in_ok-neither.neither v
    ∙ ap not (c.in_ok-neither.ensures.truth v
    ∙ (λ i. holds old (c.negate-first.ensures i) v && holds old (c.negate-second.ensures i) v)
    ∙ (λ i. negation_holds old c.args.a v i && negation_holds old c.args.b v i))
    ∙ neither (holds old c.args.a v) (holds old c.args.b v)
