use Rattle.std.proofs.Common.{◌≡◌, ◌∙◌, Bool, true, false, not, ◌&&◌, ◌||◌, refl, ap, ap₂}
use Rattle.pep508_tree.specs.Meaning.{holds}
use Rattle.pep508_tree.proofs.OneTree.{negation_holds}
use Rattle.pep508_tree.proofs.tree.MarkerTree.or.Goals as goal

not_neither : (x y : Bool) → not (not x && not y) ≡ (x || y)
not_neither true y = refl
not_neither false true = refl
not_neither false false = refl

pub returns-clause-truth : goal.returns-clause-truth
returns-clause-truth c v =
    let old = c.args.interner.now.nodes in
    let new = c.conjoined.new.self.nodes in
    ap (λ t. holds new t v) c.negate-3.ensures ∙ negation_holds new c.in_ok-neither.neither v
    ∙ ap not
    (c.in_ok-neither.ensures.truth v
    ∙ ap₂ (λ x y. x && y) (ap (λ t. holds old t v) c.negate.ensures ∙ negation_holds old c.args.self v)
    (ap (λ t. holds old t v) c.negate-2.ensures ∙ negation_holds old c.args.other v))
    ∙ not_neither (holds old c.args.self v) (holds old c.args.other v)
