use Rattle.std.proofs.Common.{refl, sym, subst}
use Rattle.std.proofs.lemmas.Result.{IfOk-weaker}
use Rattle.pep508_marker_key.specs.Left.{IsStep, IsMade}
use Rattle.pep508_marker_key.proofs.Entering.{closed_made}
use Rattle.pep508_marker_key.proofs.key_walk.make_step.Goals as goal

pub returns-in-Close-clause-made : goal.returns-in-Close-clause-made
returns-in-Close-clause-made c =
    let nodes = c.args.interner.now.nodes in
    let key = c.args.key.now.items in
    let steps = c.args.steps.now.items in
    let old = c.args.numbers.now.trees.items in
    let new = c.add.new.self.trees.items in
    IfOk-weaker c.add.result _ _
    (λ done more. subst (λ next. IsMade nodes next key key steps steps old new) (sym c.in-Close.is)
    (closed_made nodes key key steps steps c.in-Close.tree old new
    (subst (IsStep nodes) c.in-Close.is c.requires.step) more refl refl))
    c.add.ensures.last
