use Rattle.std.proofs.Common.{◌∙◌, ◌&&◌, ap₂}
use Rattle.std.proofs.lemmas.Result.{IfOk-weaker}
use Rattle.pep508_diagram.specs.declared.variable.VersionVariable.TheVariants.{PythonFullVersion}
use Rattle.pep508_tree.proofs.Diagrams.{holds_kept}
use Rattle.pep508_simplification.specs.Simplified.{between}
use Rattle.pep508_simplification.proofs.complexified.complexified.Goals as goal

pub returns-clause-truth : goal.returns-clause-truth
returns-clause-truth c =
    IfOk-weaker c.uncounted_conjunction.result _ _
    (λ both is v.
    let p = v.version PythonFullVersion in
    is v
    ∙ ap₂ (λ a b. a && b)
    (holds_kept c.args.interner.now.nodes c.versions_tree.new.self.nodes c.in_ok-range.ensures.keeps
    c.args.tree c.requires v)
    (c.in_ok-range.ensures.truth v ∙ c.in_ok-set.ensures p
    ∙ ap₂ (λ l u. between l u p) c.in_ok-lower.ensures c.in_ok-upper.ensures))
    c.uncounted_conjunction.ensures.truth
