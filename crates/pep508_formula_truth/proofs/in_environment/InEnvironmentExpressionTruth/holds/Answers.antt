use Rattle.std.proofs.Common.{◌∙◌, ap, sym}
use Rattle.pep508_marker.specs.Expression.{expression_of}
use Rattle.pep508_expression.specs.Expressions.{expression_holds, text_holds}
use Rattle.pep508_evaluation.specs.Valuations.{valuation_of}
use Rattle.pep508_formula_truth.proofs.in_environment.InEnvironmentExpressionTruth.holds.Goals as goal

pub returns-in-String : goal.returns-in-String
unfolding expression_holds
returns-in-String c =
    let extras = c.args.self.now.extras.now in
    let valuation = valuation_of c.args.self.now.environment.now extras in
    let said = c.in-String in
    c.text_holds.ensures extras
    ∙ ap (λ t. text_holds said.key said.operator t valuation) c.deref-in-String.ensures
    ∙ ap (λ e. expression_holds (expression_of e) valuation) (sym said.is)

pub returns-in-Extra : goal.returns-in-Extra
unfolding expression_holds
returns-in-Extra c =
    let environment = c.args.self.now.environment.now in
    let valuation = valuation_of environment c.args.self.now.extras.now in
    c.extra_holds.ensures environment ∙ ap (λ e. expression_holds (expression_of e) valuation) (sym c.in-Extra.is)
