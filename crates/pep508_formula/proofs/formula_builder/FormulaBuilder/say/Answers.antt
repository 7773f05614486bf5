use Rattle.std.proofs.Common.{refl}
use Rattle.std.proofs.lemmas.Result.{on_ok_weaker}
use Rattle.pep508_marker.specs.Expression.{expression_of}
use Rattle.pep508_formula.specs.Formula.{Says}
use Rattle.pep508_formula.specs.Postfix.{Compared}
use Rattle.pep508_formula.proofs.Levels.{said_on}
use Rattle.pep508_formula.proofs.formula_builder.FormulaBuilder.say.Goals as goal

pub returns : goal.returns
returns c =
    on_ok_weaker c.say.result
    (λ e. said_on c.args.self.now c.say.new.self (Compared (expression_of c.args.expression))
    (Says (expression_of c.args.expression)) (λ stack. refl) e)
    c.say.ensures
