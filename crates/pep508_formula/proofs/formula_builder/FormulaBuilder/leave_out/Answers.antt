use Rattle.std.proofs.Common.{refl}
use Rattle.std.proofs.lemmas.Result.{on_ok_weaker}
use Rattle.pep508_formula.specs.Formula.{LeftOut}
use Rattle.pep508_formula.specs.Postfix.{Passed}
use Rattle.pep508_formula.proofs.Levels.{said_on}
use Rattle.pep508_formula.proofs.formula_builder.FormulaBuilder.leave_out.Goals as goal

pub returns : goal.returns
returns c =
    on_ok_weaker c.leave_out.result
    (λ e. said_on c.args.self.now c.leave_out.new.self Passed LeftOut (λ stack. refl) e)
    c.leave_out.ensures
