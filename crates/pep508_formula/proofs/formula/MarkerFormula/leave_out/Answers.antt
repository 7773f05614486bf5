use Rattle.std.proofs.Common.{◌∙◌, ◌++◌, ◌∷◌, [], refl, ap}
use Rattle.pep508_formula.specs.declared.formula.Token.TheVariants as tokens
use Rattle.pep508_formula.specs.Postfix.{Passed}
use Rattle.pep508_formula.proofs.Tokens.{still_counted, part_on}
use Rattle.pep508_formula.proofs.formula.MarkerFormula.leave_out.Goals as goal

pub invariant_of-self-2 : goal.invariant_of-self-2
invariant_of-self-2 c =
    still_counted c.self.inside.tokens.items c.push.new.self.items c.self.inside.said.items c.self.invariant
    tokens.LeftOut c.in_ok-push.ensures.items refl

pub returns : goal.returns
returns c =
    part_on c.self.inside.tokens.items c.push.new.self.items c.self.inside.said.items c.self.invariant
    tokens.LeftOut c.in_ok-push.ensures.items Passed (λ said. refl)
    ∙ ap (λ ps. ps ++ Passed ∷ []) c.self.view_is
