use Rattle.std.proofs.Common.{◌∙◌, ◌++◌, ◌∷◌, [], refl, ap}
use Rattle.pep508_formula.specs.declared.formula.Token.TheVariants as tokens
use Rattle.pep508_formula.specs.Postfix.{ByOr}
use Rattle.pep508_formula.proofs.Tokens.{still_counted, part_on}
use Rattle.pep508_formula.proofs.formula.MarkerFormula.or.Goals as goal

pub invariant_of-self-2 : goal.invariant_of-self-2
invariant_of-self-2 c =
    still_counted c.self.inside.tokens.items c.push.new.self.items c.self.inside.said.items c.self.invariant
    tokens.Or c.in_ok-push.ensures.items refl

pub returns : goal.returns
returns c =
    part_on c.self.inside.tokens.items c.push.new.self.items c.self.inside.said.items c.self.invariant
    tokens.Or c.in_ok-push.ensures.items ByOr (λ said. refl)
    ∙ ap (λ ps. ps ++ ByOr ∷ []) c.self.view_is
