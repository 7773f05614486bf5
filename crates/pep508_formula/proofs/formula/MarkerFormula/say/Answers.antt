use Rattle.std.proofs.Common.{rules, ◌≡◌, ◌∙◌, ◌++◌, ◌∷◌, [], ap}
use Rattle.pep508_marker.specs.Expression.{expression_of}
use Rattle.pep508_formula.specs.declared.formula.Token.TheVariants as tokens
use Rattle.pep508_formula.specs.Postfix.{Compared}
use Rattle.pep508_formula.proofs.Tokens.{counted_on, said_on}
use Rattle.pep508_formula.proofs.formula.MarkerFormula.say.Goals as goal

pub invariant_of-self-2 : goal.invariant_of-self-2
invariant_of-self-2 c =
    let pushed : c.push-2.new.self.items ≡ c.self.inside.tokens.items ++ tokens.Says ∷ [] = search rules in
    counted_on c.self.inside.tokens.items c.push-2.new.self.items c.self.inside.said.items c.self.invariant
    c.push.new.self.items c.in_ok-kept.kept pushed c.in_ok-push.ensures.items

pub returns : goal.returns
returns c =
    let pushed : c.push-2.new.self.items ≡ c.self.inside.tokens.items ++ tokens.Says ∷ [] = search rules in
    said_on c.self.inside.tokens.items c.push-2.new.self.items c.self.inside.said.items c.self.invariant
    c.push.new.self.items c.in_ok-kept.kept pushed c.in_ok-push.ensures.items (expression_of c.args.expression)
    (ap expression_of c.in_ok-kept.ensures.ok)
    ∙ ap (λ ps. ps ++ Compared (expression_of c.args.expression) ∷ []) c.self.view_is
