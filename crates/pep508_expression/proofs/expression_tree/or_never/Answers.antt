use Rattle.std.proofs.Common.{rules, ◌≡◌, false}
use Rattle.pep508_expression.specs.Expressions.{has_points}
use Rattle.pep508_expression.proofs.Nowhere.{nowhere_tree}
use Rattle.pep508_expression.proofs.expression_tree.or_never.Goals as goal

pub returns-in-Err-NumberAtEnd : goal.returns-in-Err-NumberAtEnd
returns-in-Err-NumberAtEnd c =
    λ nodes expression given.
    let none : has_points expression ≡ false = search (rules, given) in
    nowhere_tree nodes expression none
