use Rattle.std.proofs.Common.{rules, ◌≡◌, reverse}
use Rattle.std.proofs.lemmas.Result.{on_ok_weaker}
use Rattle.pep508_marker.specs.Expression.{expression_of}
use Rattle.pep508_formula.specs.Postfix.{Compared, part_of}
use Rattle.pep508_marker_parser.proofs.FormulaTrees.{says_put}
use Rattle.pep508_marker_parser.proofs.formula_tree.put_part.Goals as goal

pub returns-in_ok-tree-in-Says-clause-step : goal.returns-in_ok-tree-in-Says-clause-step
returns-in_ok-tree-in-Says-clause-step c =
    let tree = c.in_ok-tree-in-Says in
    let said = expression_of c.in-Says.expression.now in
    let is : part_of c.args.part ≡ Compared said = search rules in
    on_ok_weaker c.put_tree.result
    (says_put c.args.interner.now.nodes c.comparison_tree.new.interner.nodes tree.ensures.keeps
    (reverse c.args.stack.now.items) c.requires (part_of c.args.part) said is tree.tree tree.ensures.made
    (reverse c.put_tree.new.stack.items))
    c.put_tree.ensures
