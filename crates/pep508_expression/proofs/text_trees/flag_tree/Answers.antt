use Rattle.std.proofs.Common.{◌∙◌}
use Rattle.pep508_expression.proofs.MadeTrees.{negated_tree, plain_tree}
use Rattle.pep508_expression.proofs.text_trees.flag_tree.Goals.{then-negated, else-negated}
use Rattle.pep508_expression.proofs.text_trees.flag_tree.Goals as goal

pub returns-clause-made : goal.returns-clause-made
returns-clause-made c =
    let nodes = c.flag_tree.new.self.nodes in
    let tree = c.in_ok-tree.tree in
    elim c.if-negated.branch [
      | then-negated w ↦
          negated_tree nodes (λ v. v.flag c.args.flag) tree c.if-negated.result c.args.negated
          c.in_ok-tree.ensures.made c.in_ok-tree.ensures.truth w.if-negated.true
          (w.result-is ∙ w.negate.ensures)
      | else-negated w ↦
          plain_tree nodes (λ v. v.flag c.args.flag) tree c.if-negated.result c.args.negated
          c.in_ok-tree.ensures.made c.in_ok-tree.ensures.truth w.if-negated.false w.result-is
    ]
