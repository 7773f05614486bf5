use Rattle.std.proofs.Common.{◌∙◌, not, ap, sym}
use Rattle.std.proofs.lemmas.Result.{IfOk-weaker}
use Rattle.version_ranges.specs.Point.{At, JustAbove, point_cmp}
use Rattle.version_ranges.specs.Turns.{reaches}
use Rattle.pep508_diagram.specs.Text.{text_cmp}
use Rattle.pep508_expression.specs.Expressions.{text_holds}
use Rattle.pep508_expression.proofs.TextPoints.{below_text, up_to_text}
use Rattle.pep508_expression.proofs.text_trees.text_tree.Goals as goal

pub returns-in-LessThan-clause-made : goal.returns-in-LessThan-clause-made
returns-in-LessThan-clause-made c =
    IfOk-weaker c.side_tree-in-LessThan.result _ _
    (λ tree is. record {
      made = is.made;
      truth = λ v. is.truth v
          ∙ ap (λ text. not (reaches (point_cmp text_cmp) (At text) (v.text c.args.key))) c.in_ok-text.ensures
          ∙ below_text c.args.value.now (v.text c.args.key)
          ∙ ap (λ operator. text_holds c.args.key operator c.args.value.now v) (sym c.in-LessThan.is);
    })
    c.side_tree-in-LessThan.ensures.made

pub returns-in-LessEqual-clause-made : goal.returns-in-LessEqual-clause-made
returns-in-LessEqual-clause-made c =
    IfOk-weaker c.side_tree-in-LessEqual.result _ _
    (λ tree is. record {
      made = is.made;
      truth = λ v. is.truth v
          ∙ ap (λ text. not (reaches (point_cmp text_cmp) (JustAbove text) (v.text c.args.key)))
          c.in_ok-text.ensures
          ∙ up_to_text c.args.value.now (v.text c.args.key)
          ∙ ap (λ operator. text_holds c.args.key operator c.args.value.now v) (sym c.in-LessEqual.is);
    })
    c.side_tree-in-LessEqual.ensures.made
