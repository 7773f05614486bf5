use Rattle.std.proofs.Common.{sym, subst}
use Rattle.pep508_tree.specs.Tree.{never}
use Rattle.pep508_tree.specs.Truths.{IsTreeOf}
use Rattle.pep508_expression.specs.Expressions.{text_holds}
use Rattle.pep508_expression.proofs.Nowhere.{no_text_tree}
use Rattle.pep508_expression.proofs.expression_tree.any_text_tree.Goals as goal

pub returns-in-TildeEqual-clause-made : goal.returns-in-TildeEqual-clause-made
returns-in-TildeEqual-clause-made c =
    let nodes = c.args.interner.now.nodes in
    let text = c.args.value.now in
    subst (λ operator. IsTreeOf nodes (text_holds c.args.key operator text) never) (sym c.in-TildeEqual.is)
    (no_text_tree nodes c.args.key text)
