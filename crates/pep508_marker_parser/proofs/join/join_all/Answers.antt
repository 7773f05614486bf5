use Rattle.std.proofs.Common.{◌∙◌, ap, sym, Some, not}
use Rattle.pep508_tree.specs.Meaning.{holds}
use Rattle.pep508_tree.proofs.OneTree.{negation_holds}
use Rattle.pep508_marker_parser.proofs.ChainTrees.{all_and, one_or}
use Rattle.pep508_marker_parser.proofs.join.join_all.Goals as goal

pub returns-in_ok-tree-in-And-clause-truth : goal.returns-in_ok-tree-in-And-clause-truth
returns-in_ok-tree-in-And-clause-truth c =
    λ v.
    rw c.in-And.is
    (ap Some (c.in_ok-tree-in-And.ensures.truth v)
    ∙ all_and c.args.interner.now.nodes c.args.trees.now v (sym c.is_empty.ensures ∙ c.if-is_empty.false))

pub returns-in_ok-neither-in-Or-clause-truth : goal.returns-in_ok-neither-in-Or-clause-truth
returns-in_ok-neither-in-Or-clause-truth c =
    λ v.
    let new = c.conjunction_of_all-in-Or.new.interner.nodes in
    rw c.in-Or.is
    (ap Some
    (ap (λ t. holds new t v) c.negate.ensures ∙ negation_holds new c.in_ok-neither-in-Or.neither v
    ∙ ap not (c.in_ok-neither-in-Or.ensures.truth v))
    ∙ one_or c.args.interner.now.nodes c.args.trees.now v (sym c.is_empty.ensures ∙ c.if-is_empty.false))
