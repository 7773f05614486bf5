use Rattle.std.proofs.Common.{◌≡◌, reverse, subst}
use Rattle.std.specs.Prelude.{map, option_map}
use Rattle.pep508_diagram.specs.Question.{Valuation}
use Rattle.pep508_tree.specs.Meaning.{holds}
use Rattle.pep508_formula.specs.Postfix.{parts_in}
use Rattle.pep508_marker_parser.specs.TreeReading.{connective, chain_truth}
use Rattle.pep508_marker_parser.proofs.FormulaTrees.{whole_made}
use Rattle.pep508_marker_parser.proofs.formula_tree.tree_of.Goals as goal

pub returns-clause-made : goal.returns-clause-made
returns-clause-made c =
    let old = c.loop-part.interner.nodes in
    let now = c.join_all.new.interner.nodes in
    let tree = c.in_ok-tree.tree in
    let whole = c.taken-whole.result in
    whole_made old now c.args.formula.now (parts_in c.loop-part.left) (reverse c.loop-part.stack.items)
    c.in_default.ensures c.loop-part.invariant.making whole (reverse c.taken-whole.new.stack.items)
    c.taken-whole.ensures tree c.in_ok-tree.ensures.made
    (subst
    (λ ts. (v : Valuation) → option_map (λ t. holds now t v) tree
    ≡ chain_truth (connective whole.word) (map (λ t. holds old t v) ts))
    c.deref.ensures.value c.in_ok-tree.ensures.truth)
    c.unwrap_or.result c.unwrap_or.ensures
