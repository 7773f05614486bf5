use Rattle.std.proofs.Common.{rules, ◌≡◌, subst}
use Rattle.std.specs.Prelude.{map, option_map}
use Rattle.pep508_diagram.specs.Question.{Valuation}
use Rattle.pep508_tree.specs.Meaning.{holds}
use Rattle.pep508_marker_parser.specs.declared.formula_tree.TreeChain.{TreeChain}
use Rattle.pep508_marker_parser.specs.TreeReading.{connective, chain_truth, listed}
use Rattle.pep508_marker_parser.specs.FormulaTrees.{truth_of}
use Rattle.pep508_marker_parser.proofs.ChainTrees.{one_truth}
use Rattle.pep508_marker_parser.proofs.formula_tree.with_word.Goals as goal

pub returns-clause-truth : goal.returns-clause-truth
returns-clause-truth c =
    let old = c.args.interner.now.nodes in
    let new = c.join_all.new.interner.nodes in
    let tree = c.in_ok-tree.tree in
    let said = c.args.chain in
    let chain : TreeChain = record { word = c.args.word; trees = c.push_part.new.trees } in
    let is : c.push_part.new.trees.items ≡ listed tree = search rules in
    one_truth new chain tree (truth_of old said) is
    (subst
    (λ ts. (v : Valuation) → option_map (λ t. holds new t v) tree
    ≡ chain_truth (connective said.word) (map (λ t. holds old t v) ts))
    c.deref.ensures.value c.in_ok-tree.ensures.truth)
