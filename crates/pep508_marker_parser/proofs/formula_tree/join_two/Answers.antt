use Rattle.std.proofs.Common.{◌≡◌, refl, subst}
use Rattle.std.specs.Prelude.{map, option_map}
use Rattle.pep508_diagram.specs.Question.{Valuation}
use Rattle.pep508_tree.specs.Meaning.{holds}
use Rattle.pep508_marker_parser.specs.declared.formula_tree.TreeChain.{TreeChain}
use Rattle.pep508_marker_parser.specs.TreeReading.{connective, chain_truth}
use Rattle.pep508_marker_parser.proofs.ChainTrees.{more_made, more_truth}
use Rattle.pep508_marker_parser.proofs.formula_tree.join_two.Goals as goal

pub returns-clause-made : goal.returns-clause-made
returns-clause-made c =
    let chain = c.in_ok-chain in
    let whole : TreeChain = record { word = chain.chain.word; trees = c.push_part.new.trees } in
    more_made c.args.interner.now.nodes c.with_word.new.interner.nodes c.join_all.new.interner.nodes
    chain.ensures.keeps c.in_ok-tree.ensures.keeps chain.chain whole c.args.next c.in_ok-tree.tree refl
    c.in_ok-push_part.ensures chain.ensures.made c.in_ok-tree.ensures.made

pub returns-clause-truth : goal.returns-clause-truth
returns-clause-truth c =
    let chain = c.in_ok-chain in
    let mid = c.with_word.new.interner.nodes in
    let now = c.join_all.new.interner.nodes in
    let tree = c.in_ok-tree.tree in
    let next = c.args.next in
    let whole : TreeChain = record { word = chain.chain.word; trees = c.push_part.new.trees } in
    more_truth c.args.interner.now.nodes mid now chain.ensures.keeps c.in_ok-tree.ensures.keeps chain.chain whole next tree
    refl c.in_ok-push_part.ensures chain.ensures.made c.in_ok-tree.ensures.made c.args.word chain.ensures.word c.args.first
    chain.ensures.truth c.requires.next
    (subst
    (λ ts. (v : Valuation) → option_map (λ t. holds now t v) tree
    ≡ chain_truth (connective next.word) (map (λ t. holds mid t v) ts))
    c.deref.ensures.value c.in_ok-tree.ensures.truth)
