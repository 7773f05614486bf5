use Rattle.std.proofs.Common.{rules, ◌≡◌}
use Rattle.pep508_marker_parser.specs.declared.word.Word.TheVariants as words
use Rattle.pep508_marker_parser.specs.declared.formula_tree.TreeChain.{TreeChain}
use Rattle.pep508_marker_parser.specs.TreeReading.{listed}
use Rattle.pep508_marker_parser.proofs.FormulaTrees.{pushed_last}
use Rattle.pep508_marker_parser.proofs.formula_tree.put_tree.Goals as goal

pub returns : goal.returns
returns c =
    let chain : TreeChain = record { word = words.And; trees = c.push_part.new.trees } in
    let is : c.push_part.new.trees.items ≡ listed c.args.tree = search rules in
    (chain, is, pushed_last c.args.stack.now.items c.push.new.self.items chain c.in_ok-push.ensures.items)
