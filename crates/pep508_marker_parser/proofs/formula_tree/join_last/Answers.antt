use Rattle.std.proofs.Common.{reverse}
use Rattle.pep508_marker_parser.proofs.FormulaTrees.{two_joined}
use Rattle.pep508_marker_parser.proofs.formula_tree.join_last.Goals as goal

pub returns-clause-step : goal.returns-clause-step
returns-clause-step c =
    let chain = c.in_ok-chain in
    two_joined c.args.interner.now.nodes c.join_two.new.interner.nodes chain.ensures.keeps
    (reverse c.args.stack.now.items) c.requires c.args.word c.taken-next.result c.taken-first.result chain.chain
    c.taken-next.new.stack.items c.taken-first.new.stack.items c.push.new.self.items c.taken-next.ensures
    c.taken-first.ensures chain.ensures.made chain.ensures.truth c.in_ok-push.ensures.items
