use Rattle.pep508_view.proofs.ReadOff.{subtrees_below}
use Rattle.pep508_view.proofs.laws.subtrees_ask_later_variables.Goals as goal

pub returns : goal.returns
returns c = subtrees_below c.args.interner.now.nodes c.args.tree c.kind.ensures.root
