use Rattle.pep508_view.proofs.ReadOff.{laid_out}
use Rattle.pep508_view.proofs.laws.edges_lie_side_by_side.Goals as goal

pub returns : goal.returns
returns c = laid_out c.args.interner.now.nodes c.args.tree c.kind.ensures.root
