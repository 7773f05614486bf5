use Rattle.std.proofs.Common.{sym}
use Rattle.pep508_evaluation.proofs.CanHold.{goes_past}
use Rattle.pep508_evaluation.proofs.holding.extra_child.Goals as goal

pub returns-in-Flagged : goal.returns-in-Flagged
returns-in-Flagged c =
    goes_past c.args.interner.now.nodes c.args.extras.now c.args.tree c.in-Flagged.flag.now c.in-Flagged.set
    c.in-Flagged.unset c.extra_side.result (sym c.in-Flagged.ensures.shows) c.in-Flagged.ensures.root
    c.extra_side.ensures
