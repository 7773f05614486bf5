use Rattle.std.proofs.Common.{◌∙◌, sym}
use Rattle.reqtable_compare.proofs.Likeness.{names_are, names_same}
use Rattle.reqtable_compare.proofs.summary.is_same_extras.Goals as goal

pub returns : goal.returns
returns c = (
  λ t. names_are c.args.ours.now c.args.theirs.now (sym c.eq.ensures ∙ t),
  λ same. c.eq.ensures ∙ names_same c.args.ours.now c.args.theirs.now same,
)
