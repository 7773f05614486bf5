use Rattle.std.proofs.Common.{◌∙◌, sym}
use Rattle.reqtable_compare.proofs.Likeness.{names_are}
use Rattle.reqtable_compare.proofs.equal_lines.have_same_extras.Goals as goal

pub returns : goal.returns
returns c = λ t. names_are c.args.ours.now c.args.theirs.now (sym c.eq.ensures ∙ t)
