use Rattle.std.proofs.Common.{◌↔◌, IfOk, IsTrue, sym, subst}
use Rattle.reqtable_compare.specs.Seen.{summary_record}
use Rattle.reqtable_compare.specs.Summed.{Fit}
use Rattle.reqtable_compare.proofs.summary.Summary.fits.Goals as goal

pub returns-in-Covering : goal.returns-in-Covering
returns-in-Covering c =
    subst (λ relation. IfOk c.covers.result (λ fits.
    IsTrue fits ↔ Fit relation (summary_record c.args.self.now) (summary_record c.args.other.now)))
    (sym c.in-Covering.is) c.covers.ensures
