use Rattle.std.proofs.Common.{◌∙◌, sym}
use Rattle.version_ranges.proofs.Comparing.{from_below}
use Rattle.version_ranges.proofs.order.compare_from_below.Goals as goal

pub returns-else-is_empty : goal.returns-else-is_empty
returns-else-is_empty g c = λ boundaries.
    from_below g.T.Ord.cmp boundaries c.args.others.now (sym c.is_empty.ensures ∙ c.if-is_empty.false)
