use Rattle.std.proofs.Common.{◌∙◌, ap, sym}
use Rattle.std.proofs.lemmas.Result.{IfOk-weaker}
use Rattle.version_ranges.specs.Boundaries.{point_of}
use Rattle.version_ranges.specs.Held.{holds_at}
use Rattle.version_ranges.proofs.Reading.{within_all, within_between, within_none}
use Rattle.version_ranges.proofs.ranges.Ranges.from_range_bounds.Goals as goal

pub returns-in-None-None : goal.returns-in-None-None
returns-in-None-None g c =
    IfOk-weaker c.full.result _ _
    (λ set e p. e p ∙ within_all g.T.Ord.cmp g.met.T.Ord.total c.args.bounds
    (rw c.in-None-None.is-0 at c.from_lower_bound.ensures)
    (rw c.in-None-None.is-1 at c.from_upper_bound.ensures) p)
    c.full.ensures

pub returns-then-lt : goal.returns-then-lt
returns-then-lt g c =
    let ends = c.in-Some-Some in
    IfOk-weaker c.between.result _ _
    (λ set e p. ap (λ turns. holds_at g.T.Ord.cmp turns p) e
    ∙ within_between g.T.Ord.cmp g.met.T.Ord.total c.args.bounds (point_of ends.start) (point_of ends.end)
    ends.ensures
    ends.ensures' (sym c.if-lt.ensures) p)
    c.between.ensures

pub returns-else-lt : goal.returns-else-lt
returns-else-lt g c = λ p.
    let ends = c.in-Some-Some in
    c.empty.ensures p
    ∙ within_none g.T.Ord.cmp g.met.T.Ord.total c.args.bounds (point_of ends.start) (point_of ends.end)
    ends.ensures
    ends.ensures' (sym c.if-lt.ensures) p
