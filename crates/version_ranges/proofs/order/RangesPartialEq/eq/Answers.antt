use Rattle.std.proofs.Common.{◌∙◌, ap, sym, ◌&&◌}
use Rattle.std.specs.Cmp.Lexicographic.{pointwise}
use Rattle.std.specs.Ordering.{eq_by_cmp}
use Rattle.version_ranges.specs.Boundaries.{boundary_cmp}
use Rattle.version_ranges.proofs.Comparing.{equal_lists}
use Rattle.version_ranges.proofs.order.RangesPartialEq.eq.Goals as goal

pub returns-then-starts_held-other_starts_held : goal.returns-then-starts_held-other_starts_held
returns-then-starts_held-other_starts_held g c =
    let this = c.turns-starts_held in
    let that = c.turns-other_starts_held in
    let all = equal_lists g.T.Ord.cmp g.met.T.Ord.total this.result.0 that.result.0 this.result.1.now
    that.result.1.now
    c.args.self.now c.args.other.now c.eq.result this.ensures.turns that.ensures.turns this.ensures.normal
    that.ensures.normal (c.eq.ensures
    ∙ sym (ap (λ same. same && pointwise (eq_by_cmp (boundary_cmp g.T.Ord.cmp)) this.result.1.now
    that.result.1.now)
    c.if-starts_held-other_starts_held.true)) in
    record { test = all.0; points = all.1 }

pub returns-else-starts_held-other_starts_held : goal.returns-else-starts_held-other_starts_held
returns-else-starts_held-other_starts_held g c =
    let this = c.turns-starts_held in
    let that = c.turns-other_starts_held in
    let all = equal_lists g.T.Ord.cmp g.met.T.Ord.total this.result.0 that.result.0 this.result.1.now
    that.result.1.now
    c.args.self.now c.args.other.now _ this.ensures.turns that.ensures.turns this.ensures.normal
    that.ensures.normal (c.if-starts_held-other_starts_held.false
    ∙ sym (ap (λ same. same && pointwise (eq_by_cmp (boundary_cmp g.T.Ord.cmp)) this.result.1.now
    that.result.1.now)
    c.if-starts_held-other_starts_held.false)) in
    record { test = all.0; points = all.1 }
