use Rattle.std.proofs.Common.{◌∙◌, ap, sym, true, false, not}
use Rattle.std.specs.Ordering.{ordering_reverse}
use Rattle.version_ranges.specs.Order.{ranges_cmp}
use Rattle.version_ranges.specs.OrderLaws.{ranges_total}
use Rattle.version_ranges.proofs.Turning.{turns_at, same_sign, other_sign}
use Rattle.version_ranges.proofs.Comparing.{equal_when}
use Rattle.version_ranges.proofs.order.RangesOrd.cmp.Goals as goal

pub returns-then-starts_held-other_starts_held : goal.returns-then-starts_held-other_starts_held
returns-then-starts_held-other_starts_held g c =
    let this = c.turns-starts_held in
    let that = c.turns-other_starts_held in
    let other = turns_at that.result.0 this.result.0 that.result.1.now c.args.other.now
    (same_sign this.result.0 that.result.0 c.if-starts_held-other_starts_held.true) that.ensures.turns in
    let order = c.compare_boundaries.ensures
    ∙ (λ i. ranges_cmp g.T.Ord.cmp (this.ensures.turns i) (other i)) in
    record {
      order = order;
      points =
          equal_when g.T.Ord.cmp g.met.T.Ord.total c.args.self.now c.args.other.now this.ensures.normal
          that.ensures.normal
          c.compare_boundaries.result order;
    }

pub returns-then-starts_held : goal.returns-then-starts_held
returns-then-starts_held g c =
    let this = c.turns-starts_held in
    let that = c.turns-other_starts_held in
    let sign = other_sign this.result.0 that.result.0 c.if-starts_held-other_starts_held.false
    ∙ ap not c.if-starts_held.true in
    let first = turns_at this.result.0 true this.result.1.now c.args.self.now c.if-starts_held.true
    this.ensures.turns in
    let second = turns_at that.result.0 false that.result.1.now c.args.other.now sign that.ensures.turns in
    let order = c.compare_from_below.ensures this.result.1.now
    ∙ (λ i. ranges_cmp g.T.Ord.cmp (first i) (second i)) in
    record {
      order = order;
      points =
          equal_when g.T.Ord.cmp g.met.T.Ord.total c.args.self.now c.args.other.now this.ensures.normal
          that.ensures.normal
          c.compare_from_below.result order;
    }

pub returns-else-starts_held : goal.returns-else-starts_held
returns-else-starts_held g c =
    let this = c.turns-starts_held in
    let that = c.turns-other_starts_held in
    let sign = other_sign this.result.0 that.result.0 c.if-starts_held-other_starts_held.false
    ∙ ap not c.if-starts_held.false in
    let first = turns_at this.result.0 false this.result.1.now c.args.self.now c.if-starts_held.false
    this.ensures.turns in
    let second = turns_at that.result.0 true that.result.1.now c.args.other.now sign that.ensures.turns in
    let back = c.compare_from_below-else-starts_held.ensures that.result.1.now
    ∙ (λ i. ranges_cmp g.T.Ord.cmp (second i) (first i)) in
    let order = c.reverse.ensures ∙ ap ordering_reverse back
    ∙ sym ((ranges_total g.T.Ord.cmp g.met.T.Ord.total).antisymm c.args.self.now c.args.other.now) in
    record {
      order = order;
      points =
          equal_when g.T.Ord.cmp g.met.T.Ord.total c.args.self.now c.args.other.now this.ensures.normal
          that.ensures.normal
          c.reverse.result order;
    }
