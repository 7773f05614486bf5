use Rattle.std.proofs.Common.{◌∙◌, ap, sym, not}
use Rattle.version_ranges.specs.Point.{point_cmp}
use Rattle.version_ranges.specs.Turns.{flips}
use Rattle.version_ranges.specs.Boundaries.{point_of}
use Rattle.version_ranges.specs.Merging.{combined}
use Rattle.version_ranges.specs.OrderLaws.{points_total}
use mathlib.Core.Bool.{beq}
use Rattle.version_ranges.proofs.Pass.{joined_next, changes}
use Rattle.version_ranges.proofs.Membership.{differs}
use Rattle.version_ranges.proofs.Turning.{joined_signs, first_map, adds_turns}
use Rattle.version_ranges.proofs.merge.merged.Goals as goal

pub loop-next-init : goal.loop-next-init
loop-next-init g c = record {
  joined =
      joined_signs g.T.Ord.cmp (combined c.args.combination) c.args.first.now c.args.second.now
      c.turns-in_first.result.0 c.turns-in_second.result.0 c.holds-starts_held.result
      c.turns-in_first.result.1.now
      c.turns-in_second.result.1.now c.new-boundaries.result.items c.turns-in_first.ensures.turns
      c.turns-in_second.ensures.turns c.new-boundaries.ensures.items c.holds-starts_held.ensures
      c.turns-in_first.ensures.normal c.turns-in_second.ensures.normal;
  inside = c.holds-starts_held.ensures;
}

pub loop-next-preserved : goal.loop-next-preserved
loop-next-preserved g c =
    let next = c.in-Some.next in
    let first = differs c.loop-next.in_first next.in_first in
    let second = differs c.loop-next.in_second next.in_second in
    let now = c.holds-inside.ensures ∙ (λ i. combined c.args.combination (first i) (second i)) in
    record {
      joined =
          rw (first, second)
          (joined_next (points_total g.T.Ord.cmp g.met.T.Ord.total)
          (not (beq c.holds-inside.result c.loop-next.inside))
          c.loop-next.invariant.joined (first_map point_of (point_cmp g.T.Ord.cmp) c.in-Some.ensures)
          (adds_turns g.T.Ord.cmp c.holds-starts_held.result next.boundary.now
          (not (beq c.holds-inside.result c.loop-next.inside)) c.loop-next.boundaries.items
          c.push_if.new.boundaries.items
          c.in_ok-push_if.ensures)
          (ap (λ was. flips was (not (beq c.holds-inside.result c.loop-next.inside)))
          (sym c.loop-next.invariant.inside)
          ∙ changes c.loop-next.inside c.holds-inside.result ∙ now));
      inside = c.holds-inside.ensures;
    }
