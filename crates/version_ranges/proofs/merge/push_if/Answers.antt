use Rattle.std.proofs.Common.{sym, subst}
use Rattle.version_ranges.specs.Boundaries.{boundary_cmp}
use Rattle.version_ranges.specs.Merging.{Adds}
use Rattle.version_ranges.proofs.merge.push_if.Goals as goal

pub returns-in_ok-push : goal.returns-in_ok-push
returns-in_ok-push g c =
    subst
    (λ changed. Adds (boundary_cmp g.T.Ord.cmp) c.args.boundary.now changed c.args.boundaries.now.items
    c.push.new.self.items)
    (sym c.if-changed.true)
    (c.in_ok-try_clone.field-0, c.in_ok-push.ensures.items, c.in_ok-try_clone.ensures)
