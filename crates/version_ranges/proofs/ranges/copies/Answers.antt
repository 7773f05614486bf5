use Rattle.std.proofs.Common.{◌≡◌, ◌+◌, ◌++◌, ◌∷◌, [], take, ◌∙◌, ap, sym}
use Rattle.std.proofs.lemmas.List.{take_more}
use Rattle.std.specs.Cmp.Lexicographic.{slice_cmp}
use Rattle.version_ranges.specs.Boundaries.{boundary_cmp}
use Rattle.version_ranges.proofs.Turning.{tied_more}
use Rattle.version_ranges.proofs.ranges.copies.Goals as goal

pub loop-boundary-preserved : goal.loop-boundary-preserved
loop-boundary-preserved g c =
    let list = c.args.boundaries.now in
    let index = c.loop-boundary.boundary-index in
    let item = c.boundary-item.result in
    let next : take (index + 1) list ≡ take index list ++ item ∷ [] =
    take_more list index item c.loop-boundary-test.true
    ∙ ap (λ later. take index list ++ later ∷ []) (sym c.boundary-item.is) in
    (λ i. slice_cmp (boundary_cmp g.T.Ord.cmp) (c.in_ok-push.ensures.items i) (next i))
    ∙ tied_more (boundary_cmp g.T.Ord.cmp) c.loop-boundary.copies.items (take index list)
    c.in_ok-try_clone.field-0 item
    c.loop-boundary.invariant c.in_ok-try_clone.ensures
