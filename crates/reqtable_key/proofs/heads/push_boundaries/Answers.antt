use Rattle.std.proofs.Common.{◌∙◌, ◌++◌, ap, arith, map}
use Rattle.std.proofs.lemmas.List.{take_all}
use Rattle.std.specs.List.{flat_map}
use Rattle.version_ranges.specs.Boundaries.{point_of}
use Rattle.reqtable_key.specs.Heads.{point_bytes}
use Rattle.reqtable_key.proofs.Listed.{one_bytes, written}
use Rattle.reqtable_key.proofs.heads.push_boundaries.Goals as goal

pub returns : goal.returns
returns c =
    c.in_ok-push-2.ensures.items
    ∙ written point_bytes c.args.bytes.now.items c.loop-boundary.bytes.items (map point_of c.args.boundaries.now)
    (c.loop-boundary.invariant
    ∙ ap (λ l. c.args.bytes.now.items ++ flat_map (one_bytes point_bytes) (map point_of l))
    (take_all c.loop-boundary.boundary-index c.args.boundaries.now (omega (arith, c.loop-boundary-test.false))))
