use Rattle.std.proofs.Common.{◌∙◌, ◌++◌, ap, arith}
use Rattle.std.proofs.lemmas.List.{take_all}
use Rattle.std.specs.List.{flat_map}
use Rattle.pep440_key.specs.Key.{component_bytes}
use Rattle.reqtable_key.proofs.Listed.{one_bytes, written}
use Rattle.reqtable_key.proofs.heads.push_extras.Goals as goal

pub returns : goal.returns
returns c =
    c.in_ok-push-2.ensures.items
    ∙ written component_bytes c.args.bytes.now.items c.loop-extra.bytes.items c.args.extras.now
    (c.loop-extra.invariant
    ∙ ap (λ l. c.args.bytes.now.items ++ flat_map (one_bytes component_bytes) l)
    (take_all c.loop-extra.extra-index c.args.extras.now (omega (arith, c.loop-extra-test.false))))
