use Rattle.std.proofs.Common.{◌∙◌, Some, ap, sym}
use Rattle.reqtable_answer.proofs.OneRange.{told}
use Rattle.reqtable_streaming.specs.Packages.{unboxed}
use Rattle.reqtable_streaming.proofs.offering.accept.Goals as goal

pub returns-in-Some-2 : goal.returns-in-Some-2
returns-in-Some-2 c =
    told c.args.asks.now (unboxed c.args.range.now) c.deref.result.now c.args.version.now _ c.in-Some-2.taken
    (ap unboxed c.in-Some.is ∙ ap (λ one. Some one) (sym c.deref.ensures)) c.in-Some-2.is c.requires
    c.in_ok-taken.ensures.taken
