use Rattle.std.proofs.Common.{◌∙◌, ap}
use Rattle.reqtable_streaming.specs.declared.required.Package.{Package}
use Rattle.reqtable_streaming.specs.Packages.{candidate_with}
use Rattle.reqtable_streaming.proofs.Offered.{not_offered}
use Rattle.reqtable_streaming.proofs.PassedOver.{past_at}
use Rattle.reqtable_streaming.proofs.offering.passes_over.Goals as goal

pub returns-in-None : goal.returns-in-None
returns-in-None c = λ over admits version packed.
    not_offered admits (candidate_with c.args.name.now.name.now version) c.args.packages.now c.in-None.ensures

pub returns-in-Some : goal.returns-in-Some
returns-in-Some c = λ over admits version packed.
    let was = c.index-packages-place.result in
    let there = c.index-packages-place.is in
    let found = c.in-Some.ensures in
    past_at admits (candidate_with c.args.name.now.name.now version) c.args.word c.args.packages.now c.in-Some.place was
    c.requires.rising found.0 there (ap (λ (p : Package). p.name.now) there ∙ found.1 was) packed (c.is_past.ensures over)
