use Rattle.std.proofs.Common.{◌≡◌, Some}
use Rattle.reqtable_streaming.proofs.PassedOver.{at_most, past_word}
use Rattle.reqtable_streaming.proofs.offering.is_past.Goals as goal

pub returns-in-Some : goal.returns-in-Some
returns-in-Some c = λ below admits candidate packed.
    let is = c.in-Some.is in
    let known : c.args.wanted.now.word ≡ Some c.in-Some.best = cc in
    past_word c.args.word c.in-Some.best c.args.wanted.now c.requires known (at_most c.args.word c.in-Some.best below)
    admits candidate packed
