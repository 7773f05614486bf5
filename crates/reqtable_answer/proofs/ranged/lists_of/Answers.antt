use Rattle.std.proofs.Common.{◌∙◌, ◌&&◌, sym, ap}
use Rattle.std.proofs.lemmas.List.{take_all}
use Rattle.std.specs.List.{list_all}
use Rattle.reqtable_answer.specs.Asks.{ask_takes}
use Rattle.reqtable_answer.specs.Says.{ask_seen}
use Rattle.reqtable_answer.proofs.Tests.{all_more}
use Rattle.reqtable_answer.proofs.ranged.lists_of.Goals as goal

pub loop-ask-preserved : goal.loop-ask-preserved
loop-ask-preserved c = λ v.
    c.in_ok-lend_list.ensures v
    ∙ ap (λ b. b && ask_takes v (ask_seen c.ask-item.result)) (c.loop-ask.invariant v)
    ∙ sym (all_more (λ ask. ask_takes v (ask_seen ask)) c.args.asks.now c.loop-ask.ask-index c.ask-item.result c.loop-ask-test.true c.ask-item.is)

pub returns : goal.returns
returns c = λ v.
    c.loop-ask.invariant v
    ∙ ap (list_all (λ ask. ask_takes v (ask_seen ask))) (take_all c.loop-ask.ask-index c.args.asks.now c.loop-ask-test.false)
