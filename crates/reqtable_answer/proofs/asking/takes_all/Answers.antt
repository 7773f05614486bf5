use Rattle.std.proofs.Common.{◌≡◌, ◌∙◌, sym, false}
use Rattle.std.proofs.lemmas.List.Folds.{list_all_at}
use Rattle.reqtable_answer.specs.Asks.{ask_takes}
use Rattle.reqtable_answer.specs.Says.{ask_seen}
use Rattle.reqtable_answer.proofs.asking.takes_all.Goals as goal

pub returns-then-not-taken : goal.returns-then-not-taken
returns-then-not-taken c =
    let refused : ask_takes c.args.version.now (ask_seen c.ask-item.result) ≡ false = sym c.in_ok-taken.ensures ∙ c.if-not-taken.true in
    sym (list_all_at (λ ask. ask_takes c.args.version.now (ask_seen ask)) c.args.asks.now c.loop-ask.ask-index c.ask-item.result c.loop-ask-test.true (rw (← c.ask-item.is) refused))
