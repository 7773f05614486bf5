use Rattle.std.proofs.Common.{◌∙◌, map, ap}
use Rattle.pep508_evaluation.specs.Valuations.{valuation_of}
use Rattle.reqtable_answer.specs.Says.{marked_seen}
use Rattle.reqtable_requirements.specs.Asks.{applying_marked}
use Rattle.reqtable_requirements.proofs.Asked.{if_ok, say_all_marked}
use Rattle.reqtable_requirements.proofs.judgement.asks_in.Goals as goal

pub returns-clause-said : goal.returns-clause-said
returns-clause-said c =
    let v = valuation_of c.args.environment.now c.args.extras.now in
    if_ok c.applying_marked.result c.applying_marked.ensures.asks (λ asks h vars said stands.
    say_all_marked vars v c.args.lines.now said asks.items
    (h ∙ ap (λ lines. map marked_seen (applying_marked v lines)) c.lines.ensures) stands)
