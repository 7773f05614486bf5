use Rattle.std.proofs.Common.{◌≡◌, map, take}
use Rattle.pep508_evaluation.specs.Valuations.{valuation_of}
use Rattle.reqtable_answer.specs.Says.{marked_seen, asks_seen}
use Rattle.reqtable_requirements.specs.Asks.{applying_marked}
use Rattle.reqtable_requirements.proofs.judgement.applying_marked.Given as goal

abbrev pub invariant-loop-line : goal.invariant-loop-line
invariant-loop-line l =
    asks_seen l.asks.items
    ≡ map marked_seen (applying_marked (valuation_of l.environment l.extras) (take l.line-index l.lines))
