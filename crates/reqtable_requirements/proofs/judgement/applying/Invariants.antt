use Rattle.std.proofs.Common.{◌≡◌, map, take}
use Rattle.pep508_evaluation.specs.Valuations.{valuation_of}
use Rattle.reqtable_answer.specs.Says.{requirement_seen, asks_seen}
use Rattle.reqtable_requirements.specs.Asks.{applying}
use Rattle.reqtable_requirements.proofs.judgement.applying.Given as goal

abbrev pub invariant-loop-line : goal.invariant-loop-line
invariant-loop-line l =
    asks_seen l.asks.items
    ≡ map requirement_seen (applying l.interner.nodes (valuation_of l.environment l.extras) (take l.line-index l.lines))
