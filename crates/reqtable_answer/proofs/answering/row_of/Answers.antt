use Rattle.std.proofs.Common.{◌∙◌, map, refl}
use Rattle.reqtable_answer.specs.Groups.{numbered_seen}
use Rattle.reqtable_answer.proofs.ByPackage.{first_named, below_of}
use Rattle.reqtable_answer.proofs.answering.row_of.Goals as goal

pub returns-clause-name : goal.returns-clause-name
returns-clause-name g c = λ q all.
    c.in_ok-package.ensures ∙ first_named q c.args.asks.now c.index-asks-0.result c.requires.asked all

pub returns-clause-below : goal.returns-clause-below
returns-clause-below g c = λ count within.
    c.in_ok-outcome.ensures.below count (below_of count c.args.candidates.now (map numbered_seen c.args.candidates.now) refl within)
