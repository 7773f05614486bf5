use Rattle.reqtable_streaming.proofs.OneRoad.{one_road, text_as}
use Rattle.reqtable_streaming.proofs.laws.both_roads_have_one_answer.Goals as goal

pub returns-clause-rows : goal.returns-clause-rows
returns-clause-rows c = one_road

pub returns-clause-text : goal.returns-clause-text
returns-clause-text c = λ admits asks candidates selected rows answer is h.
    text_as selected candidates rows answer (one_road admits asks candidates selected rows answer is h)
