use Rattle.reqtable_compare.proofs.AnsweredAlike.{rows_alike, text_alike}
use Rattle.reqtable_compare.proofs.laws.texts_that_require_the_same_are_answered_alike.Goals as goal

pub returns : goal.returns
returns c = record { rows = rows_alike; text = text_alike }
