use Rattle.reqtable_range.proofs.Telling.{all_told}
use Rattle.reqtable_range.proofs.laws.simple_range_tells_what_all_take.Goals as goal

pub returns : goal.returns
returns c = λ lists one candidate found said. all_told c.ranges_agree_everywhere.ensures lists one candidate found said
