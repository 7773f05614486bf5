use Rattle.reqtable_normal.proofs.Unbounded.{unbounded}
use Rattle.reqtable_normal.proofs.lines.normal.Goals as goal

pub returns : goal.returns
returns c = λ vars said stand. unbounded said c.normal_text.result (c.normal_text.ensures vars said stand)
