use Rattle.reqtable_table.proofs.Told.{none_told}
use Rattle.reqtable_table.proofs.runs.untold.Goals as goal

pub returns : goal.returns
returns c =
    none_told _ _ _ c.new-outcomes.result.items c.resize.new.self.items c.new-outcomes.ensures.items c.resize.ensures.items
