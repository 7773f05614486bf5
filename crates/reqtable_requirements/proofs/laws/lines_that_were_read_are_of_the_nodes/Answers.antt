use Rattle.reqtable_requirements.proofs.Asked.{are_of_nodes}
use Rattle.reqtable_requirements.proofs.laws.lines_that_were_read_are_of_the_nodes.Goals as goal

pub returns : goal.returns
returns c = λ vars nodes lines said. are_of_nodes vars nodes lines said
