use Rattle.reqtable_requirements.proofs.Lasting.{lines_kept, nodes_kept}
use Rattle.reqtable_requirements.proofs.laws.lines_last_while_nodes_are_added.Goals as goal

pub returns : goal.returns
returns c = record {
  trees = λ old new lines more h. nodes_kept old new lines more h;
  said = λ vars old new lines said more h. lines_kept vars old new more lines said h;
}
