use Rattle.reqtable_requirements.proofs.Asked.{are_of_nodes}
use Rattle.pep508_vectors.proofs.normals.normal_text.Goals as goal

pub made-requires : goal.made-requires
made-requires c = are_of_nodes _ _ _ c.in-Ok.ensures.answered.0 c.in-Ok.ensures.answered.2
