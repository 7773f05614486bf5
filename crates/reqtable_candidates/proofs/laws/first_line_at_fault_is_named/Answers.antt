use Rattle.reqtable_candidates.proofs.WholeCandidates.{first_fault}
use Rattle.reqtable_candidates.proofs.laws.first_line_at_fault_is_named.Goals as goal

pub returns : goal.returns
returns c = first_fault c.version_text_is_read.ensures
