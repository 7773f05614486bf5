use Rattle.reqtable_candidates.proofs.WholeCandidates.{candidates_read}
use Rattle.reqtable_candidates.proofs.laws.candidates_are_their_lines.Goals as goal

pub returns : goal.returns
returns c = candidates_read c.version_text_is_read.ensures
