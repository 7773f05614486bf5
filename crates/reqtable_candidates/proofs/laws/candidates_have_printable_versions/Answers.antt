use Rattle.reqtable_candidates.proofs.WholeCandidates.{printable_versions}
use Rattle.reqtable_candidates.proofs.laws.candidates_have_printable_versions.Goals as goal

pub returns : goal.returns
returns c = printable_versions c.version_text_is_read.ensures c.read_is_printable.ensures
