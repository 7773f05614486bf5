use Rattle.reqtable_candidates.proofs.CandidateLines.{one_candidate}
use Rattle.reqtable_candidates.proofs.laws.text_is_one_candidate_line.Goals as goal

pub returns : goal.returns
returns c = one_candidate c.version_text_is_read.ensures
