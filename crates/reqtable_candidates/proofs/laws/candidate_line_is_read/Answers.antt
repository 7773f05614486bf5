use Rattle.reqtable_candidates.proofs.CandidateLines.{candidate_found, candidate_again}
use Rattle.reqtable_candidates.proofs.laws.candidate_line_is_read.Goals as goal

pub returns : goal.returns
returns c = λ line candidate u.
    (candidate_found c.version_text_is_read.ensures line candidate u, candidate_again c.version_text_is_read.ensures line candidate u)
