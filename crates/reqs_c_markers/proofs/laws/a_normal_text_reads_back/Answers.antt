use Rattle.reqs_c_markers.proofs.ReadBack.{own_text}
use Rattle.reqs_c_markers.proofs.laws.a_normal_text_reads_back.Goals as goal

pub returns : goal.returns
returns c = own_text
