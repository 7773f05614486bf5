use Rattle.pep440_text.proofs.Cuts.{version_cut, pattern_cut}
use Rattle.pep440_text.proofs.laws.faults_stand_between_characters.Goals as goal

pub returns : goal.returns
returns c = record { version = version_cut; pattern = pattern_cut }
