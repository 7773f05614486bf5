use Rattle.pep440_version.proofs.Padded.{padded_is}
use Rattle.pep440_version.proofs.laws.releases_compare_padded.Goals as goal

pub returns : goal.returns
returns c = padded_is
