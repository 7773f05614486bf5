-- What the text of a member is read as.
use Rattle.pep440_version.proofs.Found.{reads_found}

pub ruleset found = (reads_found)
