use Rattle.pep440_version.proofs.Found.{version_found, pattern_found}
use Rattle.pep440_version.proofs.laws.readings_find_what_texts_are.Goals as goal

pub returns : goal.returns
returns c = record { version = version_found; pattern = pattern_found }
