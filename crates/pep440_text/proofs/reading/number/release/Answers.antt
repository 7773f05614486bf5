use Rattle.pep440_text.proofs.FirstNumber.{release_begun}
use Rattle.pep440_text.proofs.reading.number.release.Goals as goal

pub returns-in-Some-clause-grown : goal.returns-in-Some-clause-grown
returns-in-Some-clause-grown c e = let read = rw c.in-Some.is at c.in_ok-first.ensures in release_begun _ _ _ read
