use Rattle.std.proofs.Common.{length}
use Rattle.pep508_conjunctions.proofs.meet.+meet_all.Given as goal

abbrev pub decreases-meet_all : goal.decreases-meet_all
decreases-meet_all g l = length l.sources.now
