use Rattle.pep508_reading_back.proofs.Matters.{asks_these_alone}
use Rattle.pep508_reading_back.proofs.laws.a_marker_asks_what_its_meaning_asks.Goals as goal

pub returns : goal.returns
returns c = asks_these_alone
