use Rattle.pep508_reading_back.proofs.ReadFronts.{front_readable, kept_readable}
use Rattle.pep508_reading_back.proofs.laws.a_read_front_is_readable.Goals as goal

pub returns : goal.returns
returns c = record {
  given = λ text front marker is n. front_readable text front is.0 is.1 n;
  kept = λ text front marker given list is same order. kept_readable text front is.0 given list is.1 same order;
}
