use Rattle.pep440_version.proofs.Padded.{same_key_with_zeros, same_order_with_zeros, equal_with_zeros}
use Rattle.pep440_version.proofs.ZerosPrinted.{prints_differ}
use Rattle.pep440_version.proofs.laws.end_zeros_change_nothing.Goals as goal

pub returns : goal.returns
returns c = record {
  key = same_key_with_zeros;
  order = same_order_with_zeros;
  equality = equal_with_zeros;
  print = prints_differ;
}
