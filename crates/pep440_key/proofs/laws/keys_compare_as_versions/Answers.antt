use Rattle.pep440_key.proofs.KeyOrder.{in_order, same_where_equal, before_others}
use Rattle.pep440_key.proofs.laws.keys_compare_as_versions.Goals as goal

pub returns : goal.returns
returns c = record { order = in_order; equality = same_where_equal; before_others = before_others }
