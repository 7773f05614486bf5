-- Hashing of names agrees with their equality.
use Rattle.std.specs.Prelude.{◌≡◌, ℕ, List, true}
use Rattle.std.proofs.Common.{ap}
use Rattle.std.proofs.lemmas.Slice.Eq.{bytes_eq-Decides}
use Rattle.pep508_name.specs.Name.{name_eq, fed_name}

-- equal names feed a hash alike
pub alike_names : (a b : List ℕ) → name_eq a b ≡ true → fed_name a ≡ fed_name b
alike_names a b h = ap fed_name ((bytes_eq-Decides a b).0 h)
