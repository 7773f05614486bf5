use Rattle.std.proofs.Common.{◌≡◌, ◌++◌, take}
use Rattle.std.specs.List.{flat_map}
use Rattle.pep440_key.specs.Key.{number_bytes}
use Rattle.pep440_key.proofs.number.push_numbers.Given as goal

abbrev pub invariant-loop-number : goal.invariant-loop-number
invariant-loop-number l = l.key.items ≡ l.fn.key.items ++ flat_map number_bytes (take l.number-index l.numbers)
