use Rattle.std.proofs.Common.{◌≡◌, ◌++◌, take}
use Rattle.std.specs.List.{flat_map}
use Rattle.pep440_key.specs.Key.{number_bytes}
use Rattle.pep440_key.proofs.components.push_text.Given as goal

abbrev pub invariant-loop-byte : goal.invariant-loop-byte
invariant-loop-byte l = l.key.items ≡ l.fn.key.items ++ flat_map number_bytes (take l.byte-index l.bytes)
