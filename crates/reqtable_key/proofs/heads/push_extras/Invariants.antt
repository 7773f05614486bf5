use Rattle.std.proofs.Common.{◌≡◌, ◌++◌, take}
use Rattle.std.specs.List.{flat_map}
use Rattle.pep440_key.specs.Key.{component_bytes}
use Rattle.reqtable_key.proofs.Listed.{one_bytes}
use Rattle.reqtable_key.proofs.heads.push_extras.Given as goal

abbrev pub invariant-loop-extra : goal.invariant-loop-extra
invariant-loop-extra l =
    l.bytes.items ≡ l.fn.bytes.items ++ flat_map (one_bytes component_bytes) (take l.extra-index l.extras)
