use Rattle.std.proofs.Common.{◌≡◌, Some, drop}
use Rattle.pep508_name.specs.Name.{normal_name}
use Rattle.pep508_name.proofs.Walk.{behind, written}
use Rattle.pep508_name.proofs.normal.normalized.Given as goal

abbrev pub invariant-loop-byte : goal.invariant-loop-byte
invariant-loop-byte l =
    written l.name.items (behind l.separated (drop l.byte-index l.byte-items)) ≡ Some (normal_name l.text)
