use Rattle.std.proofs.Common.{map, take}
use Rattle.std.specs.List.{AllByRecursion}
use Rattle.reqtable_compare.specs.Seen.{summary_record}
use Rattle.reqtable_compare.proofs.Listed.{PassAt}
use Rattle.reqtable_compare.proofs.pairing.first_listed.Given as goal

abbrev pub invariant-loop-pair : goal.invariant-loop-pair
invariant-loop-pair l =
    AllByRecursion (PassAt l.fn.relation l.interner.nodes (map summary_record l.left) (map summary_record l.right))
    (take l.pair-index l.pairs)
