use Rattle.std.proofs.Common.{map, take, IfSome}
use Rattle.std.specs.List.{AllByRecursion}
use Rattle.reqtable_compare.specs.Seen.{summary_record}
use Rattle.reqtable_compare.specs.Pairs.{PassesAll, FitsAll}
use Rattle.reqtable_compare.proofs.pairing.first_of_all.Given as goal

abbrev pub invariant-loop-one : goal.invariant-loop-one
invariant-loop-one l =
    AllByRecursion (PassesAll l.fn.relation l.interner.nodes (map summary_record l.right)) (map summary_record (take l.one-index l.left))
    × IfSome l.fitting (λ other. FitsAll l.fn.relation (map summary_record l.right) (summary_record other.now))
