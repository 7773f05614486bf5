use Rattle.std.proofs.Common.{◌≡◌, map, take}
use Rattle.reqtable_compare.specs.Seen.{summary_record}
use Rattle.reqtable_compare.specs.Pairs.{case_trees}
use Rattle.reqtable_compare.proofs.pairing.trees_of.Given as goal

abbrev pub invariant-loop-case : goal.invariant-loop-case
invariant-loop-case l = l.trees.items ≡ case_trees (map summary_record (take l.case-index l.cases))
