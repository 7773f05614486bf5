use Rattle.std.proofs.Common.{map, take}
use Rattle.reqtable_compare.specs.Seen.{summary_record}
use Rattle.reqtable_compare.specs.Pairs.{FitsAll}
use Rattle.reqtable_compare.proofs.pairing.fits_all.Given as goal

abbrev pub invariant-loop-other : goal.invariant-loop-other
invariant-loop-other l = FitsAll l.fn.relation (map summary_record (take l.other-index l.right)) (summary_record l.one)
