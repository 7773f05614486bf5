use Rattle.std.proofs.Common.{◌≡◌, true, map, take}
use Rattle.reqtable_compare.specs.Seen.{summary_record}
use Rattle.reqtable_compare.specs.Pairs.{PassesAll, FitsAll}
use Rattle.reqtable_compare.proofs.pairing.compared.Given as goal

abbrev pub invariant-loop-other : goal.invariant-loop-other
invariant-loop-other l =
    PassesAll l.fn.relation l.interner.nodes (map summary_record (take l.other-index l.right)) (summary_record l.one)
    × (l.fits_all ≡ true
    → FitsAll l.fn.relation (map summary_record (take l.other-index l.right)) (summary_record l.one))
