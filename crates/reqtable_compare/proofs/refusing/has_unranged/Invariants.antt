use Rattle.std.proofs.Common.{◌≡◌, false, take}
use Rattle.std.specs.List.{list_any}
use Rattle.reqtable_compare.specs.RefusedLines.{is_unranged}
use Rattle.reqtable_compare.proofs.refusing.has_unranged.Given as goal

abbrev pub invariant-loop-member : goal.invariant-loop-member
invariant-loop-member l = list_any is_unranged (take l.member-index l.members) ≡ false
