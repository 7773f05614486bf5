use Rattle.std.proofs.Common.{◌≡◌, true, take}
use Rattle.std.specs.List.{list_all}
use Rattle.reqtable_cases.specs.Usable.{is_ranged}
use Rattle.reqtable_cases.proofs.ranges.are_ranged.Given as goal

abbrev pub invariant-loop-member : goal.invariant-loop-member
invariant-loop-member l = list_all (λ member. is_ranged member.now) (take l.member-index l.members) ≡ true
