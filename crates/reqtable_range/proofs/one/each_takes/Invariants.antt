use Rattle.std.proofs.Common.{◌≡◌, take, true}
use Rattle.std.specs.List.{list_all}
use Rattle.pep440_specifier.specs.Matching.{takes}
use Rattle.reqtable_range.proofs.one.each_takes.Given as goal

abbrev pub invariant-loop-member : goal.invariant-loop-member
invariant-loop-member l = list_all (λ member. takes l.version member.now) (take l.member-index l.members) ≡ true
