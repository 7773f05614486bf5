use Rattle.pep440_specifier_list.proofs.Refused.{IsAsking}
use Rattle.pep440_specifier_list.proofs.asking.ask.Given as goal

abbrev pub invariant-loop-member : goal.invariant-loop-member
invariant-loop-member l = IsAsking l.members l.version l.asked l.member-index
