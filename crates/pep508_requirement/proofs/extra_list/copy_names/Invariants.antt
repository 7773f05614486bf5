use Rattle.std.proofs.Common.{◌≡◌, take}
use Rattle.pep508_requirement.proofs.extra_list.copy_names.Given as goal

abbrev pub invariant-loop-name : goal.invariant-loop-name
invariant-loop-name l = l.copies.items ≡ take l.name-index l.names
