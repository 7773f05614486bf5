use Rattle.std.proofs.Common.{map, take}
use Rattle.std.specs.List.{AllZip}
use Rattle.pep508_cases.specs.Seen.{cases_seen}
use Rattle.reqtable_table.specs.Casing.{case_record, IsCaseOfGiven}
use Rattle.reqtable_table.proofs.package_cases.cases_of.Given as goal

abbrev pub invariant-loop-set : goal.invariant-loop-set
invariant-loop-set l =
    AllZip (IsCaseOfGiven l.lines) (map case_record l.cases.items) (cases_seen (take l.set-index l.sets))
