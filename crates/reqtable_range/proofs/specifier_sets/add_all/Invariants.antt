use Rattle.std.proofs.Common.{◌++◌, List, take}
use Rattle.pep440_specifier.specs.Matching.{SpecifierRecord}
use Rattle.reqtable_range.specs.Sorting.{SortsInto}
use Rattle.reqtable_range.proofs.specifier_sets.add_all.Given as goal

abbrev pub invariant-loop-member : goal.invariant-loop-member
invariant-loop-member l =
    (before : List SpecifierRecord) → SortsInto before l.fn.sorted → SortsInto (before ++ take l.member-index l.members) l.sorted
