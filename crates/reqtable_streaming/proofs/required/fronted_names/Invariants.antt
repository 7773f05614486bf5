use Rattle.std.proofs.Common.{take}
use Rattle.reqtable_streaming.specs.Packages.{AreNamesOf}
use Rattle.reqtable_streaming.proofs.required.fronted_names.Given as goal

abbrev pub invariant-loop-wanted : goal.invariant-loop-wanted
invariant-loop-wanted l = AreNamesOf (take l.wanted-index l.packages) l.names.items
