use Rattle.std.proofs.Common.{◌≡◌, List, map}
use Rattle.std.specs.List.{AllByRecursion}
use Rattle.std.specs.Map.Iter.{deref_pair}
use Rattle.pep508_requirement_text.specs.FrontReading.{Front}
use Rattle.reqtable_answer.proofs.Packages.{names}
use Rattle.reqtable_streaming.specs.Packages.{AreGroups, AreSound, IsNew, names_of}
use Rattle.reqtable_streaming.proofs.required.packages_of.Given as goal

abbrev pub invariant-loop-entry : goal.invariant-loop-entry
invariant-loop-entry l = record {
  names : (all : List Front) → AreGroups all l.fn.groups → names_of l.packages.items ≡ names (map deref_pair l.yielded);
  sound : AreSound l.packages.items;
  each : (all : List Front) → AreGroups all l.fn.groups → AllByRecursion (IsNew all) l.packages.items;
}
