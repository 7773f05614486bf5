use Rattle.std.proofs.Common.{map}
use Rattle.std.specs.Map.Iter.{deref_pair}
use Rattle.reqtable_key.specs.Entries.{AreWritten}
use Rattle.reqtable_key.proofs.regions.written.Given as goal

abbrev pub invariant-loop-group : goal.invariant-loop-group
invariant-loop-group l =
    AreWritten l.fn.interner.nodes l.interner.nodes l.groups (map deref_pair l.yielded) l.key.items
