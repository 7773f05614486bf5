use Rattle.std.proofs.Common.{◌≡◌, ◌++◌, ℕ, true, false, List, take, drop}
use Rattle.std.specs.List.{list_any}
use Rattle.std.specs.Str.{bytes_eq}
use Rattle.reqtable_packages.specs.Packages.{lines_at}
use Rattle.reqtable_packages.proofs.Passing.{texts, Rise}
use Rattle.reqtable_compare.specs.Settled.{AreSettled}
use Rattle.reqtable_compare.proofs.settled.open_among.Given as goal

abbrev pub invariant-loop-name : goal.invariant-loop-name
invariant-loop-name l = record {
  rising : Rise (texts l.unsettled.items ++ texts (drop l.name-index l.names));
  settled : (q : List ℕ) → list_any (bytes_eq q) (texts (take l.name-index l.names)) ≡ true →
      list_any (bytes_eq q) (texts l.unsettled.items) ≡ false → AreSettled l.fn.limit (lines_at l.ours q) (lines_at l.theirs q);
}
