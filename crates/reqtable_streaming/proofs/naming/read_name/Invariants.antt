use Rattle.std.proofs.Common.{◌≡◌, ℕ, ◌-◌, ◌<◌, ◌≤◌, length, take, drop}
use Rattle.pep508_name.specs.Name.{name_of}
use Rattle.pep508_name.proofs.Walk.{behind, written}
use Rattle.reqtable_streaming.proofs.naming.read_name.Given as goal

abbrev pub invariant-loop-at : goal.invariant-loop-at
invariant-loop-at l = record {
  within : l.at ≤ length l.line;
  room : l.count ≤ length l.normal;
  so_far : (n : ℕ) → l.at ≤ n → 0 < n → n ≤ length l.line
      → written (take l.count l.normal) (behind l.separated (drop l.at (take n l.line))) ≡ name_of (take n l.line);
}

abbrev pub decreases-loop-at : goal.decreases-loop-at
decreases-loop-at l = length l.line - l.at
