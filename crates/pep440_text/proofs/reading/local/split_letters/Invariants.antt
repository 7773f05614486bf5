use Rattle.std.proofs.Common.{◌≡◌, ◌-◌, ◌≤◌, ◌<◌, ℕ, true, length, get_or}
use Rattle.std.specs.Char.{is_ascii_alphanumeric}
use Rattle.pep440_text.proofs.reading.local.split_letters.Given as goal

abbrev pub invariant-loop-count : goal.invariant-loop-count
invariant-loop-count l = record {
  within : l.count ≤ length l.bytes;
  passed : (k : ℕ) → k < l.count → is_ascii_alphanumeric (get_or l.bytes k 0) ≡ true;
}

abbrev pub decreases-loop-count : goal.decreases-loop-count
decreases-loop-count l = length l.bytes - l.count
