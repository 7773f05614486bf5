use Rattle.std.proofs.Common.{◌≡◌, ℕ, List, [], filter, take}
use Rattle.std.specs.List.{list_any}
use Rattle.reqtable_answer.specs.Asks.{is_of}
use Rattle.reqtable_answer.specs.Groups.{has_group, asks_for, candidates_for}
use Rattle.reqtable_answer.specs.Says.{asks_seen}
use Rattle.reqtable_answer.proofs.grouping.asks_by_package.Given as goal

abbrev pub invariant-loop-ask : goal.invariant-loop-ask
invariant-loop-ask l = record {
  packages : (q : List ℕ) → has_group l.groups q ≡ list_any (is_of q) (asks_seen (take l.ask-index l.asks));
  asks : (q : List ℕ) → asks_for l.groups q ≡ filter (is_of q) (asks_seen (take l.ask-index l.asks));
  candidates : (q : List ℕ) → candidates_for l.groups q ≡ [];
}
