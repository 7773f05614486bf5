use Rattle.std.proofs.Common.{◌≡◌, ◌&&◌, ◌++◌, ℕ, List, filter, take}
use Rattle.std.specs.List.{enumerate_from}
use Rattle.reqtable_answer.specs.Asks.{is_candidate}
use Rattle.reqtable_answer.specs.Groups.{has_group, asks_for, candidates_for}
use Rattle.reqtable_answer.proofs.grouping.add_candidates.Given as goal

abbrev pub invariant-loop-place : goal.invariant-loop-place
invariant-loop-place l = record {
  packages : (q : List ℕ) → has_group l.groups q ≡ has_group l.fn.groups q;
  asks : (q : List ℕ) → asks_for l.groups q ≡ asks_for l.fn.groups q;
  candidates : (q : List ℕ) → candidates_for l.groups q
      ≡ candidates_for l.fn.groups q ++ filter (λ c. has_group l.fn.groups q && is_candidate q c) (enumerate_from 0 (take l.place l.candidates));
}
