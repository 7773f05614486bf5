-- Candidates with their places, package by package and from the highest version down.
use Rattle.std.specs.Prelude.{ℕ, List}
use Rattle.std.specs.List.{enumerate_from}
use Rattle.std.specs.List.Sorted.{IsPermutation, IsStrictlySortedBy}
use Rattle.std.specs.declared.cmp.Ordering.{Ordering}
use Rattle.std.specs.Ordering.{on, flip_args, then_cmp, nat_cmp}
use Rattle.pep440_version.specs.Order.{version_cmp}
use Rattle.pep508_name.specs.Name.{name_cmp}
use Rattle.reqtable_candidates.specs.declared.candidates.Candidate.{Candidate}
use Rattle.reqtable_candidates.specs.declared.ordered.Placed.{Placed}

-- a place, and the candidate that is there
abbrev pub placed_seen : Placed → ℕ × Candidate
placed_seen placed = (placed.place, placed.candidate.now)

-- the order of candidates: by name, then by version, the higher first, then by place
abbrev pub order_cmp : ℕ × Candidate → ℕ × Candidate → Ordering
order_cmp =
    then_cmp (on (λ c. c.1.name) name_cmp)
    (then_cmp (on (λ c. c.1.version) (flip_args version_cmp)) (on (λ c. c.0) nat_cmp))

-- the candidates of a list, each once with its place, in this order
pub record AreInOrder (candidates : List Candidate) (placed : List (ℕ × Candidate)) : Type 0 where
  pub each : IsPermutation placed (enumerate_from 0 candidates)
  pub rising : IsStrictlySortedBy order_cmp placed

-- the candidates of a list, and these in order
pub record OrderedRecord : Type 0 where
  pub candidates : List Candidate
  pub placed : List (ℕ × Candidate)
