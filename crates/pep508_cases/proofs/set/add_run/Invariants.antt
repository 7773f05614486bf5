use Rattle.std.proofs.Common.{◌≡◌, ◌+◌, ◌++◌, ℕ, true, replicate}
use Rattle.pep508_cases.specs.Sets.{places_from}
use Rattle.pep508_cases.proofs.set.add_run.Given as goal

abbrev pub invariant-loop-place : goal.invariant-loop-place
invariant-loop-place l = (n left : ℕ) → l.start + n ≡ l.end → l.place + left ≡ l.end →
    (l.places.items ++ places_from l.place (replicate left true))
    ≡ l.fn.places.items ++ places_from l.start (replicate n true)
