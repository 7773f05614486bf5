use Rattle.std.proofs.Common.{◌≡◌, ℕ, List, map, take}
use Rattle.pep508_url.specs.Vars.{copied_pair, first_value, value_by_place}
use Rattle.pep508_url.proofs.vars.first_places.Given as goal

abbrev pub invariant-loop-place : goal.invariant-loop-place
invariant-loop-place l =
    (q : List ℕ) → value_by_place l.pairs l.places q ≡ first_value (map copied_pair (take l.place l.pairs)) q
