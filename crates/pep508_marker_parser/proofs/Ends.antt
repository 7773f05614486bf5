-- What stands before an end of some kind.
use Rattle.std.proofs.Common.{ℕ, Bool, List, [], ◌∷◌, inl, inr, refl}
use Rattle.pep508_error.proofs.Cuts.{Ends}
use Rattle.pep508_marker_parser.specs.MarkerText.{IsBefore}

-- in either way of saying it
pub ends_before : (test : ℕ → Bool) (rest : List ℕ) → Ends test rest → IsBefore test rest
ends_before test [] h = inl refl
ends_before test (c ∷ cs) h = inr h

pub before_ends : (test : ℕ → Bool) (rest : List ℕ) → IsBefore test rest → Ends test rest
before_ends test [] h = tt
before_ends test (c ∷ cs) (inl h) = absurd (cc)
before_ends test (c ∷ cs) (inr h) = h
