-- Steps one after another, seen by a part of the state.
use Rattle.std.proofs.Common.{List, [], ◌∷◌, ap}
use Rattle.std.specs.List.{FoldsTo}

-- where each step is a step of the part, steps one after another are
pub folds_by_part : {P Q A : Type 0} (part : P → Q) (whole : P → A → P → Type 0) (small : Q → A → Q → Type 0)
    → ((p : P) (x : A) (q : P) → whole p x q → small (part p) x (part q))
    → (xs : List A) (p q : P) → FoldsTo whole p xs q → FoldsTo small (part p) xs (part q)
folds_by_part part whole small step [] p q h = ap part h
folds_by_part part whole small step (x ∷ xs) p q h =
    (part h.0, step p x h.0 h.1, folds_by_part part whole small step xs h.0 q h.2)
