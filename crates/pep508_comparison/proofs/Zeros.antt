-- Numbers without the zeros at their end, down to one number.
use Rattle.std.proofs.Common.{◌≡◌, ◌==◌, ℕ, false, List, [], ◌∷◌, ◌++◌, refl, ap, ◌∙◌}
use Rattle.pep440_version.specs.Order.{stripped}
use Rattle.pep440_version.specs.Changes.{or_zero}
use Rattle.pep440_version.proofs.Stripped.{stripped-zero, stripped-last}

or_zero-snoc : (xs : List ℕ) (n : ℕ) → or_zero (xs ++ n ∷ []) ≡ xs ++ n ∷ []
or_zero-snoc [] n = refl
or_zero-snoc (x ∷ xs) n = refl

-- the last number stays where it is not 0
pub kept-last : (xs : List ℕ) (n : ℕ) → (n == 0) ≡ false → or_zero (stripped (xs ++ n ∷ [])) ≡ xs ++ n ∷ []
kept-last xs n h = ap or_zero (stripped-last xs n h) ∙ or_zero-snoc xs n

pub ruleset kept_rules = (stripped-zero, kept-last)
