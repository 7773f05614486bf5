-- Releases without the zeros at their end.

use Rattle.std.proofs.Common.{◌≡◌, ℕ, ◌==◌, false, cond, List, [], ◌∷◌, ◌++◌, length, refl, ap, ◌∙◌, arith}
use Rattle.std.specs.declared.cmp.Ordering.{Ordering}
use Rattle.std.specs.declared.cmp.Ordering.TheVariants.{Less, Equal, Greater}
use Rattle.std.specs.Ordering.{ordering_then}
use Rattle.pep440_version.specs.Order.{before_stripped, stripped}

pub then_equal_last : (o : Ordering) → ordering_then o Equal ≡ o
then_equal_last Less = refl
then_equal_last Equal = refl
then_equal_last Greater = refl

pub stripped-zero : (xs : List ℕ) → stripped (xs ++ 0 ∷ []) ≡ stripped xs
stripped-zero [] = refl
stripped-zero (x ∷ xs) = ap (before_stripped x) (stripped-zero xs)

before_stripped-snoc : (x y : ℕ) (ys : List ℕ) → before_stripped x (ys ++ y ∷ []) ≡ x ∷ (ys ++ y ∷ [])
before_stripped-snoc x y [] = refl
before_stripped-snoc x y (z ∷ ys) = refl

pub stripped-last : (xs : List ℕ) (n : ℕ) → (n == 0) ≡ false → stripped (xs ++ n ∷ []) ≡ xs ++ n ∷ []
stripped-last [] n h = ap (λ b. cond b [] (n ∷ [])) h
stripped-last (x ∷ xs) n h = ap (before_stripped x) (stripped-last xs n h) ∙ before_stripped-snoc x n xs

pub stripped-empty : (xs : List ℕ) → length xs ≡ 0 → stripped xs ≡ xs
stripped-empty [] h = refl
stripped-empty (x ∷ xs) h = absurd (omega arith)

pub ruleset stripped_rules = (stripped-zero, stripped-last, stripped-empty)
