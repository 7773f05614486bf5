-- One pass over two rising lists: what is read and written at a time, and the memberships of a combination.
use Rattle.std.specs.Prelude.{◌≡◌, Bool, true, false, ◌&&◌, ◌||◌, List, [], ◌∷◌, ◌++◌, IsTrue}
use Rattle.std.specs.List.{AllByRecursion}
use Rattle.std.specs.declared.cmp.Ordering.{Ordering}
use Rattle.std.specs.declared.cmp.Ordering.TheVariants.{Less, Equal}
use Rattle.version_ranges.specs.Turns.{Rising}
use Rattle.version_ranges.specs.declared.merge.Combination.{Combination}
use Rattle.version_ranges.specs.declared.merge.Combination.TheVariants.{Both, Either}

-- membership in a combination of two sets
abbrev pub combined : Combination → Bool → Bool → Bool
combined Both x y = x && y
combined Either x y = x || y

-- one that equals t in the order is removed from the front of a list, or none is
abbrev pub Takes : {K : Type 0} → (K → K → Ordering) → K → Bool → List K → List K → Type 0
Takes {K} R t true list left = (x : K) × (list ≡ x ∷ left) × (R x t ≡ Equal)
Takes R t false list left = list ≡ left

-- one that equals t in the order is appended to a list, or none is
abbrev pub Adds : {K : Type 0} → (K → K → Ordering) → K → Bool → List K → List K → Type 0
Adds {K} R t true old new = (x : K) × (new ≡ old ++ x ∷ []) × (R x t ≡ Equal)
Adds R t false old new = new ≡ old

-- t is the first of two lists, as far as they rise: in_a and in_b say in which of them it is, and left_a
-- and left_b are what is left of them after it
pub record IsFirst {K : Type 0} (R : K → K → Ordering) (a b : List K) (t : K) (in_a in_b : Bool)
    (left_a left_b : List K) : Type 0 where
  pub taken_a : Takes R t in_a a left_a
  pub taken_b : Takes R t in_b b left_b
  pub taken : IsTrue (in_a || in_b)
  pub before_a : Rising R a → Rising R b → AllByRecursion (λ y. R t y ≡ Less) left_a
  pub before_b : Rising R a → Rising R b → AllByRecursion (λ y. R t y ≡ Less) left_b
