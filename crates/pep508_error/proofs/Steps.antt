-- Answers in two steps.
use Rattle.std.proofs.Common.{◌≡◌, Ok, Err, refl}
use Rattle.std.specs.Prelude.{Result}
use Rattle.pep508_error.specs.Steps.{◌>>=◌}

abbrev pub answer : {A F : Type 0} → A → Result A F
answer x = Ok x

pub ok_same : {A F : Type 0} (x y : A) → answer {F = F} x ≡ Ok y → x ≡ y
ok_same x y h = cc

-- what is found in two steps
pub record InSteps {A B F : Type 0} (first : Result A F) (next : A → Result B F) (found : B) : Type 0 where
  pub middle : A
  pub first_is : first ≡ Ok middle
  pub next_is : next middle ≡ Ok found

pub in_steps : {A B F : Type 0} (first : Result A F) (next : A → Result B F) (found : B)
    → (first >>= next) ≡ Ok found → InSteps first next found
in_steps (Ok x) next found h = record { middle = x; first_is = refl; next_is = h }
in_steps (Err refused) next found h = absurd (cc)
