-- Lists by their places.
use Rattle.std.proofs.Common.{◌≡◌, ◌≢◌, ◌∙◌, ◌<◌, ◌⊎◌, ℕ, zero, suc, List, [], ◌∷◌, ◌++◌, length, map, get_or}
use Rattle.std.proofs.Common.{set, Option, Some, None, Result, Ok, Err, OnOk, refl, sym, ap, inl, inr, arith}
use Rattle.std.proofs.lemmas.List.{get_or-map, length-map, map-set, get_or-set_same, get_or-set_other}
use Rattle.std.specs.List.{AllZip, AllByRecursion}

-- what stands after a list is what is read where nothing stands
pub default_behind : {X : Type 0} (xs : List X) (d : X) (at : ℕ) → get_or (xs ++ d ∷ []) at d ≡ get_or xs at d
default_behind [] d zero = refl
default_behind [] d (suc at) = refl
default_behind (x ∷ xs) d zero = refl
default_behind (x ∷ xs) d (suc at) = default_behind xs d at

same_some : {X : Type 0} (a b : X) → Some a ≡ Some b → a ≡ b
same_some a b e = cc

-- what is there after one is put there
pub set_or : {X : Type 0} (xs : List (Option X)) (place at : ℕ) (now found : X) → get_or (set xs place (Some now)) at None ≡ Some found
    → ((at ≡ place) × (now ≡ found)) ⊎ (get_or xs at None ≡ Some found)
set_or [] place at now found h = inr h
set_or (x ∷ xs) zero zero now found h = inl (refl, same_some now found h)
set_or (x ∷ xs) zero (suc at) now found h = inr h
set_or (x ∷ xs) (suc place) zero now found h = inr h
set_or (x ∷ xs) (suc place) (suc at) now found h = elim (set_or xs place at now found h) [
  | inl both ↦ inl (ap suc both.0, both.1)
  | inr before ↦ inr before
]

pub at_zip : {A B : Type 0} (R : A → B → Type 0) (xs : List A) (ys : List B) (i : ℕ) (d : A) (e : B) → AllZip R xs ys → i < length xs
    → R (get_or xs i d) (get_or ys i e)
at_zip R [] ys i d e h below = absurd (omega arith)
at_zip R (x ∷ xs) [] i d e h below = absurd h
at_zip R (x ∷ xs) (y ∷ ys) zero d e h below = h.0
at_zip R (x ∷ xs) (y ∷ ys) (suc i) d e h below = at_zip R xs ys i d e h.1 (omega arith)

pub zip_long : {A B : Type 0} (R : A → B → Type 0) (xs : List A) (ys : List B) → AllZip R xs ys → length xs ≡ length ys
zip_long R [] [] h = refl
zip_long R [] (y ∷ ys) h = absurd h
zip_long R (x ∷ xs) [] h = absurd h
zip_long R (x ∷ xs) (y ∷ ys) h = ap suc (zip_long R xs ys h.1)

pub at_each : {A : Type 0} (P : A → Type 0) (xs : List A) (i : ℕ) (d : A) → AllByRecursion P xs → i < length xs → P (get_or xs i d)
at_each P [] i d h below = absurd (omega arith)
at_each P (x ∷ xs) zero d h below = h.0
at_each P (x ∷ xs) (suc i) d h below = at_each P xs i d h.1 (omega arith)

pub on_both : {T E A B C : Type 0} (r : Result T E) → (A → B → C) → OnOk r A → OnOk r B → OnOk r C
on_both (Ok x) f a b = f a b
on_both (Err e) f a b = tt

module _ {X : Type 0} {Y : Type 0} (f : X → Y) (xs : List X) (i : ℕ) (x : X) (d : Y) where
  -- by what is read there
  pub read_at : i < length xs → x ≡ get_or xs i x → f x ≡ get_or (map f xs) i d
  read_at below is = ap f is ∙ sym (get_or-map f xs i x d below)

  -- by what is put there
  pub put_at : i < length xs → get_or (map f (set xs i x)) i d ≡ f x
  put_at below =
      let long = length-map xs f in
      let inside : i < length (map f xs) = omega (arith, below, long) in
      ap (λ l. get_or l i d) (map-set f xs i x) ∙ get_or-set_same (map f xs) i (f x) d inside

  pub put_elsewhere : (at : ℕ) → at ≢ i → get_or (map f (set xs i x)) at d ≡ get_or (map f xs) at d
  put_elsewhere at differs = ap (λ l. get_or l at d) (map-set f xs i x) ∙ get_or-set_other (map f xs) i at (f x) d differs
