-- Loops over branches whose children are negated in place.
use Rattle.std.proofs.Common.{◌≡◌, ℕ, suc, zero, ◌+◌, ◌<◌, List, [], ◌∷◌, ◌++◌, length, get_or, set, take}
use Rattle.std.proofs.Common.{drop, map, refl, ap, sym, ◌∙◌, arith, add-one}

-- a list of which the first so many elements are changed
abbrev pub changed : {A : Type 0} → (A → A) → ℕ → List A → List A
changed f i xs = map f (take i xs) ++ drop i xs

change_next : {A : Type 0} (f : A → A) (d : A) (xs : List A) (i : ℕ) → i < length xs →
    set (changed f i xs) i (f (get_or (changed f i xs) i d)) ≡ changed f (suc i) xs
change_next f d [] i h = absurd (omega arith)
change_next f d (x ∷ xs) zero h = refl
change_next f d (x ∷ xs) (suc i) h = ap (λ ys. f x ∷ ys) (change_next f d xs i (omega arith))

pub change_more : {A : Type 0} (f : A → A) (d : A) (xs ys : List A) (i : ℕ) → i < length xs →
    ys ≡ changed f i xs → set ys i (f (get_or ys i d)) ≡ changed f (i + 1) xs
change_more f d xs ys i h e =
    ap (λ zs. set zs i (f (get_or zs i d))) e ∙ change_next f d xs i h
    ∙ ap (λ j. changed f j xs) (sym (add-one i))
