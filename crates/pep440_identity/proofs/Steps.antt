-- Two lists, element by element: one more that is the same, and the first that isn't.
use Rattle.std.proofs.Common.{◌≡◌, ◌∙◌, ◌<◌, ◌+◌, ℕ, zero, suc, List, [], ◌∷◌, ◌++◌, map, take, drop, get_or}
use Rattle.std.proofs.Common.{length, sym, ap, arith}
use Rattle.std.proofs.lemmas.List.{map-append, take_more, length-map, get_or-map}

same_pushed : {A B : Type 0} (f : A → B) (xs : List A) (i : ℕ) (x : A) → i < length xs → x ≡ get_or xs i x →
    map f (take (i + 1) xs) ≡ map f (take i xs) ++ f x ∷ []
same_pushed f xs i x lt is =
    ap (map f) (take_more xs i x lt ∙ ap (λ z. take i xs ++ z ∷ []) (sym is)) ∙ map-append f (take i xs) (x ∷ [])

pub same_next : {A B : Type 0} (f : A → B) (xs ys : List A) (i : ℕ) (x y : A) → i < length xs → i < length ys →
    x ≡ get_or xs i x → y ≡ get_or ys i y → map f (take i xs) ≡ map f (take i ys) → f x ≡ f y →
    map f (take (i + 1) xs) ≡ map f (take (i + 1) ys)
same_next f xs ys i x y lt lt' is is' h one =
    same_pushed f xs i x lt is ∙ (λ j. h j ++ one j ∷ []) ∙ sym (same_pushed f ys i y lt' is')

pub unlike : {A : Type 0} (xs ys : List A) (i : ℕ) (x y : A) → i < length xs → i < length ys →
    x ≡ get_or xs i x → y ≡ get_or ys i y → (x ≡ y → ⊥) → xs ≡ ys → ⊥
unlike [] ys i x y lt lt' is is' h e = absurd (omega arith)
unlike (a ∷ xs) [] i x y lt lt' is is' h e = absurd (omega arith)
unlike (a ∷ xs) (b ∷ ys) zero x y lt lt' is is' h e = h (is ∙ ap (λ l. get_or l 0 x) e ∙ sym is')
unlike (a ∷ xs) (b ∷ ys) (suc i) x y lt lt' is is' h e =
    unlike xs ys i x y (omega arith) (omega arith) is is' h (ap (drop 1) e)

pub unlike_mapped : {A B : Type 0} (f : A → B) (xs ys : List A) (i : ℕ) (x y : A) → i < length xs →
    i < length ys → x ≡ get_or xs i x → y ≡ get_or ys i y → (f x ≡ f y → ⊥) → map f xs ≡ map f ys → ⊥
unlike_mapped f xs ys i x y lt lt' is is' h =
    unlike (map f xs) (map f ys) i (f x) (f y) (rw (length-map xs f) lt) (rw (length-map ys f) lt')
    (ap f is ∙ sym (get_or-map f xs i x (f x) lt)) (ap f is' ∙ sym (get_or-map f ys i y (f y) lt')) h
