-- One more element of a list, and the one at which a search stops.
use Rattle.std.proofs.Common.{◌≡◌, ◌∙◌, ◌<◌, ◌+◌, ℕ, zero, suc, List, [], ◌∷◌, ◌++◌, map, take, get_or}
use Rattle.std.proofs.Common.{length}
use Rattle.std.proofs.Common.{sym, ap, subst, arith}
use Rattle.std.specs.List.{AllByRecursion, AllZip}
use Rattle.std.proofs.lemmas.List.{map-append, take_more}

pub all_more : {A : Type 0} (P : A → Type 0) (xs : List A) (x : A) → AllByRecursion P xs → P x →
    AllByRecursion P (xs ++ x ∷ [])
all_more P [] x h one = (one, tt)
all_more P (y ∷ xs) x h one = (h.0, all_more P xs x h.1 one)

pub all_next : {A B : Type 0} (f : A → B) (P : B → Type 0) (xs : List A) (i : ℕ) (x : A) → i < length xs →
    x ≡ get_or xs i x → AllByRecursion P (map f (take i xs)) → P (f x) →
    AllByRecursion P (map f (take (i + 1) xs))
all_next f P xs i x lt is h one =
    subst (AllByRecursion P)
    (sym (map-append f (take i xs) (x ∷ []))
    ∙ ap (map f) (ap (λ z. take i xs ++ z ∷ []) is ∙ sym (take_more xs i x lt)))
    (all_more P (map f (take i xs)) (f x) h one)

pub split_at : {A B : Type 0} (f : A → B) (xs : List A) (i : ℕ) (x : A) → i < length xs → x ≡ get_or xs i x →
    (back : List B) × (map f xs ≡ map f (take i xs) ++ f x ∷ back)
split_at f [] i x lt is = absurd (omega arith)
split_at f (y ∷ ys) zero x lt is = (map f ys, ap (λ z. f z ∷ map f ys) (sym is))
split_at f (y ∷ ys) (suc i) x lt is =
    let found = split_at f ys i x (omega arith) is in
    (found.0, ap (λ l. f y ∷ l) found.1)

pub whole : {A B : Type 0} (f : A → B) (P : B → Type 0) (xs : List A) → AllByRecursion P (map f (take (length xs) xs)) →
    AllByRecursion P (map f xs)
whole f P [] h = tt
whole f P (x ∷ xs) h = (h.0, whole f P xs h.1)

pub all_at : {A B : Type 0} (f : A → B) (P : B → Type 0) (xs : List A) (i : ℕ) (x : A) → i < length xs →
    x ≡ get_or xs i x → AllByRecursion P (map f xs) → P (f x)
all_at f P [] i x lt is h = absurd (omega arith)
all_at f P (y ∷ ys) zero x lt is h = subst (λ z. P (f z)) (sym is) h.0
all_at f P (y ∷ ys) (suc i) x lt is h = all_at f P ys i x (omega arith) is h.1

zip_more : {B D : Type 0} (R : B → D → Type 0) (xs : List B) (ys : List D) (x : B) (y : D) → AllZip R xs ys →
    R x y → AllZip R (xs ++ x ∷ []) (ys ++ y ∷ [])
zip_more R [] [] x y h one = (one, tt)
zip_more R [] (d ∷ ys) x y h one = absurd h
zip_more R (b ∷ xs) [] x y h one = absurd h
zip_more R (b ∷ xs) (d ∷ ys) x y h one = (h.0, zip_more R xs ys x y h.1 one)

pub zip_next : {A B C D : Type 0} (f : A → B) (g : C → D) (R : B → D → Type 0) (xs : List A) (ys : List C) (i : ℕ)
    (x : A) (y : C) → i < length ys → y ≡ get_or ys i y → AllZip R (map f xs) (map g (take i ys)) → R (f x) (g y) →
    AllZip R (map f (xs ++ x ∷ [])) (map g (take (i + 1) ys))
zip_next f g R xs ys i x y lt is h one =
    subst (λ l. AllZip R l (map g (take (i + 1) ys))) (sym (map-append f xs (x ∷ [])))
    (subst (AllZip R (map f xs ++ f x ∷ []))
    (sym (map-append g (take i ys) (y ∷ []))
    ∙ ap (map g) (ap (λ z. take i ys ++ z ∷ []) is ∙ sym (take_more ys i y lt)))
    (zip_more R (map f xs) (map g (take i ys)) (f x) (g y) h one))
