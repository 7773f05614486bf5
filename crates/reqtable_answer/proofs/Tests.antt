-- Tests of lists: of what a filter keeps, of all by some, of lists that say the same place by place.
use Rattle.std.proofs.Common.{◌≡◌, ℕ, Bool, true, false, cond, not, ◌&&◌, ◌||◌, List, [], ◌∷◌, ◌++◌, ◌+◌, ◌<◌}
use Rattle.std.proofs.Common.{◌∙◌, take, length, get_or, filter, map, refl, ap, sym}
use Rattle.std.specs.List.{list_any, list_all, AllZip}
use Rattle.std.specs.Str.{bytes_eq}
use Rattle.std.proofs.lemmas.List.{take_more}
use Rattle.std.proofs.lemmas.List.Folds.{list_all-append}
use Rattle.std.proofs.lemmas.Slice.Eq.{bytes_eq-Decides}

any_by : (p f a : Bool) {X : Type 0} (g : X → Bool) (x : X) (xs : List X) → g x ≡ f → list_any g xs ≡ a
    → list_any g (cond p (x ∷ xs) xs) ≡ (p && f || a)
any_by true f a g x xs h k = λ i. h i || k i
any_by false f a g x xs h k = k

-- of what a filter keeps
pub any_kept : {X : Type 0} (f p : X → Bool) (xs : List X)
    → list_any f (filter p xs) ≡ list_any (λ x. p x && f x) xs
any_kept f p [] = refl
any_kept f p (x ∷ xs) =
    any_by (p x) (f x) (list_any (λ y. p y && f y) xs) f x (filter p xs) refl (any_kept f p xs)

both_turned : (a b c : Bool) → b ≡ not c → (a && b) ≡ not (not a || c)
both_turned true b c h = h
both_turned false b c h = refl

one_turned : (a b c : Bool) → b ≡ not c → (a || b) ≡ not (not a && c)
one_turned true b c h = refl
one_turned false b c h = h

-- of all by some, and of some by all
pub all_any : {X : Type 0} (f : X → Bool) (xs : List X) → list_all f xs ≡ not (list_any (λ x. not (f x)) xs)
all_any f [] = refl
all_any f (x ∷ xs) =
    both_turned (f x) (list_all f xs) (list_any (λ y. not (f y)) xs) (all_any f xs)

pub any_all : {X : Type 0} (f : X → Bool) (xs : List X) → list_any f xs ≡ not (list_all (λ x. not (f x)) xs)
any_all f [] = refl
any_all f (x ∷ xs) =
    one_turned (f x) (list_any f xs) (list_all (λ y. not (f y)) xs) (any_all f xs)

-- of lists that say the same place by place
pub any_zip : {X Y : Type 0} (R : X → Y → Type 0) (f : X → Bool) (g : Y → Bool)
    → ((x : X) (y : Y) → R x y → f x ≡ g y) → (xs : List X) (ys : List Y) → AllZip R xs ys
    → list_any f xs ≡ list_any g ys
any_zip R f g same [] [] h = refl
any_zip R f g same [] (y ∷ ys) h = absurd h
any_zip R f g same (x ∷ xs) [] h = absurd h
any_zip R f g same (x ∷ xs) (y ∷ ys) h =
    let one = same x y h.0 in
    let rest = any_zip R f g same xs ys h.1 in
    λ i. one i || rest i

-- of what a function gives
pub any_mapped : {X Y : Type 0} (f : Y → Bool) (g : X → Y) (xs : List X)
    → list_any f (map g xs) ≡ list_any (λ x. f (g x)) xs
any_mapped f g [] = refl
any_mapped f g (x ∷ xs) = ap (λ b. f (g x) || b) (any_mapped f g xs)

-- texts of the same bytes
pub same_bytes : (xs ys : List ℕ) → bytes_eq xs ys ≡ true → xs ≡ ys
same_bytes xs ys h = (bytes_eq-Decides xs ys).0 h

and_true : (a : Bool) → (a && true) ≡ a
and_true true = refl
and_true false = refl

-- of one more of a list
pub all_more : {X : Type 0} (f : X → Bool) (xs : List X) (i : ℕ) (x : X) → i < length xs → x ≡ get_or xs i x
    → list_all f (take (i + 1) xs) ≡ (list_all f (take i xs) && f x)
all_more f xs i x h is =
    ap (list_all f) (take_more xs i x h ∙ ap (λ y. take i xs ++ y ∷ []) (sym is))
    ∙ list_all-append f (take i xs) (x ∷ []) ∙ ap (λ b. list_all f (take i xs) && b) (and_true (f x))
