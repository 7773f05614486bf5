-- The marked ones of some things.
use Rattle.std.proofs.Common.{◌≡◌, ◌∙◌, ℕ, ◌+◌, ◌<◌, Bool, true, false, cond, List, [], ◌∷◌, ◌++◌, map, take}
use Rattle.std.proofs.Common.{get_or, length, refl, sym, ap, arith}
use Rattle.std.proofs.lemmas.List.{take_more, length-take}
use Rattle.pep508_cases.specs.Sets.{marked}

marked_pushed : {A : Type 0} (marks : List Bool) (xs : List A) (mark : Bool) (x : A) → length marks ≡ length xs →
    marked (marks ++ mark ∷ []) (xs ++ x ∷ []) ≡ marked marks xs ++ cond mark (x ∷ []) []
marked_pushed [] [] true x e = refl
marked_pushed [] [] false x e = refl
marked_pushed [] (y ∷ xs) mark x e = absurd (omega arith)
marked_pushed (b ∷ marks) [] mark x e = absurd (omega arith)
marked_pushed (true ∷ marks) (y ∷ xs) mark x e = ap (λ l. y ∷ l) (marked_pushed marks xs mark x (omega arith))
marked_pushed (false ∷ marks) (y ∷ xs) mark x e = marked_pushed marks xs mark x (omega arith)

-- one more thing
pub marked_more : {A : Type 0} (marks : List Bool) (xs : List A) (i : ℕ) (mark default : Bool) (x : A) →
    length marks ≡ length xs → i < length xs → get_or marks i default ≡ mark → x ≡ get_or xs i x →
    marked (take (i + 1) marks) (take (i + 1) xs) ≡ marked (take i marks) (take i xs) ++ cond mark (x ∷ []) []
marked_more marks xs i mark default x same within m e =
    let a : take (i + 1) marks ≡ take i marks ++ mark ∷ [] =
    take_more marks i default (omega arith) ∙ ap (λ b. take i marks ++ b ∷ []) m in
    let b : take (i + 1) xs ≡ take i xs ++ x ∷ [] = take_more xs i x within ∙ ap (λ y. take i xs ++ y ∷ []) (sym e) in
    let long = length-take i marks in
    let wide = length-take i xs in
    (λ k. marked (a k) (b k)) ∙ marked_pushed (take i marks) (take i xs) mark x (omega arith)

pub marked_map : {A B : Type 0} (f : A → B) (marks : List Bool) (xs : List A) → marked marks (map f xs) ≡ map f (marked marks xs)
marked_map f [] xs = refl
marked_map f (true ∷ marks) [] = refl
marked_map f (false ∷ marks) [] = refl
marked_map f (true ∷ marks) (x ∷ xs) = ap (λ l. f x ∷ l) (marked_map f marks xs)
marked_map f (false ∷ marks) (x ∷ xs) = marked_map f marks xs
