-- Joined texts are the first one, and the others with a dot before each.
use Rattle.std.proofs.Common.{◌≡◌, ℕ, List, [], ◌∷◌, ◌++◌, map, ap, sym, arith}
use Rattle.std.proofs.lemmas.Grind.{common_steps}
use Rattle.std.specs.Fmt.{decimal}
use Rattle.std.specs.List.{join_with_byte, flat_map}
use Rattle.pep440_text.specs.Record.{Segment}
use Rattle.pep440_text.specs.Print.{segment_text, dotted_number, dotted_segment, release_text, local_text}

nothing_more : (xs : List ℕ) → xs ++ [] ≡ xs
nothing_more xs = grind (arith, common_steps)

joined-cons : {X : Type 0} (text_of : X → List ℕ) (x : X) (xs : List X)
    → join_with_byte 46 (map text_of (x ∷ xs)) ≡ text_of x ++ flat_map (λ y. 46 ∷ text_of y) xs
joined-cons text_of x [] = sym (nothing_more (text_of x))
joined-cons text_of x (y ∷ xs) = ap (λ rest. text_of x ++ (46 ∷ rest)) (joined-cons text_of y xs)

pub numbers_joined : (x : ℕ) (xs : List ℕ) → release_text (x ∷ xs) ≡ decimal x ++ flat_map dotted_number xs
numbers_joined x xs = joined-cons decimal x xs

pub segments_joined : (x : Segment) (xs : List Segment) → local_text (x ∷ xs) ≡ 43 ∷ (segment_text x ++ flat_map dotted_segment xs)
segments_joined x xs = ap (λ text. 43 ∷ text) (joined-cons segment_text x xs)
