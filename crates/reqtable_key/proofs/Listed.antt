-- Things one after another, each after a 1, as the program writes them.
use Rattle.std.proofs.Common.{◌≡◌, ◌∙◌, ℕ, List, [], ◌∷◌, ◌++◌, refl, ap, append_assoc, append-nil}
use Rattle.std.specs.List.{flat_map}
use Rattle.std.proofs.lemmas.List.Concat.{flat_map-append}
use Rattle.pep508_marker_key.specs.Told.{listed_bytes}

module _ {X : Type 0} (bytes : X → List ℕ) where
  -- a thing after a 1
  abbrev pub one_bytes : X → List ℕ
  one_bytes x = 1 ∷ bytes x

  pub listed_is : (xs : List X) → flat_map one_bytes xs ++ 0 ∷ [] ≡ listed_bytes bytes xs
  listed_is [] = refl
  listed_is (x ∷ xs) = append_assoc (one_bytes x) (flat_map one_bytes xs) (0 ∷ []) ∙ ap (λ l. one_bytes x ++ l) (listed_is xs)

  -- all were written, and a 0 after them
  pub written : (old new : List ℕ) (xs : List X) → new ≡ old ++ flat_map one_bytes xs →
      new ++ 0 ∷ [] ≡ old ++ listed_bytes bytes xs
  written old new xs is =
      ap (λ l. l ++ 0 ∷ []) is ∙ append_assoc old (flat_map one_bytes xs) (0 ∷ []) ∙ ap (λ l. old ++ l) (listed_is xs)

  pub one_more : (xs : List X) (x : X) → flat_map one_bytes (xs ++ x ∷ []) ≡ flat_map one_bytes xs ++ one_bytes x
  one_more xs x =
      flat_map-append one_bytes xs (x ∷ []) ∙ ap (λ l. flat_map one_bytes xs ++ l) (append-nil (one_bytes x))
