-- Numbers with commas between them.
use Rattle.std.proofs.Common.{◌≡◌, ◌∙◌, ◌∷◌, [], ◌++◌, ℕ, List, map, ap, sym, append-nil, append_assoc}
use Rattle.std.proofs.Common.{Result, Ok, Err, OnOk}
use Rattle.std.specs.List.{flat_map, join_with_byte}
use Rattle.std.specs.Fmt.{decimal}

-- the first, and each other after a comma
joined_numbers : (first : ℕ) (others : List ℕ)
    → join_with_byte 44 (map decimal (first ∷ others))
    ≡ decimal first ++ flat_map (λ number. 44 ∷ decimal number) others
joined_numbers first [] = sym (append-nil (decimal first))
joined_numbers first (next ∷ others) = ap (λ text. decimal first ++ 44 ∷ text) (joined_numbers next others)

-- a text after which they were written
pub numbers_written : {X E : Type 0} (result : Result X E) (old begun whole : List ℕ) (first : ℕ)
    (others numbers : List ℕ) → numbers ≡ first ∷ others → begun ≡ old ++ decimal first
    → OnOk result (whole ≡ begun ++ flat_map (λ number. 44 ∷ decimal number) others)
    → OnOk result (whole ≡ old ++ join_with_byte 44 (map decimal numbers))
numbers_written (Ok x) old begun whole first others numbers n b w =
    let rest = flat_map (λ number. 44 ∷ decimal number) others in
    w ∙ ap (λ t. t ++ rest) b ∙ append_assoc old (decimal first) rest
    ∙ ap (λ t. old ++ t) (sym (joined_numbers first others))
    ∙ ap (λ l. old ++ join_with_byte 44 (map decimal l)) (sym n)
numbers_written (Err error) old begun whole first others numbers n b w = tt
