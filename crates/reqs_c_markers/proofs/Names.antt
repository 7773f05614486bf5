-- Names with commas between them.
use Rattle.std.proofs.Common.{◌≡◌, ◌∙◌, ◌∷◌, ◌++◌, [], ℕ, List, Result, Ok, Err, OnOk, ap, append_assoc, sym}
use Rattle.std.proofs.lemmas.List.{append-nil}
use Rattle.std.specs.List.{flat_map, join_with_byte}

pub names_joined : (name : List ℕ) (names : List (List ℕ))
    → join_with_byte 44 (name ∷ names) ≡ name ++ flat_map (λ next. 44 ∷ next) names
names_joined name [] = sym (append-nil name)
names_joined name (next ∷ names) = ap (λ rest. name ++ (44 ∷ rest)) (names_joined next names)

pub names_written : {X E : Type 0} (result : Result X E) (old begun whole first : List ℕ) (others names : List (List ℕ))
    → names ≡ first ∷ others → begun ≡ old ++ first
    → OnOk result (whole ≡ begun ++ flat_map (λ name. 44 ∷ name) others)
    → OnOk result (whole ≡ old ++ join_with_byte 44 names)
names_written (Ok x) old begun whole first others names n b w =
    let rest = flat_map (λ name. 44 ∷ name) others in
    w ∙ ap (λ t. t ++ rest) b ∙ append_assoc old first rest
    ∙ ap (λ t. old ++ t) (sym (names_joined first others)) ∙ ap (λ l. old ++ join_with_byte 44 l) (sym n)
names_written (Err error) old begun whole first others names n b w = tt
