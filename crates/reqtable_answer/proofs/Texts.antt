-- Pieces with a byte between them, and what is written in brackets.
use Rattle.std.proofs.Common.{◌≡◌, ℕ, List, [], ◌∷◌, ◌++◌, ap, sym, ◌∙◌, append_assoc}
use Rattle.std.proofs.lemmas.List.{append-nil}
use Rattle.std.specs.List.{flat_map, join_with_byte}

pub joined : (c : ℕ) (piece : List ℕ) (pieces : List (List ℕ))
    → join_with_byte c (piece ∷ pieces) ≡ piece ++ flat_map (λ other. c ∷ other) pieces
joined c piece [] = sym (append-nil piece)
joined c piece (next ∷ pieces) = ap (λ rest. piece ++ (c ∷ rest)) (joined c next pieces)

-- a bracket, a first piece, the others each behind a comma, and a bracket
pub bracketed : (old opened begun listed closed first : List ℕ) (others : List (List ℕ))
    → opened ≡ old ++ 91 ∷ [] → begun ≡ opened ++ first → listed ≡ begun ++ flat_map (λ other. 44 ∷ other) others
    → closed ≡ listed ++ 93 ∷ [] → closed ≡ old ++ 91 ∷ (join_with_byte 44 (first ∷ others) ++ 93 ∷ [])
bracketed old opened begun listed closed first others o b l c =
    let front = old ++ 91 ∷ [] in
    let rest = flat_map (λ other. 44 ∷ other) others in
    let all = join_with_byte 44 (first ∷ others) in
    c ∙ ap (λ x. x ++ 93 ∷ []) (l ∙ ap (λ x. x ++ rest) (b ∙ ap (λ x. x ++ first) o) ∙ append_assoc front first rest ∙ ap (λ x. front ++ x) (sym (joined 44 first others)))
    ∙ append_assoc front all (93 ∷ []) ∙ append_assoc old (91 ∷ []) (all ++ 93 ∷ [])
