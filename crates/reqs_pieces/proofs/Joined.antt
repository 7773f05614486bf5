-- Texts of pieces.
use Rattle.std.proofs.Common.{◌≡◌, ◌∙◌, ◌+◌, ◌<◌, ◌≤◌, ℕ, zero, suc, List, [], ◌∷◌, ◌++◌, length, get_or, take}
use Rattle.std.proofs.Common.{drop, map, All, refl, sym, ap, arith}
use Rattle.std.specs.List.{flat_map}
use Rattle.std.proofs.lemmas.List.Concat.{flat_map-append}
use Rattle.std.proofs.lemmas.List.{take-append-drop, take_more, take_all, flat_map_more, get_or_append_left}
use Rattle.std.proofs.lemmas.List.{get_or-map, length-map}
use Rattle.reqs_pieces.specs.Pieces.{text_of}

-- one more piece
pub one_more : (texts : List (List ℕ)) (order : List ℕ) (i : ℕ) → i < length order
    → text_of texts (take i order) ++ get_or texts (get_or order i 0) [] ≡ text_of texts (take (i + 1) order)
one_more texts order i below =
    let f : ℕ → List ℕ = λ p. get_or texts p [] in
    flat_map_more f [] (take i order) (get_or order i 0) ∙ ap (flat_map f) (sym (take_more order i 0 below))

-- those before a place, and those from it on
pub cut_at : (texts : List (List ℕ)) (order : List ℕ) (i : ℕ) → text_of texts (take i order) ++ text_of texts (drop i order) ≡ text_of texts order
cut_at texts order i =
    let f : ℕ → List ℕ = λ p. get_or texts p [] in
    sym (flat_map-append f (take i order) (drop i order)) ∙ ap (flat_map f) (take-append-drop i order)

-- a piece that stands nowhere changes nothing
pub one_kept : (texts : List (List ℕ)) (text : List ℕ) (order : List ℕ) → All (λ piece. piece < length texts) order
    → text_of (texts ++ text ∷ []) order ≡ text_of texts order
one_kept texts text [] within = refl
one_kept texts text (piece ∷ order) within =
    let here = get_or_append_left texts (text ∷ []) [] piece (within 0 piece (omega arith)) in
    let rest = one_kept texts text order (λ k d below. within (suc k) d (omega arith)) in
    λ i. here i ++ rest i

pub all_joined : (texts : List (List ℕ)) (order : List ℕ) (i : ℕ) → length order ≤ i → text_of texts (take i order) ≡ text_of texts order
all_joined texts order i past = ap (text_of texts) (take_all i order past)

-- a piece, by the texts themselves
pub piece_is : {X : Type 0} (bytes : X → List ℕ) (texts : List X) (i : ℕ) (text : X) → i < length texts → text ≡ get_or texts i text
    → bytes text ≡ get_or (map bytes texts) i []
piece_is bytes texts i text below is = ap bytes is ∙ sym (get_or-map bytes texts i text [] below)

pub seen_within : {X : Type 0} (bytes : X → List ℕ) (texts : List X) (order : List ℕ) → All (λ piece. piece < length texts) order
    → All (λ piece. piece < length (map bytes texts)) order
seen_within bytes texts order within = λ k d below. let here = within k d below in omega (arith, length-map texts bytes)

pub all_of_one : {X : Type 0} (P : X → Type 0) (x : X) → P x → All P (x ∷ [])
all_of_one P x holds zero d below = holds
all_of_one P x holds (suc k) d below = absurd (omega (arith, below))
