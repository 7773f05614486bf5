-- The forms of a JSON value that an origin has.
use Rattle.std.proofs.Common.{◌≡◌, List, [], ◌∷◌, length, Some, None, String, refl, ap, arith, string_bytes}
use Rattle.std.specs.List.{slice_get}
use Rattle.std.specs.declared.alloc.Global.{Global}
use Rattle.serde_json.specs.View.{view, items_view, members_view}
use Rattle.serde_json.specs.declared.value.Value.{Value}
use Rattle.pep508_name.specs.Origin.{sole_member, two_texts}

-- an object with another number of members than one
pub sole_of_others : (ms : List (String Global × Value)) → (length ms ≡ 1 → ⊥) → sole_member (members_view ms) ≡ None
sole_of_others [] h = refl
sole_of_others (m ∷ []) h = absurd (h refl)
sole_of_others (m ∷ n ∷ ms) h = refl

-- an object with one member
pub sole_of_one : (ms : List (String Global × Value)) (m : String Global × Value) → length ms ≡ 1 → slice_get ms 0 ≡ Some m
    → sole_member (members_view ms) ≡ Some (string_bytes m.0, view m.1)
sole_of_one [] m h e = absurd (omega arith)
sole_of_one (n ∷ []) m h e =
    let same : n ≡ m = cc in
    ap (λ (x : String Global × Value). Some (string_bytes x.0, view x.1)) same
sole_of_one (n ∷ l ∷ ms) m h e = absurd (omega arith)

-- an array with another number of items than two
pub two_of_others : (xs : List Value) → (length xs ≡ 2 → ⊥) → two_texts (items_view xs) ≡ None
two_of_others [] h = refl
two_of_others (x ∷ []) h = refl
two_of_others (x ∷ y ∷ []) h = absurd (h refl)
two_of_others (x ∷ y ∷ z ∷ xs) h = refl
