-- The parts of a path, one after another.
use Rattle.std.proofs.Common.{◌≡◌, ℕ, suc, ◌+◌, ◌-◌, ◌<◌, ◌==◌, Bool, true, false, if◌then◌else◌, List, []}
use Rattle.std.proofs.Common.{◌∷◌, ◌++◌, length, map, take, get_or, Option, Some, None, refl, ap, sym, ◌∙◌}
use Rattle.std.proofs.Common.{arith, length-append}
use Rattle.std.specs.Prelude.{bytes_eq, codes, flat_map}
use Rattle.std.specs.Borrow.{Bor}
use Rattle.std.specs.List.{join_with_byte}
use Rattle.std.specs.Str.{IsUtf8, is_utf8}
use Rattle.std.proofs.lemmas.Bool.Decides.{nat_tests}
use Rattle.std.proofs.lemmas.Grind.{common_steps}
use Rattle.std.proofs.lemmas.List.{append-nil, map-append}
use Rattle.std.proofs.lemmas.List.Folds.{fold_stuck}
use Rattle.std.proofs.lemmas.List.Sums.{fold_more}
use Rattle.std.proofs.lemmas.Str.{IsUtf8-from_is_utf8, is_utf8-from_IsUtf8}
use Rattle.percent_encoding.specs.Percent.{percent_decode}
use Rattle.pep508_url.specs.Paths.{changes_nothing, without_last, with_part, behind_parts, normal_parts}
use Rattle.pep508_url.specs.Paths.{utf8_decoded}

-- what stands at a place, whatever stands past the end
at_place : (all : List (List ℕ)) (n : ℕ) (part : List ℕ) → (n < length all) × (part ≡ get_or all n part) → part ≡ get_or all n []
at_place all n part at = grind (arith, common_steps)

-- the part at a place leaves this of the parts before it
pub part_read : (all : List (List ℕ)) (n : ℕ) (parts : List (List ℕ)) (part : List ℕ)
    → normal_parts (take n all) ≡ Some parts → (n < length all) × (part ≡ get_or all n part)
    → normal_parts (take (n + 1) all) ≡ with_part parts part
unfolding normal_parts
part_read all n parts part before at =
    fold_more behind_parts (Some []) all n [] at.0
    ∙ ap (λ kept. behind_parts kept (get_or all n [])) before
    ∙ ap (with_part parts) (sym (at_place all n part at))

-- where a part takes one that is not there, nothing is left
pub none_left : (all : List (List ℕ)) (n : ℕ) (parts : List (List ℕ)) (part : List ℕ)
    → normal_parts (take n all) ≡ Some parts → (n < length all) × (part ≡ get_or all n part)
    → with_part parts part ≡ None → normal_parts all ≡ None
unfolding normal_parts
none_left all n parts part before at taken =
    sym (fold_stuck behind_parts None (λ x. refl) (Some []) all n [] at.0
    (ap (λ kept. behind_parts kept (get_or all n [])) before ∙ ap (with_part parts) (sym (at_place all n part at)) ∙ taken))

abbrev chosen : List (List ℕ) → List ℕ → Bool → Bool → Option (List (List ℕ))
chosen parts part nothing parent =
    if nothing then Some parts else (if parent then without_last parts else Some (parts ++ part ∷ []))

pub part_nothing : (parts : List (List ℕ)) (part : List ℕ) → changes_nothing part ≡ true → with_part parts part ≡ Some parts
part_nothing parts part h = ap (λ t. chosen parts part t (bytes_eq part (codes ".."))) h

pub part_parent : (parts : List (List ℕ)) (part : List ℕ) → changes_nothing part ≡ false → bytes_eq part (codes "..") ≡ true
    → with_part parts part ≡ without_last parts
part_parent parts part h p = ap (λ t. chosen parts part t (bytes_eq part (codes ".."))) h ∙ ap (chosen parts part false) p

pub part_kept : (parts : List (List ℕ)) (part : List ℕ) → changes_nothing part ≡ false → bytes_eq part (codes "..") ≡ false
    → with_part parts part ≡ Some (parts ++ part ∷ [])
part_kept parts part h p = ap (λ t. chosen parts part t (bytes_eq part (codes ".."))) h ∙ ap (chosen parts part false) p

not_none : (n : ℕ) → (suc n == 0) ≡ false
not_none n = grind (arith, nat_tests)

more_than_none : {A : Type 0} (xs : List A) (x : A) → (length (xs ++ x ∷ []) == 0) ≡ false
more_than_none [] x = refl
more_than_none (y ∷ ys) x = not_none (length (ys ++ x ∷ []))

one_off : {A : Type 0} (xs : List A) (x : A) → length (xs ++ x ∷ []) - 1 ≡ length xs
one_off xs x = omega (arith, length-append xs (x ∷ []))

all_but_last : {A : Type 0} (xs : List A) (x : A) → take (length (xs ++ x ∷ []) - 1) (xs ++ x ∷ []) ≡ xs
all_but_last xs x = grind (arith, common_steps, one_off xs x)

pub without_last_push : (parts : List (List ℕ)) (part : List ℕ) → without_last (parts ++ part ∷ []) ≡ Some parts
without_last_push parts part =
    ap (λ t. if t then None else Some (take (length (parts ++ part ∷ []) - 1) (parts ++ part ∷ []))) (more_than_none parts part)
    ∙ ap Some (all_but_last parts part)

-- what was popped was the last
pub popped : (old new : List (Bor (List ℕ))) (part : Bor (List ℕ)) → old ≡ new ++ part ∷ []
    → without_last (map (λ part. part.now) old) ≡ Some (map (λ part. part.now) new)
popped old new part e =
    ap (λ parts. without_last (map (λ part. part.now) parts)) e
    ∙ ap without_last (map-append (λ (part : Bor (List ℕ)). part.now) new (part ∷ []))
    ∙ without_last_push (map (λ part. part.now) new) part.now

pub no_parts : (old : List (Bor (List ℕ))) → length old ≡ 0 → without_last (map (λ part. part.now) old) ≡ None
no_parts [] h = refl
no_parts (part ∷ parts) h = absurd (omega (arith, h))

pub pushed : (parts : List (Bor (List ℕ))) (part : Bor (List ℕ)) (new : List (Bor (List ℕ))) → new ≡ parts ++ part ∷ []
    → map (λ part. part.now) parts ++ part.now ∷ [] ≡ map (λ part. part.now) new
pushed parts part new e =
    sym (ap (map (λ part. part.now)) e ∙ map-append (λ (part : Bor (List ℕ)). part.now) parts (part ∷ []))

-- parts with a slash before each but the first
pub joined_is : (first : Bor (List ℕ)) (others : List (Bor (List ℕ)))
    → join_with_byte 47 (map (λ part. part.now) (first ∷ others)) ≡ first.now ++ flat_map (λ part. 47 ∷ part.now) others
joined_is first [] = sym (append-nil first.now)
joined_is first (next ∷ others) = ap (λ rest. first.now ++ 47 ∷ rest) (joined_is next others)

abbrev decoded_by : List ℕ → Bool → Option (List ℕ)
decoded_by text test = if test then Some (percent_decode text) else None

pub decoded_text : (text bytes : List ℕ) → bytes ≡ percent_decode text → IsUtf8 bytes → utf8_decoded text ≡ Some bytes
unfolding utf8_decoded
decoded_text text bytes e u = ap (decoded_by text) (ap is_utf8 (sym e) ∙ is_utf8-from_IsUtf8 bytes u) ∙ ap Some (sym e)

no_text : (text : List ℕ) (test : Bool) → is_utf8 (percent_decode text) ≡ test → (test ≡ true → ⊥) → utf8_decoded text ≡ None
unfolding utf8_decoded
no_text text true e not_so = absurd (not_so refl)
no_text text false e not_so = ap (decoded_by text) e

pub decoded_none : (text bytes : List ℕ) → bytes ≡ percent_decode text → (IsUtf8 bytes → ⊥) → utf8_decoded text ≡ None
decoded_none text bytes e none =
    no_text text (is_utf8 (percent_decode text)) refl (λ h. none (IsUtf8-from_is_utf8 bytes (ap is_utf8 e ∙ h)))
