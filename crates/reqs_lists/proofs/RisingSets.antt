-- Rising lists of sets that have the same members are one.
use Rattle.std.proofs.Common.{◌≡◌, ◌∙◌, ◌||◌, true, false, List, [], ◌∷◌, refl, ap, sym}
use Rattle.std.specs.BTreeMap.{is_at}
use Rattle.std.specs.BTreeSet.{BTreeSet}
use Rattle.std.specs.Cmp.{both_ways}
use Rattle.std.specs.List.{list_any}
use Rattle.std.specs.List.Sorted.{IsStrictlySortedBy}
use Rattle.std.specs.Ordering.{is_eq}
use Rattle.std.proofs.lemmas.Map.Lookups.{CmpEqualImpliesEq, btree_set_from_contains}
use Rattle.pep508_cases.specs.Cases.{Marks, same_marks, marks_cmp}
use Rattle.pep508_cases.proofs.Counting.{marks_total}
use Rattle.pep508_cases.proofs.Marks.{marks_is}

-- the order ties just what is the same
ties : (xs ys : Marks) → is_eq (marks_cmp xs ys) ≡ same_marks xs ys
ties [] [] = refl
ties [] (y ∷ ys) = refl
ties (x ∷ xs) [] = refl
ties (true ∷ xs) (true ∷ ys) = ties xs ys
ties (true ∷ xs) (false ∷ ys) = refl
ties (false ∷ xs) (true ∷ ys) = refl
ties (false ∷ xs) (false ∷ ys) = ties xs ys

pub exact_marks : CmpEqualImpliesEq marks_cmp
exact_marks xs ys e = marks_is xs ys (sym (ties xs ys) ∙ ap is_eq e)

any_at : (set : Marks) (sets : List Marks)
    → list_any (is_at (marks_cmp set)) sets ≡ list_any (same_marks set) sets
any_at set [] = refl
any_at set (s ∷ sets) = let here = ties set s in let rest = any_at set sets in λ i. here i || rest i

abbrev pub Within : List Marks → List Marks → Type 0
Within sets others =
    (set : Marks) → list_any (same_marks set) sets ≡ true → list_any (same_marks set) others ≡ true

pub one_rising : (sets others : List Marks) → IsStrictlySortedBy marks_cmp sets
    → IsStrictlySortedBy marks_cmp others → Within sets others → Within others sets → sets ≡ others
one_rising sets others a b there back =
    let s : BTreeSet Marks = record { keys = sets } in
    let t : BTreeSet Marks = record { keys = others } in
    btree_set_from_contains marks_total s t a b
    (λ q. any_at q sets
    ∙ both_ways (list_any (same_marks q) sets) (list_any (same_marks q) others) (there q) (back q)
    ∙ sym (any_at q others))
    exact_marks
