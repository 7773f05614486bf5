-- Pairs of places as the pairs of leaves of two diagrams give them.
use Rattle.std.proofs.Common.{◌≡◌, ◌∙◌, ℕ, ◌+◌, ◌<◌, ◌==◌, ◌||◌, ◌&&◌, Bool, true, false, cond, List}
use Rattle.std.proofs.Common.{length, take, get_or, refl, ap, sym, arith}
use Rattle.std.proofs.lemmas.Bool.Decides.{nat_tests}
use Rattle.std.proofs.lemmas.List.Folds.{list_any_more}
use Rattle.std.specs.BTreeSet.{BTreeSet, Updates}
use Rattle.std.specs.List.{list_any}
use Rattle.std.specs.Ordering.{nat_cmp, ordering_then, is_eq}
use Rattle.std.specs.declared.cmp.Ordering.{Ordering}
use Rattle.std.specs.declared.cmp.Ordering.TheVariants.{Less, Equal, Greater}
use Rattle.pep508_cases.specs.Cases.{Marks}
use Rattle.pep508_cases.specs.Sets.{places_of}
use Rattle.pep508_cases.specs.Marked.{set_at}
use Rattle.pep508_cases.specs.Pairs.{pair_cmp, is_listed, has_place, is_of_leaves}

-- ---- equal pairs

eq_number : (x y : ℕ) → is_eq (nat_cmp x y) ≡ (x == y)
eq_number x y = grind (arith, nat_tests)

eq_then : (o p : Ordering) → is_eq (ordering_then o p) ≡ (is_eq o && is_eq p)
eq_then Less p = refl
eq_then Equal p = refl
eq_then Greater p = refl

pub eq_pair : (key pair : ℕ × ℕ) → is_eq (pair_cmp key pair) ≡ ((key.0 == pair.0) && (key.1 == pair.1))
eq_pair key pair =
    eq_then (nat_cmp key.0 pair.0) (nat_cmp key.1 pair.1)
    ∙ (λ i. eq_number key.0 pair.0 i && eq_number key.1 pair.1 i)

-- ---- one pair more, and one row

regroup : (was one here before : Bool) →
    cond (one && here) true (was || (one && before)) ≡ (was || (one && (before || here)))
regroup true true true true = refl
regroup true true true false = refl
regroup true true false true = refl
regroup true true false false = refl
regroup true false true true = refl
regroup true false true false = refl
regroup true false false true = refl
regroup true false false false = refl
regroup false true true true = refl
regroup false true true false = refl
regroup false true false true = refl
regroup false true false false = refl
regroup false false true true = refl
regroup false false true false = refl
regroup false false false true = refl
regroup false false false false = refl

pub pair_more : (found later : BTreeSet (ℕ × ℕ)) (was : List (ℕ × ℕ)) (one : ℕ) (others : List ℕ) (i : ℕ) →
    i < length others → Updates pair_cmp found later (one, get_or others i 0) true →
    ((pair : ℕ × ℕ) → is_listed found.keys pair
    ≡ (is_listed was pair || ((one == pair.0) && has_place (take i others) pair.1))) →
    (pair : ℕ × ℕ) → is_listed later.keys pair
    ≡ (is_listed was pair || ((one == pair.0) && has_place (take (i + 1) others) pair.1))
pair_more found later was one others i lt updates before pair =
    updates.0 pair
    ∙ (λ j. cond (eq_pair (one, get_or others i 0) pair j) true (before pair j))
    ∙ regroup (is_listed was pair) (one == pair.0) (get_or others i 0 == pair.1) (has_place (take i others) pair.1)
    ∙ ap (λ b. is_listed was pair || ((one == pair.0) && b)) (sym (list_any_more (λ o. o == pair.1) others i 0 lt))

rows : (was before here there : Bool) →
    ((was || (before && there)) || (here && there)) ≡ (was || ((before || here) && there))
rows true true true true = refl
rows true true true false = refl
rows true true false true = refl
rows true true false false = refl
rows true false true true = refl
rows true false true false = refl
rows true false false true = refl
rows true false false false = refl
rows false true true true = refl
rows false true true false = refl
rows false true false true = refl
rows false true false false = refl
rows false false true true = refl
rows false false true false = refl
rows false false false true = refl
rows false false false false = refl

pub row_more : (was now later there : Bool) (places : List ℕ) (i place : ℕ) → i < length places →
    now ≡ (was || (has_place (take i places) place && there)) →
    later ≡ (now || ((get_or places i 0 == place) && there)) →
    later ≡ (was || (has_place (take (i + 1) places) place && there))
row_more was now later there places i place lt before more =
    more ∙ ap (λ b. b || ((get_or places i 0 == place) && there)) before
    ∙ rows was (has_place (take i places) place) (get_or places i 0 == place) there
    ∙ ap (λ b. was || (b && there)) (sym (list_any_more (λ o. o == place) places i 0 lt))

-- ---- the pairs of one leaf more

pub leaf_more : (sets others : List Marks) (leaves : List (ℕ × ℕ)) (k : ℕ) (pair : ℕ × ℕ) (now later : Bool)
    (places more : List ℕ) → k < length leaves → places ≡ places_of (set_at sets (get_or leaves k (0, 0)).0) →
    more ≡ places_of (set_at others (get_or leaves k (0, 0)).1) →
    now ≡ list_any (is_of_leaves sets others pair) (take k leaves) →
    later ≡ (now || (has_place places pair.0 && has_place more pair.1)) →
    later ≡ list_any (is_of_leaves sets others pair) (take (k + 1) leaves)
leaf_more sets others leaves k pair now later places more less one two before next =
    next ∙ (λ i. before i || (has_place (one i) pair.0 && has_place (two i) pair.1))
    ∙ sym (list_any_more (is_of_leaves sets others pair) leaves k (0, 0) less)
