-- Lists whose names rise: what stands around one of them.
use Rattle.std.proofs.Common.{◌≡◌, ◌∙◌, ℕ, Bool, true, false, ◌||◌, List, [], ◌∷◌, ◌++◌, refl, sym, ap, Less}
use Rattle.std.proofs.Common.{Equal, Greater, true≢false}
use Rattle.std.proofs.lemmas.Cmp.{nat_list_cmp_total, tied_itself}
use Rattle.std.proofs.lemmas.List.Folds.{list_any-append}
use Rattle.std.proofs.lemmas.Map.Text.{is_eq-slice_cmp}
use Rattle.std.specs.List.{list_any, AllByRecursion}
use Rattle.std.specs.List.Sorted.{IsStrictlySortedBy}
use Rattle.std.specs.Ordering.{nat_cmp, is_eq, ordering_reverse}
use Rattle.std.specs.Cmp.Lexicographic.{slice_cmp}
use Rattle.std.specs.Str.{bytes_eq}
use Rattle.std.specs.declared.cmp.Ordering.{Ordering}

abbrev pub name_cmp : List ℕ → List ℕ → Ordering
name_cmp = slice_cmp nat_cmp

or_none : (b : Bool) → b ≡ (b || false)
or_none true = refl
or_none false = refl

abbrev pub AllBefore : List ℕ → List (List ℕ) → Type 0
AllBefore name = AllByRecursion (λ n. name_cmp n name ≡ Less)

abbrev pub AllBehind : List ℕ → List (List ℕ) → Type 0
AllBehind name = AllByRecursion (λ n. name_cmp name n ≡ Less)

-- a name below another is another
pub below_other : (a b : List ℕ) → name_cmp a b ≡ Less → bytes_eq a b ≡ false
below_other a b less = sym (is_eq-slice_cmp a b) ∙ ap is_eq less

at_place : (n : List ℕ) (names : List (List ℕ)) (x : List ℕ) (later : List (List ℕ)) →
    AllByRecursion (λ y. name_cmp n y ≡ Less) (names ++ x ∷ later) → name_cmp n x ≡ Less
at_place n [] x later h = h.0
at_place n (m ∷ names) x later h = at_place n names x later h.1

-- the names before one and behind it
pub around : (names : List (List ℕ)) (x : List ℕ) (later : List (List ℕ)) → IsStrictlySortedBy name_cmp (names ++ x ∷ later) →
    AllBefore x names × AllBehind x later
unfolding IsStrictlySortedBy
around [] x later h = (tt, h.0)
around (n ∷ names) x later h =
    let rest = around names x later h.1 in
    ((at_place n names x later h.0, rest.0), rest.1)

pub not_before : (q : List ℕ) (names : List (List ℕ)) → AllBehind q names → list_any (bytes_eq q) names ≡ false
not_before q [] h = refl
not_before q (n ∷ names) h =
    let here = below_other q n h.0 in
    let rest = not_before q names h.1 in
    (λ i. here i || rest i)

pub behind_on : (q x : List ℕ) (names : List (List ℕ)) → name_cmp q x ≡ Less → AllBehind x names → AllBehind q names
behind_on q x [] less h = tt
behind_on q x (n ∷ names) less h = (nat_list_cmp_total.trans q x n less h.0, behind_on q x names less h.1)

-- a name that is there and below one of them stands before that
pub stands_before : (q : List ℕ) (names : List (List ℕ)) (x : List ℕ) (later : List (List ℕ)) → name_cmp q x ≡ Less →
    IsStrictlySortedBy name_cmp (names ++ x ∷ later) → list_any (bytes_eq q) (names ++ x ∷ later) ≡ true →
    list_any (bytes_eq q) names ≡ true
stands_before q names x later less rising there =
    let behind = behind_on q x later less (around names x later rising).1 in
    let none : list_any (bytes_eq q) (x ∷ later) ≡ false =
    (let here = below_other q x less in let rest = not_before q later behind in (λ i. here i || rest i)) in
    or_none (list_any (bytes_eq q) names) ∙ ap (λ b. list_any (bytes_eq q) names || b) (sym none)
    ∙ sym (list_any-append (bytes_eq q) names (x ∷ later)) ∙ there

-- ---- a name that isn't behind another

pub not_below_itself : (a : List ℕ) → name_cmp a a ≡ Less → ⊥
not_below_itself a e = let tie : name_cmp a a ≡ Equal = tied_itself nat_list_cmp_total a in absurd (cc)

order_of : (q x : List ℕ) (o : Ordering) → name_cmp q x ≡ o → (name_cmp x q ≡ Less → ⊥) → bytes_eq q x ≡ false →
    name_cmp q x ≡ Less
order_of q x Less e not other = e
order_of q x Equal e not other =
    absurd (true≢false (sym (ap is_eq e) ∙ is_eq-slice_cmp q x ∙ other))
order_of q x Greater e not other = absurd (not (nat_list_cmp_total.antisymm x q ∙ ap ordering_reverse e))

-- it is before it, if it is another
pub before_other : (q x : List ℕ) → (name_cmp x q ≡ Less → ⊥) → bytes_eq q x ≡ false → name_cmp q x ≡ Less
before_other q x = order_of q x (name_cmp q x) refl

pub not_behind : (x : List ℕ) (names : List (List ℕ)) → AllBefore x names →
    AllByRecursion (λ n. name_cmp x n ≡ Less → ⊥) (names ++ x ∷ [])
not_behind x [] h = (not_below_itself x, tt)
not_behind x (n ∷ names) h = (
  λ less. not_below_itself x (nat_list_cmp_total.trans x n x less h.0),
  not_behind x names h.1,
)

front_to : {A : Type 0} (P : A → Type 0) (xs : List A) (x : A) (ys : List A) → AllByRecursion P (xs ++ x ∷ ys) →
    AllByRecursion P (xs ++ x ∷ [])
front_to P [] x ys h = (h.0, tt)
front_to P (y ∷ xs) x ys h = (h.0, front_to P xs x ys h.1)

pub front_rises : {A : Type 0} (R : A → A → Ordering) (xs : List A) (x : A) (ys : List A) →
    IsStrictlySortedBy R (xs ++ x ∷ ys) → IsStrictlySortedBy R (xs ++ x ∷ [])
unfolding IsStrictlySortedBy
front_rises R [] x ys h = (tt, tt)
front_rises R (y ∷ xs) x ys h = (front_to (λ z. R y z ≡ Less) xs x ys h.0, front_rises R xs x ys h.1)
