-- Extras of many lists, sorted and each kept once.
use Rattle.std.proofs.Common.{◌≡◌, ℕ, List, [], ◌∷◌, ◌++◌, Bool, true, false, cond, ◌||◌, map, refl, sym, ap}
use Rattle.std.proofs.Common.{◌∙◌, Bor, Result, Ok, Err, IfOk}
use Rattle.std.specs.List.{list_any, flat_map, dedup, dedup_from, AllByRecursion}
use Rattle.std.specs.List.Sorted.{IsStrictlySortedBy, IsSorted, IsPermutation}
use Rattle.std.specs.Ordering.{nat_cmp}
use Rattle.std.specs.Cmp.{IsTotalOrder, on_total}
use Rattle.std.specs.Cmp.Lexicographic.{slice_cmp}
use Rattle.std.specs.Str.{bytes_eq}
use Rattle.std.specs.declared.cmp.Ordering.{Ordering}
use Rattle.std.specs.declared.cmp.Ordering.TheVariants.{Less}
use Rattle.std.proofs.lemmas.Cmp.{nat_list_cmp_total}
use Rattle.std.proofs.lemmas.Map.Text.{is_eq-slice_cmp}
use Rattle.std.proofs.lemmas.List.Kept.{IsStrictlySortedBy-dedup}
use Rattle.std.proofs.lemmas.List.Sorted.{list_any-IsPermutation}
use Rattle.pep508_requirement_text.specs.FrontReading.{Front}
use Rattle.reqtable_answer.specs.Asks.{has_extra}
use Rattle.reqtable_answer.proofs.Tests.{any_mapped, same_bytes}

abbrev pub by_text : Bor (List ℕ) → Bor (List ℕ) → Ordering
by_text a b = slice_cmp nat_cmp a.now b.now

abbrev pub same_text : Bor (List ℕ) → Bor (List ℕ) → Bool
same_text a b = bytes_eq a.now b.now

pub by_text_total : IsTotalOrder by_text
by_text_total = on_total (λ k. k.now) nat_list_cmp_total

abbrev pub texts : List (Bor (List ℕ)) → List (List ℕ)
texts = map (λ e. e.now)

below_all : (k : List ℕ) (es : List (Bor (List ℕ))) → AllByRecursion (λ y. slice_cmp nat_cmp k y.now ≡ Less) es
    → AllByRecursion (λ y. slice_cmp nat_cmp k y ≡ Less) (texts es)
below_all k [] h = tt
below_all k (e ∷ es) h = (h.0, below_all k es h.1)

texts_rise : (es : List (Bor (List ℕ))) → IsStrictlySortedBy by_text es → IsStrictlySortedBy (slice_cmp nat_cmp) (texts es)
unfolding IsStrictlySortedBy
texts_rise [] h = tt
texts_rise (e ∷ es) h = (below_all e.now es h.0, texts_rise es h.1)

-- sorted and each once, they rise
pub kept_rise : (es : List (Bor (List ℕ))) → IsSorted by_text es → IsStrictlySortedBy (slice_cmp nat_cmp) (texts (dedup same_text es))
kept_rise es h =
    texts_rise (dedup same_text es) (IsStrictlySortedBy-dedup by_text_total (λ x y. sym (is_eq-slice_cmp x.now y.now)) es h)

or_assoc : (a b c : Bool) → ((a || b) || c) ≡ (a || (b || c))
or_assoc true b c = refl
or_assoc false b c = refl

one_of_two : (a b : Bool) → (a || b) ≡ (a || (a || b))
one_of_two true b = refl
one_of_two false b = refl

abbrev has : List ℕ → Bor (List ℕ) → Bool
has q e = bytes_eq q e.now

any_from_by : (q : List ℕ) (k e : Bor (List ℕ)) (es : List (Bor (List ℕ))) (same : Bool) → bytes_eq e.now k.now ≡ same
    → list_any (has q) (dedup_from same_text k es) ≡ list_any (has q) (k ∷ es)
    → list_any (has q) (dedup_from same_text e es) ≡ list_any (has q) (e ∷ es)
    → list_any (has q) (cond same (dedup_from same_text k es) (k ∷ dedup_from same_text e es)) ≡ list_any (has q) (k ∷ e ∷ es)
any_from_by q k e es true h behind_k behind_e =
    behind_k ∙ one_of_two (bytes_eq q k.now) (list_any (has q) es)
    ∙ ap (λ t. bytes_eq q k.now || (bytes_eq q t || list_any (has q) es)) (sym (same_bytes e.now k.now h))
any_from_by q k e es false h behind_k behind_e = ap (λ b. bytes_eq q k.now || b) behind_e

any_from : (q : List ℕ) (k : Bor (List ℕ)) (es : List (Bor (List ℕ)))
    → list_any (has q) (dedup_from same_text k es) ≡ list_any (has q) (k ∷ es)
any_from q k [] = refl
any_from q k (e ∷ es) = any_from_by q k e es (same_text e k) refl (any_from q k es) (any_from q e es)

-- and each text is still there
kept_there : (q : List ℕ) (es : List (Bor (List ℕ))) → list_any (has q) (dedup same_text es) ≡ list_any (has q) es
kept_there q [] = refl
kept_there q (e ∷ es) = any_from q e es

any_appended : (f : List ℕ → Bool) (xs ys : List (List ℕ)) → list_any f (xs ++ ys) ≡ (list_any f xs || list_any f ys)
any_appended f [] ys = refl
any_appended f (x ∷ xs) ys = ap (λ b. f x || b) (any_appended f xs ys) ∙ sym (or_assoc (f x) (list_any f xs) (list_any f ys))

-- lists of texts, as they are lent
abbrev pub Lists : Type 0
Lists = List (Bor (List (List ℕ)))

-- one of them has the text
abbrev pub some_has : List ℕ → Lists → Bool
some_has q lists = list_any (λ list. list_any (bytes_eq q) list.now) lists

any_flat : (q : List ℕ) (lists : Lists) → list_any (bytes_eq q) (flat_map (λ list. list.now) lists) ≡ some_has q lists
any_flat q [] = refl
any_flat q (list ∷ lists) =
    any_appended (bytes_eq q) list.now (flat_map (λ list. list.now) lists)
    ∙ ap (λ b. list_any (bytes_eq q) list.now || b) (any_flat q lists)

-- what is left of the extras of some lists
pub united_there : (q : List ℕ) (lent sorted : List (Bor (List ℕ))) (lists : Lists)
    → texts lent ≡ flat_map (λ list. list.now) lists → IsPermutation lent sorted
    → list_any (bytes_eq q) (texts (dedup same_text sorted)) ≡ some_has q lists
united_there q lent sorted lists are moved =
    any_mapped (bytes_eq q) (λ e. e.now) (dedup same_text sorted) ∙ kept_there q sorted
    ∙ sym (list_any-IsPermutation (has q) lent sorted moved) ∙ sym (any_mapped (bytes_eq q) (λ e. e.now) lent)
    ∙ ap (list_any (bytes_eq q)) are ∙ any_flat q lists

-- the lists of asks have the extras that these have
pub asked_there : (q : List ℕ) (lists given : Lists) (asks : List Front) → given ≡ lists
    → map (λ list. list.now) lists ≡ map (λ ask. ask.extras) asks → some_has q given ≡ list_any (has_extra q) asks
asked_there q lists given asks same are =
    ap (some_has q) same ∙ sym (any_mapped (list_any (bytes_eq q)) (λ list. list.now) lists)
    ∙ ap (list_any (list_any (bytes_eq q))) are ∙ any_mapped (list_any (bytes_eq q)) (λ ask. ask.extras) asks

-- what follows from what a call answers
pub if_ok : {X E : Type 0} (P Q : X → Type 0) (r : Result X E) → ((x : X) → P x → Q x) → IfOk r P → IfOk r Q
if_ok P Q (Ok x) f h = f x h
if_ok P Q (Err e) f h = h
