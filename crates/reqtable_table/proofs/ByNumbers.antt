-- A set of lines by their numbers, which rise.
use Rattle.std.proofs.Common.{◌≡◌, ◌∙◌, ℕ, true, false, List, [], ◌∷◌, length, refl, sym, ap, arith, Less, Equal}
use Rattle.std.specs.List.{AllByRecursion}
use Rattle.std.specs.List.Sorted.{IsStrictlySortedBy}
use Rattle.std.specs.Cmp.{nat_cmp_total, tied_itself}
use Rattle.std.specs.Ordering.{nat_cmp}
use Rattle.pep508_cases.specs.Cases.{Marks}
use Rattle.pep508_cases.specs.Sets.{marked}

abbrev AllAbove : ℕ → List ℕ → Type 0
AllAbove n ns = AllByRecursion (λ m. nat_cmp n m ≡ Less) ns

marked_above : (n : ℕ) (marks : Marks) (ns : List ℕ) → AllAbove n ns → AllAbove n (marked marks ns)
marked_above n [] ns h = tt
marked_above n (true ∷ marks) [] h = tt
marked_above n (false ∷ marks) [] h = tt
marked_above n (true ∷ marks) (m ∷ ns) h = (h.0, marked_above n marks ns h.1)
marked_above n (false ∷ marks) (m ∷ ns) h = marked_above n marks ns h.1

abbrev first_of : ℕ → List ℕ → ℕ
first_of n [] = n
first_of n (m ∷ ns) = m

not_first : (n : ℕ) (rest ns : List ℕ) → AllAbove n ns → (n ∷ rest) ≡ ns → ⊥
not_first n rest [] h e = absurd (cc)
not_first n rest (m ∷ ns) h e =
    let same : n ≡ m = ap (first_of n) e in
    let tied : nat_cmp n m ≡ Equal = ap (nat_cmp n) (sym same) ∙ tied_itself nat_cmp_total n in
    let less : nat_cmp n m ≡ Less = h.0 in
    absurd (cc)

others_same : (n : ℕ) (xs ys : List ℕ) → (n ∷ xs) ≡ (n ∷ ys) → xs ≡ ys
others_same n xs ys e = cc

pub same_marked : (ns : List ℕ) (s t : Marks) → IsStrictlySortedBy nat_cmp ns → length s ≡ length ns →
    length t ≡ length ns → marked s ns ≡ marked t ns → s ≡ t
unfolding IsStrictlySortedBy
same_marked [] [] [] h a b e = refl
same_marked [] (x ∷ s) t h a b e = absurd (omega arith)
same_marked [] [] (y ∷ t) h a b e = absurd (omega arith)
same_marked (n ∷ ns) [] t h a b e = absurd (omega arith)
same_marked (n ∷ ns) (x ∷ s) [] h a b e = absurd (omega arith)
same_marked (n ∷ ns) (true ∷ s) (true ∷ t) h a b e =
    ap (λ l. true ∷ l) (same_marked ns s t h.1 (omega arith) (omega arith) (others_same n (marked s ns) (marked t ns) e))
same_marked (n ∷ ns) (true ∷ s) (false ∷ t) h a b e =
    absurd (not_first n (marked s ns) (marked t ns) (marked_above n t ns h.0) e)
same_marked (n ∷ ns) (false ∷ s) (true ∷ t) h a b e =
    absurd (not_first n (marked t ns) (marked s ns) (marked_above n s ns h.0) (sym e))
same_marked (n ∷ ns) (false ∷ s) (false ∷ t) h a b e =
    ap (λ l. false ∷ l) (same_marked ns s t h.1 (omega arith) (omega arith) e)
