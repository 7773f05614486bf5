-- Versions stand as their heads, where these differ.
use Rattle.std.proofs.Common.{◌≡◌, ◌∙◌, ℕ, ◌<◌, ◌==◌, Bool, true, false, if◌then◌else◌, List, [], ◌∷◌, get_or}
use Rattle.std.proofs.Common.{Ordering, Less, Equal, Greater, nat_cmp, refl, sym, ap, arith}
use Rattle.std.proofs.lemmas.Bool.Decides.{nat_tests}
use Rattle.std.proofs.lemmas.Cmp.{ranked}
use Rattle.std.specs.Cmp.{nat_cmp_is}
use Rattle.std.specs.Cmp.Lexicographic.{slice_cmp}
use Rattle.std.specs.Ordering.{ordering_then, ordering_reverse, is_ne}
use Rattle.pep440_text.specs.Record.{VersionRecord}
use Rattle.pep440_version.specs.Order.{stripped, padded_cmp, key_of, key_cmp, version_cmp}
use Rattle.pep440_version.specs.OrderLaws.{version_cmp_total}
use Rattle.pep440_version.proofs.Padded.{padded_is}
use Rattle.reqtable_candidates.specs.Fronts.{behind_first}
use Rattle.reqtable_candidates.specs.Heads.{two_numbers, head_of}

less : (x y : ℕ) → x < y → nat_cmp x y ≡ Less
less x y h = sym (nat_cmp_is x y Less h)

-- ---- releases

-- by the first numbers, and else by what stands behind them
by_first_number : (a b : List ℕ)
    → padded_cmp a b
    ≡ ordering_then (nat_cmp (get_or a 0 0) (get_or b 0 0)) (padded_cmp (behind_first a) (behind_first b))
by_first_number [] [] = refl
by_first_number [] (y ∷ b) = refl
by_first_number (x ∷ []) [] = refl
by_first_number (x ∷ z ∷ a) [] = refl
by_first_number (x ∷ a) (y ∷ b) = refl

number_behind : (a : List ℕ) → get_or (behind_first a) 0 0 ≡ get_or a 1 0
number_behind [] = refl
number_behind (x ∷ a) = refl

less_at_first : (a b : List ℕ) → nat_cmp (get_or a 0 0) (get_or b 0 0) ≡ Less → padded_cmp a b ≡ Less
less_at_first a b h =
    by_first_number a b ∙ ap (λ o. ordering_then o (padded_cmp (behind_first a) (behind_first b))) h

less_at_second : (a b : List ℕ) → nat_cmp (get_or a 0 0) (get_or b 0 0) ≡ Equal → get_or a 1 0 < get_or b 1 0
    → padded_cmp a b ≡ Less
less_at_second a b e h =
    let second : nat_cmp (get_or (behind_first a) 0 0) (get_or (behind_first b) 0 0) ≡ Less =
    (λ i. nat_cmp (number_behind a i) (number_behind b i)) ∙ less (get_or a 1 0) (get_or b 1 0) h in
    by_first_number a b ∙ ap (λ o. ordering_then o (padded_cmp (behind_first a) (behind_first b))) e
    ∙ less_at_first (behind_first a) (behind_first b) second

-- ---- two numbers as one

second_less : (f s g t : ℕ) → f ≡ g → two_numbers f s < two_numbers g t → s < t
second_less f s g t e h = omega (arith, e, h)

not_greater : (f s g t : ℕ) → g < f → two_numbers f s < two_numbers g t → ⊥
not_greater f s g t more h = absurd (omega (arith, more, h))

less_by_two : (a b : List ℕ)
    → two_numbers (get_or a 0 0) (get_or a 1 0) < two_numbers (get_or b 0 0) (get_or b 1 0)
    → (o : Ordering) → nat_cmp (get_or a 0 0) (get_or b 0 0) ≡ o → padded_cmp a b ≡ Less
less_by_two a b h Less e = less_at_first a b e
less_by_two a b h Equal e =
    less_at_second a b e
    (second_less (get_or a 0 0) (get_or a 1 0) (get_or b 0 0) (get_or b 1 0)
    (ranked (get_or a 0 0) (get_or b 0 0) Equal (sym e)) h)
less_by_two a b h Greater e =
    absurd (not_greater (get_or a 0 0) (get_or a 1 0) (get_or b 0 0) (get_or b 1 0)
    (ranked (get_or a 0 0) (get_or b 0 0) Greater (sym e)) h)

-- ---- versions

abbrev behind : List (List ℕ) → List (List ℕ)
behind [] = []
behind (part ∷ parts) = parts

by_epochs : (x y : ℕ) (xs ys : List (List ℕ)) → nat_cmp x y ≡ Less
    → key_cmp ((x ∷ []) ∷ xs) ((y ∷ []) ∷ ys) ≡ Less
by_epochs x y xs ys h = ap (λ o. ordering_then (ordering_then o Equal) (key_cmp xs ys)) h

by_releases : (x y : ℕ) (a b : List ℕ) (xs ys : List (List ℕ)) → nat_cmp x y ≡ Equal
    → slice_cmp nat_cmp a b ≡ Less → key_cmp ((x ∷ []) ∷ a ∷ xs) ((y ∷ []) ∷ b ∷ ys) ≡ Less
by_releases x y a b xs ys e h =
    ap (λ o. ordering_then (ordering_then o Equal) (key_cmp (a ∷ xs) (b ∷ ys))) e
    ∙ ap (λ o. ordering_then o (key_cmp xs ys)) h

less_by_epoch : (a b : VersionRecord) → a.epoch < b.epoch → version_cmp a b ≡ Less
unfolding key_of
less_by_epoch a b h =
    by_epochs a.epoch b.epoch (behind (key_of a)) (behind (key_of b)) (less a.epoch b.epoch h)

less_by_release : (a b : VersionRecord) → a.epoch ≡ b.epoch → padded_cmp a.release b.release ≡ Less
    → version_cmp a b ≡ Less
unfolding key_of
less_by_release a b same h =
    by_releases a.epoch b.epoch (stripped a.release) (stripped b.release) (behind (behind (key_of a)))
    (behind (behind (key_of b))) (sym (nat_cmp_is a.epoch b.epoch Equal same))
    (padded_is a.release b.release ∙ h)

is_zero : (x : ℕ) → (x == 0) ≡ true → x ≡ 0
is_zero x e = grind (arith, nat_tests)

below_epoch : (x y : ℕ) → (x == 0) ≡ true → (y == 0) ≡ false → x < y
below_epoch x y d e = grind (arith, nat_tests)

-- no head is past the largest
at_most : (f s : ℕ) → 18446744073709551615 < two_numbers f s → ⊥
at_most f s h = absurd (omega (arith, h))

abbrev head_if : VersionRecord → Bool → ℕ
head_if v t = if t then two_numbers (get_or v.release 0 0) (get_or v.release 1 0) else 18446744073709551615

less_by : (a b : VersionRecord) (s t : Bool) → (a.epoch == 0) ≡ s → (b.epoch == 0) ≡ t
    → head_if a s < head_if b t → version_cmp a b ≡ Less
less_by a b true true d e h =
    less_by_release a b (is_zero a.epoch d ∙ sym (is_zero b.epoch e))
    (less_by_two a.release b.release h (nat_cmp (get_or a.release 0 0) (get_or b.release 0 0)) refl)
less_by a b true false d e h = less_by_epoch a b (below_epoch a.epoch b.epoch d e)
less_by a b false true d e h = absurd (at_most (get_or b.release 0 0) (get_or b.release 1 0) h)
less_by a b false false d e h = absurd (omega (arith, h))

-- the version of the less head is the less
pub less_by_head : (a b : VersionRecord) → head_of a < head_of b → version_cmp a b ≡ Less
unfolding head_of
less_by_head a b h = less_by a b (a.epoch == 0) (b.epoch == 0) refl refl h

pub head_decides : (a b : VersionRecord) (o : Ordering) → nat_cmp (head_of a) (head_of b) ≡ o → is_ne o ≡ true
    → version_cmp a b ≡ o
head_decides a b Less e differs = less_by_head a b (ranked (head_of a) (head_of b) Less (sym e))
head_decides a b Equal e differs = absurd (cc)
head_decides a b Greater e differs =
    version_cmp_total.antisymm a b
    ∙ ap ordering_reverse (less_by_head b a (ranked (head_of a) (head_of b) Greater (sym e)))
