-- Zeros at the end of a release do not count, and releases compare as if padded with zeros.
use Rattle.std.proofs.Common.{◌≡◌, ℕ, zero, suc, ◌<◌, ◌==◌, Bool, true, false, cond, List, [], ◌∷◌, ◌++◌}
use Rattle.std.proofs.Common.{replicate, refl, ap, sym, ◌∙◌, arith, IsTrue}
use Rattle.std.proofs.lemmas.Bool.Decides.{nat_tests}
use Rattle.std.specs.declared.cmp.Ordering.{Ordering}
use Rattle.std.specs.declared.cmp.Ordering.TheVariants.{Less, Equal, Greater}
use Rattle.std.specs.Ordering.{ordering_then, nat_cmp, is_eq}
use Rattle.std.specs.Cmp.{nat_cmp_is, tied_itself}
use Rattle.std.specs.Cmp.Lexicographic.{slice_cmp}
use Rattle.pep440_text.specs.Record.{VersionRecord, with_end_zeros}
use Rattle.pep440_version.specs.Order.{before_stripped, stripped, key_of, key_cmp, version_cmp, version_eq}
use Rattle.pep440_version.specs.Order.{beside_zeros, zeros_beside, padded_cmp}
use Rattle.pep440_version.specs.OrderLaws.{version_cmp_total}

zeros_stripped : (count : ℕ) → stripped (replicate count 0) ≡ []
zeros_stripped zero = refl
zeros_stripped (suc count) = ap (before_stripped 0) (zeros_stripped count)

stripped_with_zeros : (count : ℕ) (xs : List ℕ) → stripped (xs ++ replicate count 0) ≡ stripped xs
stripped_with_zeros count [] = zeros_stripped count
stripped_with_zeros count (x ∷ xs) = ap (before_stripped x) (stripped_with_zeros count xs)

pub same_key_with_zeros : (version : VersionRecord) (count : ℕ)
    → key_of (with_end_zeros count version) ≡ key_of version
unfolding key_of
same_key_with_zeros version count = let same = stripped_with_zeros count version.release in cc

pub same_order_with_zeros : (version other : VersionRecord) (count : ℕ)
    → version_cmp (with_end_zeros count version) other ≡ version_cmp version other
same_order_with_zeros version other count =
    ap (λ key. key_cmp key (key_of other)) (same_key_with_zeros version count)

pub equal_with_zeros : (version : VersionRecord) (count : ℕ)
    → IsTrue (version_eq (with_end_zeros count version) version)
equal_with_zeros version count =
    ap is_eq (same_order_with_zeros version version count ∙ tied_itself version_cmp_total version)

-- ---- padding

above_zero : (x : ℕ) → (x == 0) ≡ false → nat_cmp x 0 ≡ Greater
above_zero x e = let h : 0 < x = grind (arith, nat_tests) in sym (nat_cmp_is x 0 Greater h)

below_any : (y : ℕ) → (y == 0) ≡ false → nat_cmp 0 y ≡ Less
below_any y e = let h : 0 < y = grind (arith, nat_tests) in sym (nat_cmp_is 0 y Less h)

level_zero : (x : ℕ) → (x == 0) ≡ true → x ≡ 0
level_zero x e = grind (arith, nat_tests)

greater_in : (x : ℕ) (t : Bool) → (x == 0) ≡ t → ordering_then (nat_cmp x 0) Greater ≡ Greater
greater_in x true e = ap (λ n. ordering_then (nat_cmp n 0) Greater) (level_zero x e)
greater_in x false e = ap (λ o. ordering_then o Greater) (above_zero x e)

greater_by : (x : ℕ) → ordering_then (nat_cmp x 0) Greater ≡ Greater
greater_by x = greater_in x (x == 0) refl

less_in : (y : ℕ) (t : Bool) → (y == 0) ≡ t → ordering_then (nat_cmp 0 y) Less ≡ Less
less_in y true e = ap (λ n. ordering_then (nat_cmp 0 n) Less) (level_zero y e)
less_in y false e = ap (λ o. ordering_then o Less) (below_any y e)

less_by : (y : ℕ) → ordering_then (nat_cmp 0 y) Less ≡ Less
less_by y = less_in y (y == 0) refl

abbrev numbers_cmp : List ℕ → List ℕ → Ordering
numbers_cmp = slice_cmp nat_cmp

-- one number before stripped ones, beside nothing
one_beside : (x : ℕ) (t : Bool) → (x == 0) ≡ t
    → numbers_cmp (cond t [] (x ∷ [])) [] ≡ ordering_then (nat_cmp x 0) Equal
one_beside x true e = sym (ap (λ n. ordering_then (nat_cmp n 0) Equal) (level_zero x e))
one_beside x false e = sym (ap (λ o. ordering_then o Equal) (above_zero x e))

beside_by : (x : ℕ) (xs : List ℕ)
    → numbers_cmp (before_stripped x xs) [] ≡ ordering_then (nat_cmp x 0) (numbers_cmp xs [])
beside_by x [] = one_beside x (x == 0) refl
beside_by x (y ∷ xs) = sym (greater_by x)

beside_is : (xs : List ℕ) → numbers_cmp (stripped xs) [] ≡ beside_zeros xs
beside_is [] = refl
beside_is (x ∷ xs) = beside_by x (stripped xs) ∙ ap (ordering_then (nat_cmp x 0)) (beside_is xs)

-- and the other way round
beside_one : (y : ℕ) (t : Bool) → (y == 0) ≡ t
    → numbers_cmp [] (cond t [] (y ∷ [])) ≡ ordering_then (nat_cmp 0 y) Equal
beside_one y true e = sym (ap (λ n. ordering_then (nat_cmp 0 n) Equal) (level_zero y e))
beside_one y false e = sym (ap (λ o. ordering_then o Equal) (below_any y e))

by_beside : (y : ℕ) (ys : List ℕ)
    → numbers_cmp [] (before_stripped y ys) ≡ ordering_then (nat_cmp 0 y) (numbers_cmp [] ys)
by_beside y [] = beside_one y (y == 0) refl
by_beside y (x ∷ ys) = sym (less_by y)

zeros_are : (ys : List ℕ) → numbers_cmp [] (stripped ys) ≡ zeros_beside ys
zeros_are [] = refl
zeros_are (y ∷ ys) = by_beside y (stripped ys) ∙ ap (ordering_then (nat_cmp 0 y)) (zeros_are ys)

-- two numbers before stripped ones
ones_by : (x y : ℕ) (s t : Bool) → (x == 0) ≡ s → (y == 0) ≡ t
    → numbers_cmp (cond s [] (x ∷ [])) (cond t [] (y ∷ [])) ≡ ordering_then (nat_cmp x y) Equal
ones_by x y true t d e = beside_one y t e ∙ sym (ap (λ n. ordering_then (nat_cmp n y) Equal) (level_zero x d))
ones_by x y false true d e =
    one_beside x false d ∙ sym (ap (λ n. ordering_then (nat_cmp x n) Equal) (level_zero y e))
ones_by x y false false d e = refl

shorter_by : (x y z : ℕ) (zs : List ℕ) (t : Bool) → (x == 0) ≡ t
    → numbers_cmp (cond t [] (x ∷ [])) (y ∷ z ∷ zs) ≡ ordering_then (nat_cmp x y) Less
shorter_by x y z zs true e =
    sym (less_by y) ∙ sym (ap (λ n. ordering_then (nat_cmp n y) Less) (level_zero x e))
shorter_by x y z zs false e = refl

longer_by : (x y z : ℕ) (zs : List ℕ) (t : Bool) → (y == 0) ≡ t
    → numbers_cmp (x ∷ z ∷ zs) (cond t [] (y ∷ [])) ≡ ordering_then (nat_cmp x y) Greater
longer_by x y z zs true e =
    sym (greater_by x) ∙ sym (ap (λ n. ordering_then (nat_cmp x n) Greater) (level_zero y e))
longer_by x y z zs false e = refl

both_by : (x y : ℕ) (xs ys : List ℕ)
    → numbers_cmp (before_stripped x xs) (before_stripped y ys) ≡ ordering_then (nat_cmp x y) (numbers_cmp xs ys)
both_by x y [] [] = ones_by x y (x == 0) (y == 0) refl refl
both_by x y [] (z ∷ zs) = shorter_by x y z zs (x == 0) refl
both_by x y (z ∷ zs) [] = longer_by x y z zs (y == 0) refl
both_by x y (z ∷ zs) (w ∷ ws) = refl

pub padded_is : (a b : List ℕ) → slice_cmp nat_cmp (stripped a) (stripped b) ≡ padded_cmp a b
padded_is [] b = zeros_are b
padded_is (x ∷ a) [] = beside_is (x ∷ a)
padded_is (x ∷ a) (y ∷ b) =
    both_by x y (stripped a) (stripped b) ∙ ap (ordering_then (nat_cmp x y)) (padded_is a b)
