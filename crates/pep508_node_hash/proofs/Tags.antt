-- Equal versions have one number.
use Rattle.std.proofs.Common.{◌≡◌, ◌∙◌, ℕ, zero, suc, ◌==◌, Bool, true, false, if◌then◌else◌, List, [], ◌∷◌}
use Rattle.std.proofs.Common.{get_or, refl, ap, sym, Equal, is_eq, arith}
use Rattle.std.proofs.lemmas.Bool.Decides.{nat_tests}
use Rattle.pep440_text.specs.Record.{VersionRecord}
use Rattle.pep440_version.specs.Order.{before_stripped, stripped, key_of, version_cmp}
use Rattle.pep440_version.specs.OrderLaws.{same_key}
use Rattle.pep508_node_hash.specs.Tags.{mixed, version_tag}

is_zero : (x : ℕ) → (x == 0) ≡ true → x ≡ 0
is_zero x e = grind (arith, nat_tests)

no_numbers : (i : ℕ) → ◌≡◌ {A = ℕ} (get_or [] i 0) 0
no_numbers zero = refl
no_numbers (suc i) = refl

last_number : (x : ℕ) (xs : List ℕ) (i : ℕ) (t : Bool) → (x == 0) ≡ t → ((j : ℕ) → get_or [] j 0 ≡ get_or xs j 0)
    → get_or (if t then [] else x ∷ []) i 0 ≡ get_or (x ∷ xs) i 0
last_number x xs zero true e same = sym (is_zero x e)
last_number x xs (suc i) true e same = no_numbers (suc i) ∙ sym (no_numbers i) ∙ same i
last_number x xs zero false e same = refl
last_number x xs (suc i) false e same = same i

before_number : (x : ℕ) (rest xs : List ℕ) (i : ℕ) → ((j : ℕ) → get_or rest j 0 ≡ get_or xs j 0)
    → get_or (before_stripped x rest) i 0 ≡ get_or (x ∷ xs) i 0
before_number x [] xs i same = last_number x xs i (x == 0) refl same
before_number x (y ∷ ys) xs zero same = refl
before_number x (y ∷ ys) xs (suc i) same = same i

-- zeros at the end are no numbers of their own
stripped_number : (xs : List ℕ) (i : ℕ) → get_or (stripped xs) i 0 ≡ get_or xs i 0
stripped_number [] i = refl
stripped_number (x ∷ xs) i = before_number x (stripped xs) xs i (stripped_number xs)

abbrev second : List (List ℕ) → List ℕ
second [] = []
second (x ∷ []) = []
second (x ∷ y ∷ zs) = y

same_release : (a b : VersionRecord) → version_cmp a b ≡ Equal → stripped a.release ≡ stripped b.release
unfolding key_of
same_release a b e = ap second (same_key a b (ap is_eq e))

same_number : (a b : VersionRecord) → version_cmp a b ≡ Equal → (i : ℕ)
    → get_or a.release i 0 ≡ get_or b.release i 0
same_number a b e i =
    sym (stripped_number a.release i) ∙ ap (λ xs. get_or xs i 0) (same_release a b e) ∙ stripped_number b.release i

pub equal_versions : (a b : VersionRecord) → version_cmp a b ≡ Equal → version_tag a ≡ version_tag b
equal_versions a b e =
    let number = same_number a b e in
    λ i. mixed (mixed (number 0 i) (number 1 i)) (number 2 i)
