-- Zeros at the end of a release show in its print.
use Rattle.std.proofs.Common.{◌≡◌, ◌≢◌, ℕ, zero, suc, ◌<◌, ◌⊎◌, List, [], ◌∷◌, ◌++◌, length, replicate, ap}
use Rattle.std.proofs.Common.{sym, inl, inr, refl, arith, length-append, append_assoc}
use Rattle.std.proofs.lemmas.Fmt.{decimal_is_IsNumeral}
use Rattle.std.specs.Fmt.{decimal}
use Rattle.std.specs.List.{flat_map}
use Rattle.pep440_text.specs.Record.{VersionRecord, with_end_zeros}
use Rattle.pep440_text.specs.Print.{dotted_number, release_text, version_text}
use Rattle.pep440_version.proofs.Joined.{numbers_joined}

abbrev dotted : List ℕ → List ℕ
dotted = flat_map dotted_number

zeros_longer : (k m : ℕ) → k < m → length (dotted (replicate k 0)) < length (dotted (replicate m 0))
zeros_longer k zero h = absurd (omega arith)
zeros_longer zero (suc m) h = simp length-append (omega arith)
zeros_longer (suc k) (suc m) h =
    let less : length (dotted (replicate k 0)) < length (dotted (replicate m 0)) =
    zeros_longer k m (omega arith) in
    simp length-append (omega arith)

dotted_longer : (xs : List ℕ) (k m : ℕ) → k < m
    → length (dotted (xs ++ replicate k 0)) < length (dotted (xs ++ replicate m 0))
dotted_longer [] k m h = zeros_longer k m h
dotted_longer (x ∷ xs) k m h =
    let less = dotted_longer xs k m h in
    let one = length-append (dotted_number x) (dotted (xs ++ replicate k 0)) in
    let other = length-append (dotted_number x) (dotted (xs ++ replicate m 0)) in
    omega (arith, less, one, other)

first_longer : (x : ℕ) (xs : List ℕ) (k m : ℕ) → k < m
    → length (release_text (x ∷ (xs ++ replicate k 0))) < length (release_text (x ∷ (xs ++ replicate m 0)))
first_longer x xs k m h =
    let less = dotted_longer xs k m h in
    let one = length-append (decimal x) (dotted (xs ++ replicate k 0)) in
    let other = length-append (decimal x) (dotted (xs ++ replicate m 0)) in
    let both : length (decimal x ++ dotted (xs ++ replicate k 0)) < length
    (decimal x ++ dotted (xs ++ replicate m 0)) =
    omega (arith, less, one, other) in
    rw (numbers_joined x (xs ++ replicate k 0), numbers_joined x (xs ++ replicate m 0)) both

release_longer : (xs : List ℕ) (k m : ℕ) → k < m
    → length (release_text (xs ++ replicate k 0)) < length (release_text (xs ++ replicate m 0))
release_longer [] k zero h = absurd (omega arith)
release_longer [] zero (suc m) h =
    let one = length-append (decimal 0) (dotted (replicate m 0)) in
    let first : 0 < length (decimal 0) = (decimal_is_IsNumeral 0 (omega arith)).0.0 in
    let some : 0 < length (decimal 0 ++ dotted (replicate m 0)) = omega (arith, one, first) in
    rw (numbers_joined 0 (replicate m 0)) some
release_longer [] (suc k) (suc m) h = first_longer 0 [] k m (omega arith)
release_longer (x ∷ xs) k m h = first_longer x xs k m h

length_apart : (a b : List ℕ) → length a < length b → a ≢ b
length_apart a b h = λ e. let same = ap length e in absurd (omega (arith, same))

middle_longer : (front a b rest : List ℕ) → length a < length b
    → length (front ++ (a ++ rest)) < length (front ++ (b ++ rest))
middle_longer front a b rest h =
    omega
    (arith, length-append front (a ++ rest), length-append front (b ++ rest), length-append a rest, length-append b rest)

-- four parts stand behind the release in a print
grouped : (e r p o d l : List ℕ) → ((((e ++ r) ++ p) ++ o) ++ d) ++ l ≡ e ++ (r ++ (p ++ (o ++ (d ++ l))))
grouped e r p o d l = simp append_assoc

print_longer : (version : VersionRecord) (k m : ℕ) → k < m
    → length (version_text (with_end_zeros k version)) < length (version_text (with_end_zeros m version))
unfolding version_text
print_longer version k m h =
    rw
    (grouped _ (release_text (version.release ++ replicate k 0)) _ _ _ _, grouped _ (release_text (version.release ++ replicate m 0)) _ _ _ _)
    (middle_longer _ _ _ _ (release_longer version.release k m h))

apart : (k m : ℕ) → k ≢ m → (k < m) ⊎ (m < k)
apart zero zero h = absurd (h refl)
apart zero (suc m) h = inl (omega arith)
apart (suc k) zero h = inr (omega arith)
apart (suc k) (suc m) h =
    elim (apart k m (λ e. h (ap suc e))) [ inl l ↦ inl (omega arith) | inr l ↦ inr (omega arith) ]

pub prints_differ : (version : VersionRecord) (count other : ℕ) → count ≢ other
    → version_text (with_end_zeros count version) ≢ version_text (with_end_zeros other version)
prints_differ version count other h = elim (apart count other h) [
  | inl l ↦ length_apart _ _ (print_longer version count other l)
  | inr l ↦ λ e. length_apart _ _ (print_longer version other count l) (sym e)
]
