-- What a release's next minor one is, number by number.
use Rattle.std.proofs.Common.{◌≡◌, ℕ, ◌+◌, ◌==◌, ◌&&◌, nat_lt, Bool, true, false, cond, List, [], ◌∷◌}
use Rattle.std.proofs.Common.{length, get_or, refl, ap, sym, ◌∙◌, arith}
use Rattle.std.proofs.lemmas.Bool.Decides.{nat_tests}
use Rattle.std.specs.declared.cmp.Ordering.{Ordering}
use Rattle.std.specs.declared.cmp.Ordering.TheVariants.{Less, Equal, Greater}
use Rattle.std.specs.Ordering.{ordering_then, nat_cmp, is_eq}
use Rattle.std.specs.Cmp.Lexicographic.{slice_cmp}
use Rattle.pep440_version.specs.Record.{VersionRecord, release_record}
use Rattle.pep440_version.specs.Order.{key_of, stripped, version_eq, padded_cmp, zeros_beside}
use Rattle.pep440_version.proofs.Stripped.{then_equal_last}
use Rattle.pep440_specifier.specs.Matching.{begins_padded}
use Rattle.pep440_specifier.specs.Bounds.{IsReleaseVersion, next_minor, equals_release, is_next_minor}

releases_decide : (a b : List ℕ) → version_eq (release_record a) (release_record b) ≡ is_eq (slice_cmp nat_cmp (stripped a) (stripped b))
unfolding key_of
releases_decide a b = ap is_eq (then_equal_last (slice_cmp nat_cmp (stripped a) (stripped b)))

-- versions of releases alone are equal where the releases are, with zeros behind them
release_equals : ((a b : List ℕ) → slice_cmp nat_cmp (stripped a) (stripped b) ≡ padded_cmp a b) → (numbers : List ℕ) (version : VersionRecord) → IsReleaseVersion version
    → version_eq (release_record numbers) version ≡ is_eq (padded_cmp numbers version.release)
release_equals padded numbers version h =
    ap (version_eq (release_record numbers)) h ∙ releases_decide numbers version.release ∙ ap is_eq (padded numbers version.release)

two_numbers : (xs : List ℕ) → length xs ≡ 2 → xs ≡ get_or xs 0 0 ∷ get_or xs 1 0 ∷ []
two_numbers [] h = absurd (omega arith)
two_numbers (x ∷ []) h = absurd (omega arith)
two_numbers (x ∷ y ∷ []) h = refl
two_numbers (x ∷ y ∷ z ∷ zs) h = absurd (omega arith)

-- the next minor release of one with two numbers
pub next_of_two : ((a b : List ℕ) → slice_cmp nat_cmp (stripped a) (stripped b) ≡ padded_cmp a b) → (version next : VersionRecord) → length version.release ≡ 2 → IsReleaseVersion next
    → is_next_minor version next ≡ is_eq (padded_cmp (get_or version.release 0 0 ∷ (get_or version.release 1 0 + 1) ∷ []) next.release)
next_of_two padded version next two h =
    ap (λ xs. equals_release (next_minor xs) next) (two_numbers version.release two)
    ∙ release_equals padded (get_or version.release 0 0 ∷ (get_or version.release 1 0 + 1) ∷ []) next h

-- ---- number by number

equal_then : (o p : Ordering) → is_eq (ordering_then o p) ≡ (is_eq o && is_eq p)
equal_then Less p = refl
equal_then Equal p = refl
equal_then Greater p = refl

equal_in : (t : Bool) → is_eq (cond t Equal Greater) ≡ t
equal_in true = refl
equal_in false = refl

equal_by : (a b : ℕ) (t : Bool) → nat_lt a b ≡ t → is_eq (cond t Less (cond (a == b) Equal Greater)) ≡ (a == b)
equal_by a b true h = let e : (a == b) ≡ false = grind (arith, nat_tests) in sym e
equal_by a b false h = equal_in (a == b)

number_equals : (a b : ℕ) → is_eq (nat_cmp a b) ≡ (a == b)
number_equals a b = equal_by a b (nat_lt a b) refl

-- two numbers beside two or more
two_equal : (a b x y : ℕ) (zs : List ℕ) → is_eq (padded_cmp (a ∷ b ∷ []) (x ∷ y ∷ zs)) ≡ ((a == x) && ((b == y) && is_eq (zeros_beside zs)))
two_equal a b x y zs =
    let o = ordering_then (nat_cmp b y) (zeros_beside zs) in
    let first = equal_then (nat_cmp a x) o in
    let second = equal_then (nat_cmp b y) (zeros_beside zs) in
    let one = number_equals a x in
    let two = number_equals b y in
    cc

above_zero : (n : ℕ) → (n + 1 == 0) ≡ false
above_zero n = grind (arith, nat_tests)

and_false : (t : Bool) → (t && false) ≡ false
and_false true = refl
and_false false = refl

-- two numbers, of which the second is not zero, beside fewer
pub none_equals : (a b : ℕ) → is_eq (padded_cmp (a ∷ (b + 1) ∷ []) []) ≡ false
none_equals a b =
    let o = ordering_then (nat_cmp (b + 1) 0) Equal in
    let first = equal_then (nat_cmp a 0) o in
    let second = equal_then (nat_cmp (b + 1) 0) Equal in
    let two = number_equals (b + 1) 0 in
    let z = above_zero b in
    let e : is_eq o ≡ false = cc in
    first ∙ (ap (λ t. is_eq (nat_cmp a 0) && t) e ∙ and_false (is_eq (nat_cmp a 0)))

pub one_equals : (a b x : ℕ) → is_eq (padded_cmp (a ∷ (b + 1) ∷ []) (x ∷ [])) ≡ false
one_equals a b x =
    let o = ordering_then (nat_cmp (b + 1) 0) Equal in
    let first = equal_then (nat_cmp a x) o in
    let second = equal_then (nat_cmp (b + 1) 0) Equal in
    let two = number_equals (b + 1) 0 in
    let z = above_zero b in
    let e : is_eq o ≡ false = cc in
    first ∙ (ap (λ t. is_eq (nat_cmp a x) && t) e ∙ and_false (is_eq (nat_cmp a x)))

zero_begins : (n : ℕ) → (0 == n) ≡ (n == 0)
zero_begins n = grind (arith, nat_tests)

zeros_are : (zs : List ℕ) → is_eq (zeros_beside zs) ≡ begins_padded zs []
zeros_are [] = refl
zeros_are (z ∷ zs) = let e = equal_then (nat_cmp 0 z) (zeros_beside zs) in let f = number_equals 0 z in let g = zero_begins z in let h = zeros_are zs in cc

-- two numbers beside two or more
pub two_step : (a b x y : ℕ) (zs : List ℕ) → is_eq (padded_cmp (a ∷ (b + 1) ∷ []) (x ∷ y ∷ zs)) ≡ ((a == x) && ((b + 1 == y) && begins_padded zs []))
two_step a b x y zs = let e = two_equal a (b + 1) x y zs in let f = zeros_are zs in cc

pub ruleset steps = (none_equals, one_equals, two_step)
