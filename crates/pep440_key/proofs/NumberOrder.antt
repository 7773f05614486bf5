-- The bytes of numbers stand in the numbers' order, whatever follows them.
use Rattle.std.proofs.Common.{◌≡◌, ℕ, zero, suc, ◌+◌, ◌*◌, ◌/◌, ◌%◌, ◌^◌, ◌<◌, ◌≤◌, Bool, true, false, cond}
use Rattle.std.proofs.Common.{nat_lt}
use Rattle.std.proofs.Common.{List, [], ◌∷◌, ◌++◌, refl, ap, sym, ◌∙◌, arith}
use Rattle.std.proofs.Math.Nat.{mod-lt, div-add-mod', mul-le-mul_right, pow-suc}
use Rattle.std.proofs.lemmas.Bool.Decides.{nat_tests}
use Rattle.std.specs.declared.cmp.Ordering.{Ordering}
use Rattle.std.specs.declared.cmp.Ordering.TheVariants.{Less, Equal, Greater}
use Rattle.std.specs.Ordering.{ordering_then, ordering_reverse, nat_cmp, MatchOrdering}
use Rattle.std.specs.Cmp.{nat_cmp_is, ranks, tied_itself, nat_cmp_total}
use Rattle.std.specs.Cmp.Lexicographic.{nat_list_cmp_total}
use Rattle.pep440_key.specs.Key.{bytes_cmp, big_endian, number_bytes}

-- ---- two comparisons one after the other

pub then_again : (first second third : Ordering)
    → ordering_then first (ordering_then second third) ≡ ordering_then (ordering_then first second) third
then_again Less second third = refl
then_again Equal second third = refl
then_again Greater second third = refl

pub first_less : (n m : ℕ) (o : Ordering) → n < m → ordering_then (nat_cmp n m) o ≡ Less
first_less n m o h = ap (λ r. ordering_then r o) (sym (nat_cmp_is n m Less h))

pub first_greater : (n m : ℕ) (o : Ordering) → m < n → ordering_then (nat_cmp n m) o ≡ Greater
first_greater n m o h = ap (λ r. ordering_then r o) (sym (nat_cmp_is n m Greater h))

pub first_level : (n : ℕ) (o : Ordering) → ordering_then (nat_cmp n n) o ≡ o
first_level n o = ap (λ r. ordering_then r o) (tied_itself nat_cmp_total n)

-- ---- a number in so many bytes

-- numbers compare by quotients and then by remainders
halves_less : (c q r p s : ℕ) → r < c → q < p → q * c + r < p * c + s
halves_less c q r p s h k = let low : suc q * c ≤ p * c = mul-le-mul_right c k in omega arith

by_quotients : (c n m : ℕ) → 0 < c → n / c < m / c → n < m
by_quotients c n m pos h =
    let small : n % c < c = mod-lt n pos in
    let less : n / c * c + n % c < m / c * c + m % c =
    halves_less c (n / c) (n % c) (m / c) (m % c) small h in
    omega (arith, div-add-mod' n c, div-add-mod' m c)

level_quotients : (c n m : ℕ) → n / c ≡ m / c → n / c * c ≡ m / c * c
level_quotients c n m e = ap (λ q. q * c) e

parts_cmp : (c n m : ℕ) (o r s : Ordering) → 0 < c → r ≡ nat_cmp (n / c) (m / c)
    → s ≡ nat_cmp (n % c) (m % c)
    → MatchOrdering r (n / c < m / c) (n / c ≡ m / c) (m / c < n / c)
    → MatchOrdering s (n % c < m % c) (n % c ≡ m % c) (m % c < n % c)
    → ordering_then r (ordering_then s o) ≡ ordering_then (nat_cmp n m) o
parts_cmp c n m o Less s pos d e h k = sym (first_less n m o (by_quotients c n m pos h))
parts_cmp c n m o Greater s pos d e h k = sym (first_greater n m o (by_quotients c m n pos h))
parts_cmp c n m o Equal Less pos d e h k =
    let level = level_quotients c n m h in
    sym (first_less n m o (omega (arith, div-add-mod' n c, div-add-mod' m c, level)))
parts_cmp c n m o Equal Greater pos d e h k =
    let level = level_quotients c n m h in
    sym (first_greater n m o (omega (arith, div-add-mod' n c, div-add-mod' m c, level)))
parts_cmp c n m o Equal Equal pos d e h k =
    let level = level_quotients c n m h in
    let same : n ≡ m = omega (arith, div-add-mod' n c, div-add-mod' m c, level) in
    sym (ap (λ t. ordering_then (nat_cmp n t) o) (sym same) ∙ first_level n o)

parts : (c n m : ℕ) (o : Ordering) → 0 < c
    → ordering_then (nat_cmp (n / c) (m / c)) (ordering_then (nat_cmp (n % c) (m % c)) o)
    ≡ ordering_then (nat_cmp n m) o
parts c n m o pos =
    parts_cmp c n m o (nat_cmp (n / c) (m / c)) (nat_cmp (n % c) (m % c)) pos refl refl
    (ranks (n / c) (m / c)) (ranks (n % c) (m % c))

positive : (count : ℕ) → 0 < 256 ^ count
positive zero = omega arith
positive (suc count) = let h = positive count in omega (arith, pow-suc 256 count)

one_more : (count n m : ℕ) (x y : List ℕ)
    → bytes_cmp (big_endian count (n % 256 ^ count) ++ x) (big_endian count (m % 256 ^ count) ++ y)
    ≡ ordering_then (nat_cmp (n % 256 ^ count) (m % 256 ^ count)) (bytes_cmp x y)
    → bytes_cmp (big_endian (suc count) n ++ x) (big_endian (suc count) m ++ y)
    ≡ ordering_then (nat_cmp n m) (bytes_cmp x y)
one_more count n m x y e =
    ap (ordering_then (nat_cmp (n / 256 ^ count) (m / 256 ^ count))) e
    ∙ parts (256 ^ count) n m (bytes_cmp x y) (positive count)

-- numbers that so many bytes hold
held_ordered : (count n m : ℕ) (x y : List ℕ) → n < 256 ^ count → m < 256 ^ count
    → bytes_cmp (big_endian count n ++ x) (big_endian count m ++ y)
    ≡ ordering_then (nat_cmp n m) (bytes_cmp x y)
held_ordered zero n m x y h k =
    let same : n ≡ m = omega arith in
    sym (ap (λ t. ordering_then (nat_cmp n t) (bytes_cmp x y)) (sym same) ∙ first_level n (bytes_cmp x y))
held_ordered (suc count) n m x y h k =
    one_more count n m x y
    (held_ordered count (n % 256 ^ count) (m % 256 ^ count) x y (mod-lt n (positive count))
    (mod-lt m (positive count)))

-- and any numbers, of which the byte in front takes what is over
big_endian_ordered : (count n m : ℕ) (x y : List ℕ)
    → bytes_cmp (big_endian (suc count) n ++ x) (big_endian (suc count) m ++ y)
    ≡ ordering_then (nat_cmp n m) (bytes_cmp x y)
big_endian_ordered count n m x y =
    one_more count n m x y
    (held_ordered count (n % 256 ^ count) (m % 256 ^ count) x y (mod-lt n (positive count))
    (mod-lt m (positive count)))

-- ---- a number of the shorter form where it is below a limit

abbrev AreOrdered : (ℕ → List ℕ) → Type 0
AreOrdered encoded = (n m : ℕ) (x y : List ℕ)
    → bytes_cmp (encoded n ++ x) (encoded m ++ y) ≡ ordering_then (nat_cmp n m) (bytes_cmp x y)

module _ (limit : ℕ) (short long : ℕ → List ℕ) (shorts : AreOrdered short) (longs : AreOrdered long)
    (below : (n m : ℕ) (x y : List ℕ) → n < limit → bytes_cmp (short n ++ x) (long m ++ y) ≡ Less)
  where
    chosen_in : (n m : ℕ) (x y : List ℕ) (s t : Bool) → nat_lt n limit ≡ s → nat_lt m limit ≡ t
        → bytes_cmp (cond s (short n) (long n) ++ x) (cond t (short m) (long m) ++ y)
        ≡ ordering_then (nat_cmp n m) (bytes_cmp x y)
    chosen_in n m x y true true d e = shorts n m x y
    chosen_in n m x y false false d e = longs n m x y
    chosen_in n m x y true false d e =
        let h : n < limit = grind (arith, nat_tests) in
        let k : n < m = grind (arith, nat_tests) in
        below n m x y h ∙ sym (first_less n m (bytes_cmp x y) k)
    chosen_in n m x y false true d e =
        let h : m < limit = grind (arith, nat_tests) in
        let k : m < n = grind (arith, nat_tests) in
        nat_list_cmp_total.antisymm (long n ++ x) (short m ++ y)
        ∙ ap ordering_reverse (below m n y x h)
        ∙ sym (first_greater n m (bytes_cmp x y) k)

    chosen_ordered : AreOrdered (λ n. cond (nat_lt n limit) (short n) (long n))
    chosen_ordered n m x y = chosen_in n m x y (nat_lt n limit) (nat_lt m limit) refl refl

-- ---- the four forms of a number

raised : (n m : ℕ) (o : Ordering) → MatchOrdering o (n < m) (n ≡ m) (m < n)
    → MatchOrdering o (n + 1 < m + 1) (n + 1 ≡ m + 1) (m + 1 < n + 1)
raised n m Less h = omega arith
raised n m Equal h = omega arith
raised n m Greater h = omega arith

bytes_ordered : AreOrdered (λ n. (n + 1) ∷ [])
bytes_ordered n m x y =
    ap (λ o. ordering_then o (bytes_cmp x y))
    (sym (nat_cmp_is (n + 1) (m + 1) (nat_cmp n m) (raised n m (nat_cmp n m) (ranks n m))))

abbrev fours : ℕ → List ℕ
fours n = cond (nat_lt n (2 ^ 32)) (254 ∷ big_endian 4 n) (255 ∷ big_endian 8 n)

abbrev twos : ℕ → List ℕ
twos n = cond (nat_lt n (2 ^ 16)) (253 ∷ big_endian 2 n) (fours n)

fours_ordered : AreOrdered fours
fours_ordered =
    chosen_ordered (2 ^ 32) (λ n. 254 ∷ big_endian 4 n) (λ n. 255 ∷ big_endian 8 n)
    (big_endian_ordered 3) (big_endian_ordered 7) (λ n m x y h. refl)

twos_below : (n m : ℕ) (x y : List ℕ) (t : Bool)
    → bytes_cmp (253 ∷ (big_endian 2 n ++ x)) (cond t (254 ∷ big_endian 4 m) (255 ∷ big_endian 8 m) ++ y) ≡ Less
twos_below n m x y true = refl
twos_below n m x y false = refl

twos_ordered : AreOrdered twos
twos_ordered =
    chosen_ordered (2 ^ 16) (λ n. 253 ∷ big_endian 2 n) fours (big_endian_ordered 1) fours_ordered
    (λ n m x y h. twos_below n m x y (nat_lt m (2 ^ 32)))

byte_below : (n m : ℕ) (x y : List ℕ) (s t : Bool) → n < 252
    → bytes_cmp ((n + 1) ∷ x)
    (cond s (253 ∷ big_endian 2 m) (cond t (254 ∷ big_endian 4 m) (255 ∷ big_endian 8 m)) ++ y)
    ≡ Less
byte_below n m x y true t h = first_less (n + 1) 253 _ (omega arith)
byte_below n m x y false true h = first_less (n + 1) 254 _ (omega arith)
byte_below n m x y false false h = first_less (n + 1) 255 _ (omega arith)

pub number_ordered : (n m : ℕ) (x y : List ℕ)
    → bytes_cmp (number_bytes n ++ x) (number_bytes m ++ y) ≡ ordering_then (nat_cmp n m) (bytes_cmp x y)
unfolding number_bytes
number_ordered =
    chosen_ordered 252 (λ n. (n + 1) ∷ []) twos bytes_ordered twos_ordered
    (λ n m x y h. byte_below n m x y (nat_lt m (2 ^ 16)) (nat_lt m (2 ^ 32)) h)

-- what ends numbers stands below each of them
end_below_in : (m : ℕ) (x y : List ℕ) (r s t : Bool)
    → bytes_cmp (0 ∷ x)
    (cond r ((m + 1) ∷ []) (cond s (253 ∷ big_endian 2 m) (cond t (254 ∷ big_endian 4 m) (255 ∷ big_endian 8 m))) ++ y)
    ≡ Less
end_below_in m x y true s t = first_less 0 (m + 1) _ (omega arith)
end_below_in m x y false true t = refl
end_below_in m x y false false true = refl
end_below_in m x y false false false = refl

pub end_below : (m : ℕ) (x y : List ℕ) → bytes_cmp (0 ∷ x) (number_bytes m ++ y) ≡ Less
unfolding number_bytes
end_below m x y = end_below_in m x y (nat_lt m 252) (nat_lt m (2 ^ 16)) (nat_lt m (2 ^ 32))
