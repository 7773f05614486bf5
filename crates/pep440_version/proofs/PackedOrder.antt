-- Versions that have a word compare as their words do.
use Rattle.std.proofs.Common.{◌≡◌, ℕ, ◌+◌, ◌*◌, ◌^◌, ◌<◌, ◌≤◌, ◌==◌, ◌&&◌, Bool, true, false, not, List, [], ◌∷◌}
use Rattle.std.proofs.Common.{length, get_or, nat_lt, nat_le, Option, Some, None, refl, ap, sym, ◌∙◌, arith, if◌then◌else◌}
use Rattle.std.proofs.Math.Nat.{mul-le-mul_right}
use Rattle.std.proofs.lemmas.Bool.{and_parts, false≢true}
use Rattle.std.proofs.lemmas.Bool.Decides.{nat_tests}
use Rattle.std.specs.declared.cmp.Ordering.{Ordering}
use Rattle.std.specs.declared.cmp.Ordering.TheVariants.{Less, Equal, Greater}
use Rattle.std.specs.Ordering.{MatchOrdering, ordering_then, nat_cmp}
use Rattle.std.specs.Cmp.{nat_cmp_is, ranks}
use Rattle.std.specs.Cmp.Lexicographic.{slice_cmp}
use Rattle.pep440_text.specs.declared.Prerelease.{Prerelease}
use Rattle.pep440_text.specs.declared.PrereleaseKind.TheVariants.{Alpha, Beta, Rc}
use Rattle.pep440_text.specs.Record.{VersionRecord, Segment, without_local}
use Rattle.pep440_version.specs.Changes.{has_segments}
use Rattle.pep440_version.specs.Order.{stripped, class_below, suffix_class, pre_key, post_key}
use Rattle.pep440_version.specs.Order.{absent_first, absent_last, local_key, key_of, key_cmp, version_cmp}
use Rattle.pep440_version.specs.declared.packing.Suffix.{Suffix}
use Rattle.pep440_version.specs.declared.packing.Suffix.TheVariants.{Min, Dev, Pre, Bare, Post, Max}
use Rattle.pep440_version.specs.Packing.{suffix_among, suffix_of, kind_of}
use Rattle.pep440_version.specs.Packing.{number_of, release_fits, suffix_fits, suffix_bits, fits, Fits}
use Rattle.pep440_version.specs.Packing.{word_of, packed}
use Rattle.pep440_version.proofs.Padded.{padded_is}

-- ---- digits

shifted : (o : Ordering) (c r s : ℕ) → MatchOrdering o (r < s) (r ≡ s) (s < r)
    → MatchOrdering o (c + r < c + s) (c + r ≡ c + s) (c + s < c + r)
shifted Less c r s m = omega arith
shifted Equal c r s m = omega arith
shifted Greater c r s m = omega arith

shift : (c r s : ℕ) → nat_cmp (c + r) (c + s) ≡ nat_cmp r s
shift c r s = sym (nat_cmp_is (c + r) (c + s) (nat_cmp r s) (shifted (nat_cmp r s) c r s (ranks r s)))

below_by : (unit x y r s : ℕ) → r < unit → x < y → x * unit + r < y * unit + s
below_by unit x y r s h k =
    let more : x + 1 ≤ y = omega arith in
    omega (arith, mul-le-mul_right unit more)

digit_by : (o : Ordering) (unit x y r s : ℕ) → r < unit → s < unit → MatchOrdering o (x < y) (x ≡ y) (y < x)
    → nat_cmp (x * unit + r) (y * unit + s) ≡ ordering_then o (nat_cmp r s)
digit_by Less unit x y r s h k m = sym (nat_cmp_is _ _ Less (below_by unit x y r s h m))
digit_by Equal unit x y r s h k m =
    sym (ap (λ n. nat_cmp (x * unit + r) (n * unit + s)) m) ∙ shift (x * unit) r s
digit_by Greater unit x y r s h k m = sym (nat_cmp_is _ _ Greater (below_by unit y x s r k m))

-- numbers of two digits
digit : (unit x y r s : ℕ) → r < unit → s < unit
    → nat_cmp (x * unit + r) (y * unit + s) ≡ ordering_then (nat_cmp x y) (nat_cmp r s)
digit unit x y r s h k = digit_by (nat_cmp x y) unit x y r s h k (ranks x y)

-- ---- releases

abbrev place_cmp : List ℕ → List ℕ → ℕ → Ordering
place_cmp a b place = nat_cmp (get_or a place 0) (get_or b place 0)

-- four release numbers compared, and then what is behind them
abbrev four_cmp : List ℕ → List ℕ → Ordering → Ordering
four_cmp a b rest =
    ordering_then (place_cmp a b 0)
    (ordering_then (place_cmp a b 1) (ordering_then (place_cmp a b 2) (ordering_then (place_cmp a b 3) rest)))

four_numbers : List ℕ → List ℕ
four_numbers numbers = get_or numbers 0 0 ∷ get_or numbers 1 0 ∷ get_or numbers 2 0 ∷ get_or numbers 3 0 ∷ []

four_stripped : (a : List ℕ) → length a ≤ 4 → stripped a ≡ stripped (four_numbers a)
unfolding four_numbers
four_stripped [] h = refl
four_stripped (x ∷ []) h = refl
four_stripped (x ∷ y ∷ []) h = refl
four_stripped (x ∷ y ∷ z ∷ []) h = refl
four_stripped (x ∷ y ∷ z ∷ w ∷ []) h = refl
four_stripped (x ∷ y ∷ z ∷ w ∷ v ∷ more) h = absurd (omega arith)

releases_compare : (a b : List ℕ) → length a ≤ 4 → length b ≤ 4
    → slice_cmp nat_cmp (stripped a) (stripped b) ≡ four_cmp a b Equal
unfolding four_numbers
releases_compare a b h k =
    ap (λ numbers. slice_cmp nat_cmp numbers (stripped b)) (four_stripped a h)
    ∙ ap (slice_cmp nat_cmp (stripped (four_numbers a))) (four_stripped b k)
    ∙ padded_is (four_numbers a) (four_numbers b)

then_assoc : (o p q : Ordering) → ordering_then (ordering_then o p) q ≡ ordering_then o (ordering_then p q)
then_assoc Less p q = refl
then_assoc Equal p q = refl
then_assoc Greater p q = refl

regrouped : (o p q r rest : Ordering)
    → ordering_then (ordering_then o (ordering_then p (ordering_then q (ordering_then r Equal)))) rest
    ≡ ordering_then o (ordering_then p (ordering_then q (ordering_then r rest)))
regrouped o p q r rest =
    then_assoc o (ordering_then p (ordering_then q (ordering_then r Equal))) rest
    ∙ ap (ordering_then o) (then_assoc p (ordering_then q (ordering_then r Equal)) rest
    ∙ ap (ordering_then p) (then_assoc q (ordering_then r Equal) rest
    ∙ ap (ordering_then q) (then_assoc r Equal rest)))

four_then : (a b : List ℕ) (rest : Ordering) → ordering_then (four_cmp a b Equal) rest ≡ four_cmp a b rest
four_then a b rest = regrouped (place_cmp a b 0) (place_cmp a b 1) (place_cmp a b 2) (place_cmp a b 3) rest

-- ---- suffixes

-- the components of a key that the suffixes decide
abbrev suffix_key : Option Prerelease → Option ℕ → Option ℕ → Option ℕ → Option ℕ → List (List ℕ)
suffix_key pre post dev least most =
    (class_below least (suffix_class pre post dev most) ∷ []) ∷ pre_key pre ∷ post_key post most
    ∷ absent_first least ∷ absent_last dev ∷ []

abbrev alone_key : Suffix → List (List ℕ)
alone_key (Min number) = suffix_key None None None (Some number) None
alone_key (Dev number) = suffix_key None None (Some number) None None
alone_key (Pre kind number) = suffix_key (Some (record { kind = kind; number = number })) None None None None
alone_key Bare = suffix_key None None None None None
alone_key (Post number) = suffix_key None (Some number) None None None
alone_key (Max number) = suffix_key None None None None (Some number)

alone : (pre : Option Prerelease) (post dev least most : Option ℕ) (suffix : Suffix)
    → suffix_among pre post dev least most ≡ Some suffix
    → suffix_key pre post dev least most ≡ alone_key suffix
alone None None None None None suffix e = let same : Bare ≡ suffix = cc in ap alone_key same
alone (Some pre) None None None None suffix e =
    let same : Pre pre.kind pre.number ≡ suffix = cc in ap alone_key same
alone None (Some number) None None None suffix e = let same : Post number ≡ suffix = cc in ap alone_key same
alone None None (Some number) None None suffix e = let same : Dev number ≡ suffix = cc in ap alone_key same
alone None None None (Some number) None suffix e = let same : Min number ≡ suffix = cc in ap alone_key same
alone None None None None (Some number) suffix e = let same : Max number ≡ suffix = cc in ap alone_key same
alone pre post dev least most suffix e = absurd (cc)

twice_last : (o : Ordering) → ordering_then (ordering_then o Equal) Equal ≡ o
twice_last Less = refl
twice_last Equal = refl
twice_last Greater = refl

suffixes_compare : (s t : Suffix)
    → key_cmp (alone_key s) (alone_key t)
    ≡ ordering_then (nat_cmp (kind_of s) (kind_of t)) (nat_cmp (number_of s) (number_of t))
suffixes_compare (Min m) (Min n) = twice_last (nat_cmp m n)
suffixes_compare (Dev m) (Dev n) = twice_last (nat_cmp m n)
suffixes_compare (Pre Alpha m) (Pre Alpha n) = twice_last (nat_cmp m n)
suffixes_compare (Pre Beta m) (Pre Beta n) = twice_last (nat_cmp m n)
suffixes_compare (Pre Rc m) (Pre Rc n) = twice_last (nat_cmp m n)
suffixes_compare (Post m) (Post n) = twice_last (nat_cmp m n)
suffixes_compare (Max m) (Max n) = twice_last (nat_cmp m n)
suffixes_compare (Pre Alpha m) (Pre Beta n) = refl
suffixes_compare (Pre Alpha m) (Pre Rc n) = refl
suffixes_compare (Pre Beta m) (Pre Alpha n) = refl
suffixes_compare (Pre Beta m) (Pre Rc n) = refl
suffixes_compare (Pre Rc m) (Pre Alpha n) = refl
suffixes_compare (Pre Rc m) (Pre Beta n) = refl
suffixes_compare (Pre Alpha m) t = refl
suffixes_compare (Pre Beta m) t = refl
suffixes_compare (Pre Rc m) t = refl
suffixes_compare s (Pre Alpha n) = refl
suffixes_compare s (Pre Beta n) = refl
suffixes_compare s (Pre Rc n) = refl
suffixes_compare s t = refl

kind_small : (s : Suffix) → kind_of s < 8
kind_small (Pre Alpha n) = omega arith
kind_small (Pre Beta n) = omega arith
kind_small (Pre Rc n) = omega arith
kind_small s = omega arith

-- ---- versions

-- what is known of a version that has a word
record Fitting (version : VersionRecord) (suffix : Suffix) : Type 0 where
  epoch_zero : version.epoch ≡ 0
  no_local : has_segments version.local ≡ false
  few : length version.release ≤ 4
  first : get_or version.release 0 0 < 2 ^ 16
  second : get_or version.release 1 0 < 2 ^ 8
  third : get_or version.release 2 0 < 2 ^ 8
  fourth : get_or version.release 3 0 < 2 ^ 8
  alone : suffix_of version ≡ Some suffix
  number : number_of suffix < 2 ^ 21

is_zero : (n : ℕ) → (n == 0) ≡ true → n ≡ 0
is_zero n e = grind (arith, nat_tests)

is_below : (m n : ℕ) → nat_lt m n ≡ true → m < n
is_below m n e = grind (arith, nat_tests)

is_within : (m n : ℕ) → nat_le m n ≡ true → m ≤ n
is_within m n e = grind (arith, nat_tests)

is_not : (b : Bool) → not b ≡ true → b ≡ false
is_not true e = absurd (false≢true e)
is_not false e = refl

bounds : (numbers : List ℕ) → release_fits numbers ≡ true
    → (length numbers ≤ 4) × (get_or numbers 0 0 < 2 ^ 16) × (get_or numbers 1 0 < 2 ^ 8)
    × (get_or numbers 2 0 < 2 ^ 8) × (get_or numbers 3 0 < 2 ^ 8)
bounds numbers e =
    let few = nat_le (length numbers) 4 in
    let first = nat_lt (get_or numbers 0 0) (2 ^ 16) in
    let second = nat_lt (get_or numbers 1 0) (2 ^ 8) in
    let third = nat_lt (get_or numbers 2 0) (2 ^ 8) in
    let fourth = nat_lt (get_or numbers 3 0) (2 ^ 8) in
    let all = and_parts (few && first && second && third) fourth e in
    let three = and_parts (few && first && second) third all.0 in
    let two = and_parts (few && first) second three.0 in
    let one = and_parts few first two.0 in
    (is_within _ _ one.0, is_below _ _ one.1, is_below _ _ two.1, is_below _ _ three.1, is_below _ _ all.1)

-- the facts that a test of all of them joins
apart : (v : VersionRecord) → Fits v
    → (v.epoch ≡ 0) × (has_segments v.local ≡ false) × (release_fits v.release ≡ true)
    × (suffix_fits (suffix_of v) ≡ true)
apart v h =
    let plain = (v.epoch == 0) && not (has_segments v.local) in
    let all = and_parts (plain && release_fits v.release) (suffix_fits (suffix_of v)) h in
    let front = and_parts plain (release_fits v.release) all.0 in
    let both = and_parts (v.epoch == 0) (not (has_segments v.local)) front.0 in
    (is_zero v.epoch both.0, is_not (has_segments v.local) both.1, front.1, all.1)

fitting : (v : VersionRecord) (suffix : Suffix) → suffix_of v ≡ Some suffix → Fits v → Fitting v suffix
fitting v suffix e h =
    let facts = apart v h in
    let numbers = bounds v.release facts.2 in
    record {
      epoch_zero = facts.0;
      no_local = facts.1;
      few = numbers.0;
      first = numbers.1;
      second = numbers.2;
      third = numbers.3;
      fourth = numbers.4;
      alone = e;
      number = is_below _ _ (sym (ap suffix_fits e) ∙ facts.3);
    }

-- its key
no_local_key : (local : List Segment) → has_segments local ≡ false → local_key local ≡ []
no_local_key [] e = refl
no_local_key (segment ∷ segments) e = absurd (false≢true (sym e))

key_is : (v : VersionRecord) (s : Suffix) → Fitting v s
    → key_of v ≡ (0 ∷ []) ∷ stripped v.release ∷ alone_key s
unfolding key_of
key_is v s f =
    let local = no_local_key v.local f.no_local in
    let key = alone v.pre v.post v.dev v.least v.most s f.alone in
    let epoch = f.epoch_zero in
    cc

-- its word, digit by digit
suffix_digits : Suffix → ℕ
suffix_digits s = kind_of s * 2 ^ 21 + number_of s

digits : List ℕ → Suffix → ℕ
digits r s =
    get_or r 0 0 * 2 ^ 48
    + (get_or r 1 0 * 2 ^ 40 + (get_or r 2 0 * 2 ^ 32 + (get_or r 3 0 * 2 ^ 24 + suffix_digits s)))

word_is : (v : VersionRecord) (s : Suffix) → suffix_of v ≡ Some s → word_of v ≡ digits v.release s
unfolding digits suffix_digits
word_is v s e = let bits = ap suffix_bits e in omega (arith, bits)

suffix_small : (s : Suffix) → number_of s < 2 ^ 21 → suffix_digits s < 2 ^ 24
unfolding suffix_digits
suffix_small s h = let kind = kind_small s in omega arith

place_small : (x r : ℕ) → x < 2 ^ 8 → r < 2 ^ 24 → x * 2 ^ 24 + r < 2 ^ 32
place_small x r h k = omega arith

next_small : (x r : ℕ) → x < 2 ^ 8 → r < 2 ^ 32 → x * 2 ^ 32 + r < 2 ^ 40
next_small x r h k = omega arith

front_small : (x r : ℕ) → x < 2 ^ 8 → r < 2 ^ 40 → x * 2 ^ 40 + r < 2 ^ 48
front_small x r h k = omega arith

suffix_cmp : Suffix → Suffix → Ordering
suffix_cmp s t = ordering_then (nat_cmp (kind_of s) (kind_of t)) (nat_cmp (number_of s) (number_of t))

digits_compare : (a b : VersionRecord) (s t : Suffix) → Fitting a s → Fitting b t
    → nat_cmp (digits a.release s) (digits b.release t) ≡ four_cmp a.release b.release (suffix_cmp s t)
unfolding digits suffix_digits suffix_cmp
digits_compare a b s t f g =
    let last = suffix_small s f.number in
    let last' = suffix_small t g.number in
    let fourth = place_small _ _ f.fourth last in
    let fourth' = place_small _ _ g.fourth last' in
    let third = next_small _ _ f.third fourth in
    let third' = next_small _ _ g.third fourth' in
    let second = front_small _ _ f.second third in
    let second' = front_small _ _ g.second third' in
    digit (2 ^ 48) (get_or a.release 0 0) (get_or b.release 0 0) _ _ second second'
    ∙ ap (ordering_then (place_cmp a.release b.release 0))
    (digit (2 ^ 40) (get_or a.release 1 0) (get_or b.release 1 0) _ _ third third'
    ∙ ap (ordering_then (place_cmp a.release b.release 1))
    (digit (2 ^ 32) (get_or a.release 2 0) (get_or b.release 2 0) _ _ fourth fourth'
    ∙ ap (ordering_then (place_cmp a.release b.release 2))
    (digit (2 ^ 24) (get_or a.release 3 0) (get_or b.release 3 0) _ _ last last'
    ∙ ap (ordering_then (place_cmp a.release b.release 3))
    (digit (2 ^ 21) (kind_of s) (kind_of t) _ _ f.number g.number))))

words_by : (a b : VersionRecord) (s t : Suffix) → Fitting a s → Fitting b t
    → nat_cmp (word_of a) (word_of b) ≡ version_cmp a b
unfolding suffix_cmp
words_by a b s t f g =
    let key : List (List ℕ) = (0 ∷ []) ∷ stripped a.release ∷ alone_key s in
    let words : nat_cmp (word_of a) (word_of b) ≡ nat_cmp (digits a.release s) (digits b.release t) =
    ap (λ n. nat_cmp n (word_of b)) (word_is a s f.alone)
    ∙ ap (nat_cmp (digits a.release s)) (word_is b t g.alone) in
    let keys : version_cmp a b ≡ key_cmp key ((0 ∷ []) ∷ stripped b.release ∷ alone_key t) =
    ap (λ k. key_cmp k (key_of b)) (key_is a s f) ∙ ap (key_cmp key) (key_is b t g) in
    words ∙ digits_compare a b s t f g ∙ ap (four_cmp a.release b.release) (sym (suffixes_compare s t))
    ∙ sym (four_then a.release b.release (key_cmp (alone_key s) (alone_key t)))
    ∙ ap (λ o. ordering_then o (key_cmp (alone_key s) (alone_key t)))
    (sym (releases_compare a.release b.release f.few g.few))
    ∙ sym keys

no_suffix : (v : VersionRecord) → suffix_of v ≡ None → Fits v → ⊥
no_suffix v e h = false≢true (sym (ap suffix_fits e) ∙ (apart v h).3)

of_suffixes : (a b : VersionRecord) (o p : Option Suffix) → suffix_of a ≡ o → suffix_of b ≡ p
    → Fits a → Fits b → nat_cmp (word_of a) (word_of b) ≡ version_cmp a b
of_suffixes a b None p d e h k = absurd (no_suffix a d h)
of_suffixes a b (Some s) None d e h k = absurd (no_suffix b e k)
of_suffixes a b (Some s) (Some t) d e h k = words_by a b s t (fitting a s d h) (fitting b t e k)

pub words_compare : (a b : VersionRecord) → Fits a → Fits b
    → nat_cmp (word_of a) (word_of b) ≡ version_cmp a b
words_compare a b h k = of_suffixes a b (suffix_of a) (suffix_of b) refl refl h k

-- by the words themselves
has_word : (v : VersionRecord) (word : ℕ) (t : Bool) → fits v ≡ t
    → (if t then Some (word_of v) else None) ≡ Some word → (Fits v) × (word_of v ≡ word)
has_word v word true e h = (e, cc)
has_word v word false e h = absurd (cc)

word_fits : (v : VersionRecord) (word : ℕ) → packed v ≡ Some word → (Fits v) × (word_of v ≡ word)
unfolding packed
word_fits v word h = has_word v word (fits v) refl h

pub packed_compare : (a b : VersionRecord) (x y : ℕ) → packed a ≡ Some x → packed b ≡ Some y
    → nat_cmp x y ≡ version_cmp a b
packed_compare a b x y h k =
    let one = word_fits a x h in
    let other = word_fits b y k in
    ap (λ n. nat_cmp n y) (sym one.1) ∙ ap (nat_cmp (word_of a)) (sym other.1)
    ∙ words_compare a b one.0 other.0

nothing_local : (local : List Segment) → has_segments local ≡ false → local ≡ []
nothing_local [] e = refl
nothing_local (segment ∷ segments) e = absurd (false≢true (sym e))

is_public : (v : VersionRecord) → Fits v → v ≡ without_local v
is_public v h = ap (λ (local : List Segment). record v { local = local }) (nothing_local v.local (apart v h).1)

-- a version that has a word has no local part
pub public_packed_compare : (a b : VersionRecord) (x y : ℕ) → packed a ≡ Some x → packed b ≡ Some y
    → nat_cmp x y ≡ version_cmp (without_local a) (without_local b)
public_packed_compare a b x y h k =
    packed_compare a b x y h k ∙ ap (λ v. version_cmp v b) (is_public a (word_fits a x h).0)
    ∙ ap (version_cmp (without_local a)) (is_public b (word_fits b y k).0)
