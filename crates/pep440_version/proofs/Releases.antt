-- Release numbers alone, the numbers that are kept before zeros at the end, and the last number raised.
use Rattle.std.proofs.Common.{◌≡◌, ℕ, ◌<◌, ◌==◌, ◌&&◌, ◌||◌, Bool, true, false, not, if◌then◌else◌, length}
use Rattle.std.proofs.Common.{take, List, [], ◌∷◌, ◌++◌, Option, Some, None, refl, ap, sym, ◌∙◌, arith, max}
use Rattle.std.specs.Prelude.{IsTrue, ◌↔◌, is_some}
use Rattle.std.proofs.lemmas.Bool.{false≢true}
use Rattle.std.proofs.lemmas.Bool.Decides.{nat_tests}
use Rattle.std.specs.Option.{option_map}
use Rattle.pep440_text.specs.declared.Prerelease.{Prerelease}
use Rattle.pep440_text.specs.Record.{Segment, VersionRecord, release_record}
use Rattle.pep440_version.specs.Order.{before_stripped, stripped}
use Rattle.pep440_version.specs.Changes.{has_segments, has_local, or_zero}
use Rattle.pep440_text.specs.Releases.{raised, last_raised}

-- ---- release numbers alone

abbrev pub is_plain : VersionRecord → Bool
is_plain v =
    (v.epoch == 0) && (not (is_some v.pre || (is_some v.post || (is_some v.dev || has_local v)))
    && not (is_some v.least || is_some v.most))

is_zero : (n : ℕ) (t : Bool) → (n == 0) && t ≡ true → (n ≡ 0) × (t ≡ true)
is_zero n true e = (grind (arith, nat_tests), refl)
is_zero n false e = grind (arith, nat_tests)

plain_fields : (release : List ℕ) (epoch : ℕ) (pre : Option Prerelease) (post dev least most : Option ℕ) (local : List Segment)
    → (epoch == 0) &&
    (not (is_some pre || (is_some post || (is_some dev || has_segments local))) && not (is_some least || is_some most)) ≡ true
    → record { epoch = epoch; release = release; pre = pre; post = post; dev = dev; local = local; least = least; most = most }
    ≡ release_record release
plain_fields release epoch None None None None None [] e =
    ap (λ (n : ℕ). record (release_record release) { epoch = n }) (is_zero epoch true e).0
plain_fields release epoch (Some x) post dev least most local e =
    absurd (false≢true (is_zero epoch false e).1)
plain_fields release epoch None (Some n) dev least most local e =
    absurd (false≢true (is_zero epoch false e).1)
plain_fields release epoch None None (Some n) least most local e =
    absurd (false≢true (is_zero epoch false e).1)
plain_fields release epoch None None None least most (s ∷ ss) e =
    absurd (false≢true (is_zero epoch false e).1)
plain_fields release epoch None None None (Some n) most [] e = absurd (false≢true (is_zero epoch false e).1)
plain_fields release epoch None None None None (Some n) [] e = absurd (false≢true (is_zero epoch false e).1)

-- a version whose other parts are absent is release numbers alone
pub only_release_is : (v : VersionRecord) → (IsTrue (is_plain v)) ↔ (v ≡ release_record v.release)
only_release_is v = (
  λ e. plain_fields v.release v.epoch v.pre v.post v.dev v.least v.most v.local e,
  λ e. ap is_plain e,
)

-- ---- zeros at the end

front_one : (x : ℕ) (xs : List ℕ) (t : Bool)
    → take (length (if t then [] else x ∷ [])) (x ∷ xs) ≡ if t then [] else x ∷ []
front_one x xs true = refl
front_one x xs false = refl

front_by : (x : ℕ) (xs rest : List ℕ) → take (length rest) xs ≡ rest
    → take (length (before_stripped x rest)) (x ∷ xs) ≡ before_stripped x rest
front_by x xs [] e = front_one x xs (x == 0)
front_by x xs (n ∷ ns) e = ap (λ ys. x ∷ ys) e

stripped_front : (xs : List ℕ) → take (length (stripped xs)) xs ≡ stripped xs
stripped_front [] = refl
stripped_front (x ∷ xs) = front_by x xs (stripped xs) (stripped_front xs)

zero_by : (x : ℕ) (t : Bool) → (x == 0) ≡ t → (if t then [] else x ∷ []) ≡ [] → x ≡ 0
zero_by x true e f = grind (arith, nat_tests)
zero_by x false e f = absurd (cc)

zero_first : (x : ℕ) (rest : List ℕ) → before_stripped x rest ≡ [] → x ≡ 0
zero_first x [] e = zero_by x (x == 0) refl e
zero_first x (n ∷ ns) e = absurd (cc)

kept_by : (x : ℕ) (xs rest : List ℕ) (count : ℕ) → count ≡ max (length rest) 1 → (rest ≡ [] → x ≡ 0)
    → take (length rest) (x ∷ xs) ≡ rest → take count (x ∷ xs) ≡ or_zero rest
kept_by x xs [] count e zero f = ap (λ n. take n (x ∷ xs)) e ∙ ap (λ n. n ∷ []) (zero refl)
kept_by x xs (n ∷ ns) count e zero f =
    let same : count ≡ length (n ∷ ns) = omega (arith, e) in ap (λ m. take m (x ∷ xs)) same ∙ f

-- the numbers that are kept are those before the zeros at the end, and one at least
pub kept_numbers : (xs : List ℕ) (count : ℕ) → 0 < length xs → count ≡ max (length (stripped xs)) 1
    → take count xs ≡ or_zero (stripped xs)
kept_numbers [] count h e = absurd (omega arith)
kept_numbers (x ∷ xs) count h e =
    kept_by x xs (stripped (x ∷ xs)) count e (zero_first x (stripped xs)) (stripped_front (x ∷ xs))
