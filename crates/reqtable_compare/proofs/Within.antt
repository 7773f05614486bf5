-- A list or set is within another exactly where both together are the other, or the one.
use Rattle.std.proofs.Common.{◌≡◌, ◌∙◌, ◌&&◌, ◌||◌, ◌↔◌, IsTrue, ℕ, Bool, true, false, List}
use Rattle.std.proofs.Common.{inl, inr, refl, sym, ap, true≢false}
use Rattle.std.specs.List.{list_any}
use Rattle.std.specs.List.Sorted.{IsStrictlySortedBy}
use Rattle.std.specs.Ordering.{nat_cmp}
use Rattle.std.specs.Cmp.Lexicographic.{slice_cmp}
use Rattle.std.specs.Str.{bytes_eq}
use Rattle.version_ranges.specs.Point.{Point}
use Rattle.version_ranges.specs.Held.{HoldSamePoints, holds_at}
use Rattle.pep440_version.specs.Record.{VersionRecord}
use Rattle.pep440_version.specs.Order.{version_cmp}
use Rattle.reqtable_answer.proofs.OneAnswer.{same_texts}
use Rattle.reqtable_compare.specs.Summed.{SummaryRecord, HasAll, HoldsWithin, WithinRange, Covering}

-- ---- points

both_of : (a b : Bool) → (a && b) ≡ a → a ≡ true → b ≡ true
both_of true b e h = e
both_of false b e h = absurd (true≢false (sym h))

first_of : (a b : Bool) → (a ≡ true → b ≡ true) → (a && b) ≡ a
first_of true b f = f refl
first_of false b f = refl

pub within_is : (same : Bool) (both ours theirs : List (Point VersionRecord)) →
    ((p : Point VersionRecord) → holds_at version_cmp both p
    ≡ (holds_at version_cmp ours p && holds_at version_cmp theirs p)) →
    (IsTrue same ↔ HoldSamePoints version_cmp both ours) → IsTrue same ↔ HoldsWithin ours theirs
within_is same both ours theirs are equal = (
  λ t p h. both_of (holds_at version_cmp ours p) (holds_at version_cmp theirs p) (sym (are p) ∙ equal.0 t p) h,
  λ within. equal.1 (λ p. are p ∙ first_of (holds_at version_cmp ours p) (holds_at version_cmp theirs p) (within p)),
)

-- ---- extras

later_of : (a b : Bool) → (a || (b || false)) ≡ a → b ≡ true → a ≡ true
later_of true b e h = refl
later_of false true e h = absurd (true≢false e)
later_of false false e h = absurd (true≢false (sym h))

only_first : (a b : Bool) → (b ≡ true → a ≡ true) → (a || (b || false)) ≡ a
only_first true b f = refl
only_first false true f = absurd (true≢false (sym (f refl)))
only_first false false f = refl

pub all_is : (same : Bool) (all extras wanted : List (List ℕ)) → IsStrictlySortedBy (slice_cmp nat_cmp) extras →
    IsStrictlySortedBy (slice_cmp nat_cmp) all →
    ((e : List ℕ) → list_any (bytes_eq e) all
    ≡ (list_any (bytes_eq e) extras || (list_any (bytes_eq e) wanted || false))) →
    (IsTrue same ↔ (all ≡ extras)) → IsTrue same ↔ HasAll extras wanted
all_is same all extras wanted rise rise' are equal = (
  λ t e h. later_of (list_any (bytes_eq e) extras) (list_any (bytes_eq e) wanted)
      (sym (are e) ∙ ap (list_any (bytes_eq e)) (equal.0 t)) h,
  λ has. equal.1 (same_texts all extras rise' rise
      (λ e. are e ∙ only_first (list_any (bytes_eq e) extras) (list_any (bytes_eq e) wanted) (has e))),
)

-- ---- cases with lines

module _ (a b : SummaryRecord) (some : a.some ≡ true) (other : b.some ≡ true) (extras : Bool)
    (has : IsTrue extras ↔ HasAll a.extras b.extras) where
  pub not_covering : extras ≡ false → IsTrue false ↔ Covering a b
  not_covering e = (
    λ t. absurd (true≢false (sym t)),
    λ h. elim h [
      | inl none ↦ absurd (true≢false (sym other ∙ none))
      | inr both ↦ sym e ∙ has.1 both.extras
    ],
  )

  pub covering_by : extras ≡ true → (range : Bool) → (IsTrue range ↔ WithinRange a.range b.range) →
      IsTrue range ↔ Covering a b
  covering_by e range within = (
    λ t. inr (record { some = some; extras = has.0 e; range = within.0 t }),
    λ h. elim h [
      | inl none ↦ absurd (true≢false (sym other ∙ none))
      | inr both ↦ within.1 both.range
    ],
  )
