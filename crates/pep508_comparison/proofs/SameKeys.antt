-- Releases that differ in the zeros at their end hold the same points.
use Rattle.std.proofs.Common.{◌≡◌, ℕ, not, false, List, [], ◌∷◌, Some, refl, ap}
use Rattle.std.specs.declared.cmp.Ordering.TheVariants.{Less, Greater}
use Rattle.std.specs.declared.ops.Bound.TheVariants.{Included, Excluded}
use Rattle.std.specs.Ordering.{ordering_then, is_eq, is_lt, is_gt}
use Rattle.version_ranges.specs.Point.{Point, BelowAll, At, JustAbove, point_cmp}
use Rattle.pep440_text.specs.Record.{VersionRecord, release_record}
use Rattle.pep440_version.specs.Order.{stripped, key_of, key_cmp, version_cmp}
use Rattle.pep440_version.specs.Changes.{or_zero}
use Rattle.pep440_operator.specs.Operators.{is_star, is_tilde}
use Rattle.pep440_range.specs.Ranges.{all_but, at_version, from_bound, to_bound, release_range_by}
use Rattle.pep440_operator.specs.declared.operator.Operator.{Operator}
use Rattle.pep440_operator.specs.declared.operator.Operator.TheVariants as operators
use Rattle.pep508_comparison.specs.Comparisons.{compared_numbers}

-- ---- of `python_version`

pub same_numbers : (operator : Operator) (a b : List ℕ) → is_star operator ≡ false
    → is_tilde operator ≡ false → stripped a ≡ stripped b
    → compared_numbers operator a ≡ compared_numbers operator b
same_numbers operators.Equal a b s t e = ap or_zero e
same_numbers operators.EqualStar a b s t e = absurd (cc)
same_numbers operators.ExactEqual a b s t e = ap or_zero e
same_numbers operators.NotEqual a b s t e = ap or_zero e
same_numbers operators.NotEqualStar a b s t e = absurd (cc)
same_numbers operators.TildeEqual a b s t e = absurd (cc)
same_numbers operators.LessThan a b s t e = ap or_zero e
same_numbers operators.LessThanEqual a b s t e = ap or_zero e
same_numbers operators.GreaterThan a b s t e = ap or_zero e
same_numbers operators.GreaterThanEqual a b s t e = ap or_zero e

-- ---- of full versions

same_key : (a b : List ℕ) → stripped a ≡ stripped b → key_of (release_record a) ≡ key_of (release_record b)
unfolding key_of
same_key a b e = λ i. (0 ∷ []) ∷ e i ∷ (5 ∷ []) ∷ [] ∷ [] ∷ [] ∷ (1 ∷ []) ∷ []

module _ (v w : VersionRecord) (e : key_of v ≡ key_of w) where
  behind : (p : Point VersionRecord) → point_cmp version_cmp p (At v) ≡ point_cmp version_cmp p (At w)
  behind BelowAll = refl
  behind (At u) = ap (key_cmp (key_of u)) e
  behind (JustAbove u) = ap (λ k. ordering_then (key_cmp (key_of u) k) Greater) e

  before : (p : Point VersionRecord) → point_cmp version_cmp (At v) p ≡ point_cmp version_cmp (At w) p
  before BelowAll = refl
  before (At u) = ap (λ k. key_cmp k (key_of u)) e
  before (JustAbove u) = ap (λ k. ordering_then (key_cmp k (key_of u)) Less) e

  above : (p : Point VersionRecord)
      → point_cmp version_cmp (JustAbove v) p ≡ point_cmp version_cmp (JustAbove w) p
  above BelowAll = refl
  above (At u) = ap (λ k. ordering_then (key_cmp k (key_of u)) Greater) e
  above (JustAbove u) = ap (λ k. key_cmp k (key_of u)) e

  same_at : at_version v ≡ at_version w
  same_at = λ i p. is_eq (behind p i)

  same_from : from_bound (Included v) ≡ from_bound (Included w)
  same_from = λ i p. not (is_gt (before p i))

  same_above : from_bound (Excluded v) ≡ from_bound (Excluded w)
  same_above = λ i p. not (is_gt (above p i))

  same_to : to_bound (Included v) ≡ to_bound (Included w)
  same_to = λ i p. not (is_gt (behind p i))

  same_below : to_bound (Excluded v) ≡ to_bound (Excluded w)
  same_below = λ i p. is_lt (behind p i)

pub same_range : (operator : Operator) (a b : List ℕ) → is_star operator ≡ false
    → is_tilde operator ≡ false → stripped a ≡ stripped b
    → release_range_by operator a ≡ release_range_by operator b
same_range operators.Equal a b s t e =
    ap Some (same_at (release_record a) (release_record b) (same_key a b e))
same_range operators.EqualStar a b s t e = absurd (cc)
same_range operators.ExactEqual a b s t e =
    ap Some (same_at (release_record a) (release_record b) (same_key a b e))
same_range operators.NotEqual a b s t e =
    ap (λ test. Some (all_but test)) (same_at (release_record a) (release_record b) (same_key a b e))
same_range operators.NotEqualStar a b s t e = absurd (cc)
same_range operators.TildeEqual a b s t e = absurd (cc)
same_range operators.LessThan a b s t e =
    ap Some (same_below (release_record a) (release_record b) (same_key a b e))
same_range operators.LessThanEqual a b s t e =
    ap Some (same_to (release_record a) (release_record b) (same_key a b e))
same_range operators.GreaterThan a b s t e =
    ap Some (same_above (release_record a) (release_record b) (same_key a b e))
same_range operators.GreaterThanEqual a b s t e =
    ap Some (same_from (release_record a) (release_record b) (same_key a b e))
