-- A set asked at a point, by the number of boundaries that come up to it.
use Rattle.std.proofs.Common.{◌≡◌, ℕ, suc, zero, ◌<◌, ◌≤◌, ◌%◌, length, get_or, arith, Bool, true, false, not}
use Rattle.std.proofs.Common.{List, [], ◌∷◌, map, refl, ap, sym, subst, ◌∙◌}
use Rattle.std.specs.Prelude.{◌==◌}
use Rattle.std.specs.List.{AllByRecursion}
use Rattle.std.specs.List.Sorted.{IsPartitionedBy, IsPartitionPoint}
use Rattle.std.specs.declared.cmp.Ordering.{Ordering}
use Rattle.std.specs.declared.cmp.Ordering.TheVariants.{Less, Equal, Greater}
use Rattle.std.specs.Ordering.{on, is_gt}
use Rattle.std.specs.Cmp.{IsTotalOrder}
use Rattle.version_ranges.specs.declared.boundary.Boundary.{Boundary}
use Rattle.version_ranges.specs.Point.{Point, point_cmp}
use Rattle.version_ranges.specs.Turns.{flips, reaches, is_held, Rising}
use Rattle.version_ranges.specs.Held.{holds_at, IsNormal}
use Rattle.version_ranges.specs.Boundaries.{point_of, turns_of}
use Rattle.version_ranges.specs.OrderLaws.{points_total}
use mathlib.Core.Bool.{beq}
use Rattle.version_ranges.proofs.Membership.{differs, past_less, flips_comm}
use Rattle.version_ranges.proofs.Reading.{odd_suc}
use Rattle.version_ranges.proofs.Turning.{held_turns, rising_boundaries}

not_gt : (r : Ordering) → not (is_gt r) ≡ true → is_gt r ≡ false
not_gt Less h = refl
not_gt Equal h = refl
not_gt Greater h = absurd (cc)

module _ {J K : Type 0} (f : J → K) (R : K → K → Ordering) (p : K) where
  -- where the first i come up to p and the others don't, p is held if i is odd
  held_at_count : (xs : List J) (i : ℕ) → i ≤ length xs →
      IsPartitionPoint (λ x. reaches R (f x) p ≡ true) (λ x. reaches R (f x) p ≡ false) xs i →
      is_held R (map f xs) p ≡ (i % 2 == 1)
  held_at_count [] zero h w = refl
  held_at_count [] (suc i) h w = absurd (omega arith)
  held_at_count (x ∷ xs) zero h w =
      ap (λ b. flips b (is_held R (map f xs) p)) (w.1 0 x (omega arith) (omega arith))
      ∙ held_at_count xs zero (omega arith)
      ((λ k d l m. absurd (omega arith)), (λ k d l m. w.1 (suc k) d (omega arith) (omega arith)))
  held_at_count (x ∷ xs) (suc i) h w =
      ap (λ b. flips b (is_held R (map f xs) p)) (w.0 0 x (omega arith) (omega arith))
      ∙ ap not (held_at_count xs i (omega arith) (
        (λ k d l m. w.0 (suc k) d (omega arith) (omega arith)),
        (λ k d l m. w.1 (suc k) d (omega arith) (omega arith)),
      ))
      ∙ sym (odd_suc i)

  all_at : (P : K → Type 0) (xs : List J) (j : ℕ) (d : J) → AllByRecursion (λ x. P (f x)) xs →
      j < length xs →
      P (f (get_or xs j d))
  all_at P [] j d a h = absurd (omega arith)
  all_at P (x ∷ xs) zero d a h = a.0
  all_at P (x ∷ xs) (suc j) d a h = all_at P xs j d a.1 (omega arith)

  -- those that come up to p come first
  rising_partitioned : (o : IsTotalOrder R) (xs : List J) → Rising (on f R) xs →
      IsPartitionedBy (λ x. reaches R (f x) p) xs
  rising_partitioned o [] r i j d h k e = absurd (omega arith)
  rising_partitioned o (x ∷ xs) r zero zero d h k e = e
  rising_partitioned o (x ∷ xs) r zero (suc j) d h k e =
      past_less R o (f x) (f (get_or xs j d)) p (R (f (get_or xs j d)) p) refl
      (all_at (λ y. R (f x) y ≡ Less) xs j d r.0 (omega arith)) (not_gt (R (f (get_or xs j d)) p) e)
  rising_partitioned o (x ∷ xs) r (suc i) zero d h k e = absurd (omega arith)
  rising_partitioned o (x ∷ xs) r (suc i) (suc j) d h k e =
      rising_partitioned o xs r.1 i j d (omega arith) (omega arith) e

module _ {T : Type 0} (cmp : T → T → Ordering) (o : IsTotalOrder cmp) where
  pub partitioned : (starts : Bool) (boundaries : List (Boundary T)) (set : List (Point T)) (p : Point T) →
      turns_of starts boundaries ≡ set → IsNormal cmp set →
      IsPartitionedBy (λ b. reaches (point_cmp cmp) (point_of b) p) boundaries
  partitioned starts boundaries set p e n =
      rising_partitioned point_of (point_cmp cmp) p (points_total cmp o) boundaries
      (rising_boundaries cmp starts boundaries (subst (IsNormal cmp) (sym e) n))

-- the set holds p where its sign and the number of boundaries up to p say so
module _ {T : Type 0} (cmp : T → T → Ordering) where
  pub held_by_count : (starts : Bool) (boundaries : List (Boundary T)) (set : List (Point T)) (p : Point T)
      (i : ℕ) →
      turns_of starts boundaries ≡ set → i ≤ length boundaries →
      IsPartitionPoint (λ b. reaches (point_cmp cmp) (point_of b) p ≡ true)
      (λ b. reaches (point_cmp cmp) (point_of b) p ≡ false) boundaries i →
      not (beq starts (i % 2 == 1)) ≡ holds_at cmp set p
  held_by_count starts boundaries set p i e h w =
      differs starts (i % 2 == 1) ∙ flips_comm (i % 2 == 1) starts
      ∙ ap (flips starts) (sym (held_at_count point_of (point_cmp cmp) p boundaries i h w))
      ∙ sym (held_turns cmp starts boundaries p) ∙ ap (λ turns. holds_at cmp turns p) e
