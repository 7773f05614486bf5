-- Different intervals of one set have no point in common.
use Rattle.std.proofs.Common.{◌≡◌, true, false, List, [], ◌∷◌, ◌++◌, refl, ap, sym, ◌∙◌}
use Rattle.std.specs.Prelude.{IsTrue}
use Rattle.std.specs.List.{AllByRecursion}
use Rattle.std.specs.declared.cmp.Ordering.{Ordering}
use Rattle.std.specs.declared.cmp.Ordering.TheVariants.{Less}
use Rattle.std.specs.declared.ops.Bound.{Bound}
use Rattle.std.specs.declared.ops.Bound.TheVariants.{Unbounded}
use Rattle.std.specs.Cmp.{IsTotalOrder, first_so, second_so}
use Rattle.std.specs.Ordering.{is_gt}
use Rattle.version_ranges.specs.Point.{Point, point_cmp}
use Rattle.version_ranges.specs.Turns.{reaches}
use Rattle.version_ranges.specs.Held.{IsNormal}
use Rattle.version_ranges.specs.Bounds.{starts_by, goes_on_to, is_within, lower_bound_at, upper_bound_at}
use Rattle.version_ranges.specs.Bounds.{intervals}
use Rattle.version_ranges.specs.OrderLaws.{points_total}
use Rattle.version_ranges.proofs.Membership.{past_less}
use Rattle.version_ranges.proofs.Reading.{starts_at, goes_to, above_another, not_true}

module _ {T : Type 0} (cmp : T → T → Ordering) (o : IsTotalOrder cmp) where
  abbrev Interval : Type 0
  Interval = Bound T × Bound T

  points : IsTotalOrder (point_cmp cmp)
  points = points_total cmp o

  starts : (i : Interval) (p : Point T) → IsTrue (is_within cmp i p) → starts_by cmp i.0 p ≡ true
  starts i p h = first_so (starts_by cmp i.0 p) (goes_on_to cmp i.1 p) h

  goes_on : (i : Interval) (p : Point T) → IsTrue (is_within cmp i p) → goes_on_to cmp i.1 p ≡ true
  goes_on i p h = second_so (starts_by cmp i.0 p) (goes_on_to cmp i.1 p) h

  -- an interval that begins at x lies behind a turn before x
  behind_start : (turn x p : Point T) (i : Interval) (upper : Bound T) → point_cmp cmp turn x ≡ Less →
      (lower_bound_at x, upper) ≡ i → IsTrue (is_within cmp i p) → reaches (point_cmp cmp) turn p ≡ true
  behind_start turn x p i upper h e w =
      past_less (point_cmp cmp) points turn x p (point_cmp cmp x p) refl h
      (not_true cmp o (is_gt (point_cmp cmp x p))
      (sym (starts_at cmp o x p) ∙ ap (λ (j : Interval). starts_by cmp j.0 p) e ∙ starts i p w))

  -- intervals of later turns lie behind the turn before them
  behind_turn : (turn p : Point T) (later : List (Point T)) (before after : List Interval) (i : Interval) →
      AllByRecursion (λ x. point_cmp cmp turn x ≡ Less) later → intervals later ≡ before ++ i ∷ after →
      IsTrue (is_within cmp i p) → reaches (point_cmp cmp) turn p ≡ true
  behind_turn turn p [] [] after i a e w = absurd (cc)
  behind_turn turn p [] (k ∷ before) after i a e w = absurd (cc)
  behind_turn turn p (x ∷ []) [] after i a e w = behind_start turn x p i Unbounded a.0 (cc) w
  behind_turn turn p (x ∷ []) (k ∷ []) after i a e w = absurd (cc)
  behind_turn turn p (x ∷ []) (k ∷ l ∷ before) after i a e w = absurd (cc)
  behind_turn turn p (x ∷ y ∷ later) [] after i a e w = behind_start turn x p i (upper_bound_at y) a.0 (cc) w
  behind_turn turn p (x ∷ y ∷ later) (k ∷ before) after i a e w =
      behind_turn turn p later before after i a.1.1 (cc) w

  -- an interval that ends at a turn lies before it
  before_turn : (x y p : Point T) (i : Interval) → point_cmp cmp x y ≡ Less →
      (lower_bound_at x, upper_bound_at y) ≡ i →
      IsTrue (is_within cmp i p) → reaches (point_cmp cmp) y p ≡ false
  before_turn x y p i h e w =
      not_true cmp o (reaches (point_cmp cmp) y p)
      (sym (goes_to cmp o y p (above_another cmp o x y h)) ∙ ap (λ (j : Interval). goes_on_to cmp j.1 p) e
      ∙ goes_on i p w)

  pub intervals_apart : (set : List (Point T)) (before between after : List Interval) (i j : Interval)
      (p : Point T) →
      IsNormal cmp set → intervals set ≡ before ++ i ∷ between ++ j ∷ after → IsTrue (is_within cmp i p) →
      ¬ (IsTrue (is_within cmp j p))
  intervals_apart [] [] between after i j p n e w = λ v. cc
  intervals_apart [] (k ∷ before) between after i j p n e w = λ v. cc
  intervals_apart (x ∷ []) [] [] after i j p n e w = λ v. cc
  intervals_apart (x ∷ []) [] (l ∷ between) after i j p n e w = λ v. cc
  intervals_apart (x ∷ []) (k ∷ []) between after i j p n e w = λ v. cc
  intervals_apart (x ∷ []) (k ∷ l ∷ before) between after i j p n e w = λ v. cc
  intervals_apart (x ∷ y ∷ later) [] between after i j p n e w = λ v.
      let reached : reaches (point_cmp cmp) y p ≡ true =
      behind_turn y p later between after j n.1.0 (cc) v in
      let unreached : reaches (point_cmp cmp) y p ≡ false = before_turn x y p i n.0.0 (cc) w in cc
  intervals_apart (x ∷ y ∷ later) (k ∷ before) between after i j p n e w =
      intervals_apart later before between after i j p n.1.1 (cc) w
