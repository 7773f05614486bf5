-- The intervals of a set lie one behind another.
use Rattle.std.proofs.Common.{◌≡◌, Bool, true, false, not, List, [], ◌∷◌, refl, ap, sym, subst, ◌∙◌}
use Rattle.std.proofs.Common.{true≢false}
use Rattle.std.specs.List.{AllByRecursion}
use Rattle.std.specs.Cmp.{upto}
use Rattle.std.specs.declared.cmp.Ordering.{Ordering}
use Rattle.std.specs.declared.cmp.Ordering.TheVariants.{Less}
use Rattle.std.specs.Ordering.{is_gt}
use Rattle.version_ranges.specs.Point.{Point, BelowAll, At, JustAbove, point_cmp}
use Rattle.version_ranges.specs.OrderLaws.{points_total}
use Rattle.version_ranges.specs.Turns.{reaches, Rising}
use Rattle.version_ranges.specs.Bounds.{starts_by, goes_on_to, lower_bound_at, upper_bound_at, intervals}
use Rattle.pep440_version.specs.Record.{VersionRecord}
use Rattle.pep440_version.specs.Order.{version_cmp}
use Rattle.pep440_version.specs.OrderLaws.{version_cmp_total}
use Rattle.pep440_specifier_list.specs.ListBounds.{Interval}
use Rattle.pep440_range.specs.Ranges.{PointTest}
use Rattle.pep440_range.specs.Intervals.{AreBehind}
use Rattle.pep440_range.proofs.Complements.{below_is_rest, to_is_rest}

abbrev Place : Type 0
Place = Point VersionRecord

abbrev place_cmp : Place → Place → Ordering
place_cmp = point_cmp version_cmp

-- ---- places that are reached

not_true : (b : Bool) → not b ≡ true → b ≡ false
not_true true h = absurd (true≢false (sym h))
not_true false h = refl

reached_earlier : (x y p : Place) → place_cmp x y ≡ Less → reaches place_cmp y p ≡ true
    → reaches place_cmp x p ≡ true
reached_earlier x y p h k =
    ap not (upto (points_total version_cmp version_cmp_total) x y p (ap is_gt h)
    (not_true (is_gt (place_cmp y p)) k))

opposite : (a b : Bool) → (b ≡ true → a ≡ true) → not a ≡ true → not b ≡ true
opposite a true f h = absurd (true≢false (sym (f refl) ∙ not_true a h))
opposite a false f h = refl

-- ---- bounds

starts_at : (turn p : Place) → starts_by version_cmp (lower_bound_at turn) p ≡ reaches place_cmp turn p
starts_at BelowAll BelowAll = refl
starts_at BelowAll (At v) = refl
starts_at BelowAll (JustAbove v) = refl
starts_at (At v) p = refl
starts_at (JustAbove v) p = refl

ends_at : (lower turn p : Place) → place_cmp lower turn ≡ Less
    → goes_on_to version_cmp (upper_bound_at turn) p ≡ not (reaches place_cmp turn p)
ends_at BelowAll BelowAll p h = absurd (cc)
ends_at (At w) BelowAll p h = absurd (cc)
ends_at (JustAbove w) BelowAll p h = absurd (cc)
ends_at lower (At v) p h = ap (λ (test : PointTest). test p) (below_is_rest v)
ends_at lower (JustAbove v) p h = ap (λ (test : PointTest). test p) (to_is_rest v)

begins_earlier : (x y : Place) → place_cmp x y ≡ Less → (p : Place)
    → starts_by version_cmp (lower_bound_at y) p ≡ true → starts_by version_cmp (lower_bound_at x) p ≡ true
begins_earlier x y h p k = starts_at x p ∙ reached_earlier x y p h (sym (starts_at y p) ∙ k)

ends_later : (a x c y : Place) → place_cmp a x ≡ Less → place_cmp c y ≡ Less → place_cmp x y ≡ Less
    → (p : Place)
    → goes_on_to version_cmp (upper_bound_at x) p ≡ true → goes_on_to version_cmp (upper_bound_at y) p ≡ true
ends_later a x c y g k h p e =
    ends_at c y p k
    ∙ opposite (reaches place_cmp x p) (reaches place_cmp y p) (reached_earlier x y p h)
    (sym (ends_at a x p g) ∙ e)

-- ---- intervals

abbrev Before : Place → List Place → Type 0
Before turn turns = AllByRecursion (λ later. place_cmp turn later ≡ Less) turns

all_behind : (a b : Place) (later : List Place) → place_cmp a b ≡ Less → Before a later → Before b later
    → Rising place_cmp later
    → AreBehind (lower_bound_at a, upper_bound_at b) (intervals later)
all_behind a b [] h first second rising = tt
all_behind a b (c ∷ []) h first second rising =
    (record { begins = begins_earlier a c first.0; ends = λ p k. refl }, tt)
all_behind a b (c ∷ d ∷ later) h first second rising = (
  record { begins = begins_earlier a c first.0; ends = ends_later a b c d h rising.0.0 second.1.0 },
  all_behind c d later rising.0.0 rising.0.1 rising.1.0 rising.1.1,
)

abbrev AllBehind : List Interval → Type 0
AllBehind [] = Unit {0}
AllBehind (first ∷ later) = AreBehind first later

set_behind : (set : List Place) → Rising place_cmp set → AllBehind (intervals set)
set_behind [] rising = tt
set_behind (a ∷ []) rising = tt
set_behind (a ∷ b ∷ later) rising = all_behind a b later rising.0.0 rising.0.1 rising.1.0 rising.1.1

pub intervals_behind : (set : List Place) (first : Interval) (later : List Interval) → Rising place_cmp set
    → intervals set ≡ first ∷ later → AreBehind first later
intervals_behind set first later rising e = subst AllBehind e (set_behind set rising)
