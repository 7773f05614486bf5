-- Which points a set holds. The model of a set is the sorted list of endpoints at which membership flips.
use Rattle.std.specs.Prelude.{◌≡◌, Bool, List, IsTrue}
use Rattle.std.specs.Ordering.{is_eq}
use Rattle.std.specs.declared.cmp.Ordering.{Ordering}
use Rattle.version_ranges.specs.Point.{Point, At, point_cmp}
use Rattle.version_ranges.specs.Turns.{reaches, is_held, Rising}

module _ {T : Type 0} (cmp : T → T → Ordering) where
  -- the set holds the point
  abbrev pub holds_at : List (Point T) → Point T → Bool
  holds_at set point = is_held (point_cmp cmp) set point

  -- the endpoints rise strictly, so that each set of points has one list of them, up to the order's
  -- equality
  abbrev pub IsNormal : List (Point T) → Type 0
  IsNormal set = Rising (point_cmp cmp) set

  -- the set holds a point at p or before it, and one at p or after it
  abbrev pub IsBetweenHeld : List (Point T) → Point T → Type 0
  IsBetweenHeld set p =
      ((q : Point T) × IsTrue (holds_at set q) × IsTrue (reaches (point_cmp cmp) q p))
      × ((q : Point T) × IsTrue (holds_at set q) × IsTrue (reaches (point_cmp cmp) p q))

  -- two sets hold the same points
  abbrev pub HoldSamePoints : List (Point T) → List (Point T) → Type 0
  HoldSamePoints a b = (p : Point T) → holds_at a p ≡ holds_at b p

  -- the set holds the point at the value and no other
  abbrev pub HoldsOnly : T → List (Point T) → Type 0
  HoldsOnly value set = (p : Point T) → holds_at set p ≡ is_eq (point_cmp cmp p (At value))
