-- The program's reading of intervals: the terms of values, or of one star, that are left out.
use Rattle.std.specs.Prelude.{Bool, true, false, cond, List, [], ◌∷◌, Option, Some, None, option_map}
use Rattle.std.specs.Option.{option_or}
use Rattle.std.specs.Ordering.{eq_by_cmp}
use Rattle.std.specs.declared.cmp.Ordering.{Ordering}
use Rattle.std.specs.declared.ops.Bound.{Bound}
use Rattle.std.specs.declared.ops.Bound.TheVariants.{Included, Excluded, Unbounded}
use Rattle.version_ranges.specs.declared.boundary.Boundary.{Boundary}
use Rattle.version_ranges.specs.Boundaries.{point_of, turns_of}
use Rattle.version_ranges.specs.Bounds.{upper_bound_at, intervals}
use Rattle.pep508_diagram.specs.declared.branch.Branch.{Branch}
use Rattle.pep508_marker_text_laws.specs.Groups.{turning}
use Rattle.pep508_marker_text_laws.specs.Saying.{Clause, Saying}
use Rattle.pep508_tree.specs.Tree.{Tree}
use Rattle.pep508_marker_display.specs.Trees.{is_at}

-- the intervals from a lower bound on, up to the first endpoint
abbrev pub begun : {T : Type 0} → Bound T → List (Boundary T) → List (Bound T × Bound T)
begun lower [] = (lower, Unbounded) ∷ []
begun lower (boundary ∷ later) =
    (lower, upper_bound_at (point_of boundary)) ∷ intervals (turns_of false later)

-- the intervals in which a tree is the child, or any other one is, from some branches on
abbrev pub spans : {T : Type 0} → Tree → Bool → Bool → List (Branch T Tree) → List (Bound T × Bound T)
spans tree outside held later = intervals (turns_of held (turning (is_at tree outside) held later))

-- the intervals from a lower bound on, which the branches follow
abbrev pub spans_behind : {T : Type 0} → Tree → Bool → Bound T → List (Branch T Tree)
    → List (Bound T × Bound T)
spans_behind tree outside lower later = begun lower (turning (is_at tree outside) true later)

module _ {T : Type 0} where
  -- the value of an interval that is a single value
  abbrev pub value_between : (T → T → Ordering) → Bound T → Bound T → Option T
  value_between cmp (Included v) (Included w) = cond (eq_by_cmp cmp v w) (Some v) None
  value_between cmp lower upper = None

  module _ (say : Saying T) where
    abbrev pub differs_before : Option T → Option Clause → Option Clause
    differs_before (Some v) later = option_map (λ terms. say.differs v ∷ terms) later
    differs_before None later = None

    -- that the value differs from all that is left out, where each interval of that is a single value
    abbrev pub differs_from : List (Bound T × Bound T) → Option Clause
    differs_from [] = Some []
    differs_from (bounds ∷ later) =
        differs_before (value_between say.cmp bounds.0 bounds.1) (differs_from later)

    abbrev pub star_between : Bound T → Bound T → Option Clause
    star_between (Included v) (Excluded w) = option_map (λ term. term ∷ []) (say.no_star v w)
    star_between lower upper = None

    -- the clause that the value is none of a star's, where the one interval that is left out is a star's
    abbrev pub star_from : List (Bound T × Bound T) → Option Clause
    star_from (bounds ∷ []) = star_between bounds.0 bounds.1
    star_from left = None

    -- the one or the other
    abbrev pub left_out_by : List (Bound T × Bound T) → Option Clause
    left_out_by left = option_or (differs_from left) (star_from left)
