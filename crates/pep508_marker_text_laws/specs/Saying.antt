-- The comparisons that together express that a key's value lies in a set of points: by what it differs
-- from, where the set is all but that, and else interval by interval.
use Rattle.std.specs.Prelude.{if◌then◌else◌, List, [], ◌∷◌, ◌++◌, map, Option, Some, None, option_map}
use Rattle.std.specs.Option.{option_or}
use Rattle.std.specs.Ordering.{eq_by_cmp}
use Rattle.std.specs.declared.cmp.Ordering.{Ordering}
use Rattle.std.specs.declared.ops.Bound.{Bound}
use Rattle.std.specs.declared.ops.Bound.TheVariants.{Included, Excluded, Unbounded}
use Rattle.version_ranges.specs.Bounds.{intervals}
use Rattle.version_ranges.specs.Point.{Point, BelowAll, At, JustAbove}
use Rattle.pep508_marker.specs.Expression.{ExpressionRecord}

-- comparisons that hold together
abbrev pub Clause : Type 0
Clause = List ExpressionRecord

-- the comparisons of a key with a value, by `==`, `!=`, `>=`, `>`, `<=` and `<`; and with the values from
-- one on up to below another by `==` and `!=` and a star, where a star matches them
pub record Saying (T : Type 0) : Type 0 where
  pub cmp : T → T → Ordering
  pub equal : T → ExpressionRecord
  pub differs : T → ExpressionRecord
  pub at_least : T → ExpressionRecord
  pub above : T → ExpressionRecord
  pub at_most : T → ExpressionRecord
  pub below : T → ExpressionRecord
  pub star : T → T → Option ExpressionRecord
  pub no_star : T → T → Option ExpressionRecord

module _ {T : Type 0} where
  -- the values that are left out where each endpoint at a value is followed by the endpoint just above that
  -- value
  abbrev pub left_out : (T → T → Ordering) → List (Point T) → Option (List T)
  left_out cmp [] = Some []
  left_out cmp (At v ∷ JustAbove w ∷ later) =
      if eq_by_cmp cmp v w then option_map (λ vs. v ∷ vs) (left_out cmp later) else None
  left_out cmp turns = None

  module _ (say : Saying T) where
    -- the one star of what is left out between two endpoints
    abbrev pub star_out : List (Point T) → Option Clause
    star_out (At v ∷ At w ∷ []) = option_map (λ term. term ∷ []) (say.no_star v w)
    star_out turns = None

    -- the clause of what the value differs from, where the set is all but some values, or all but those of
    -- a star
    abbrev pub exclusion : List (Point T) → Option Clause
    exclusion (BelowAll ∷ turns) =
        option_or (option_map (map say.differs) (left_out say.cmp turns)) (star_out turns)
    exclusion turns = None

    -- the one comparison of an interval: of a single value, or by a star
    abbrev pub single : Bound T → Bound T → Option ExpressionRecord
    single (Included v) (Included w) = if eq_by_cmp say.cmp v w then Some (say.equal v) else None
    single (Included v) (Excluded w) = say.star v w
    single lower upper = None

    abbrev pub lower_terms : Bound T → Clause
    lower_terms (Included v) = say.at_least v ∷ []
    lower_terms (Excluded v) = say.above v ∷ []
    lower_terms Unbounded = []

    abbrev pub upper_terms : Bound T → Clause
    upper_terms (Included v) = say.at_most v ∷ []
    upper_terms (Excluded v) = say.below v ∷ []
    upper_terms Unbounded = []

    abbrev pub single_or_bounds : Option ExpressionRecord → Bound T → Bound T → Clause
    single_or_bounds (Some term) lower upper = term ∷ []
    single_or_bounds None lower upper = lower_terms lower ++ upper_terms upper

    -- an interval: its one comparison, or that of each of its bounds, the lower one first
    abbrev pub interval_clause : Bound T × Bound T → Clause
    interval_clause bounds = single_or_bounds (single bounds.0 bounds.1) bounds.0 bounds.1

    abbrev pub one_or_intervals : List (Point T) → Option Clause → List Clause
    one_or_intervals set (Some clause) = clause ∷ []
    one_or_intervals set None = map interval_clause (intervals set)

    -- clauses, one of which holds where the value lies in the set: one of what it differs from, or one for
    -- each interval
    abbrev pub set_clauses : List (Point T) → List Clause
    set_clauses set = one_or_intervals set (exclusion set)
