-- That a key's value lies in a set that is neither empty nor all is said by some comparison.
use Rattle.std.proofs.Common.{◌≡◌, Bool, true, false, ◌||◌, if◌then◌else◌, cond, List, [], ◌∷◌, ◌++◌, map}
use Rattle.std.proofs.Common.{Option, Some, None, option_map, refl, sym, ap, subst}
use Rattle.std.specs.List.{list_any}
use Rattle.std.specs.Option.{option_or}
use Rattle.std.specs.Ordering.{eq_by_cmp}
use Rattle.std.specs.declared.ops.Bound.{Bound}
use Rattle.std.specs.declared.ops.Bound.TheVariants.{Unbounded}
use Rattle.version_ranges.specs.declared.boundary.Boundary.{Boundary}
use Rattle.version_ranges.specs.declared.boundary.Boundary.TheVariants as boundary
use Rattle.version_ranges.specs.Boundaries.{point_of, turns_of}
use Rattle.version_ranges.specs.Bounds.{intervals, lower_bound_at, upper_bound_at}
use Rattle.version_ranges.specs.Point.{Point, BelowAll, At, JustAbove}
use Rattle.version_ranges.specs.Turns.{flips}
use Rattle.pep508_marker.specs.Expression.{ExpressionRecord}
use Rattle.pep508_diagram.specs.declared.branch.Branch.{Branch}
use Rattle.pep508_marker_text_laws.specs.Clauses.{followed_by}
use Rattle.pep508_marker_text_laws.specs.Groups.{turning, points_where}
use Rattle.pep508_marker_text_laws.specs.Saying.{Clause, Saying, left_out, exclusion, single, single_or_bounds}
use Rattle.pep508_marker_text_laws.specs.Saying.{interval_clause, one_or_intervals, set_clauses}
use Rattle.pep508_marker_text_laws.specs.Simplified.{has_some}
use Rattle.pep508_marker_text_laws.proofs.Removals.{second_holds}
use Rattle.pep508_reading_back.proofs.WritableSimplified.{IsSome}

-- some clause has a comparison
abbrev pub HasTerm : List Clause → Type 0
HasTerm clauses = list_any has_some clauses ≡ true

first_term : (clause : Clause) (clauses : List Clause) → IsSome clause → HasTerm (clause ∷ clauses)
first_term clause clauses h = ap (λ b. b || list_any has_some clauses) h

pub term_behind : (ones others : List Clause) → HasTerm others → HasTerm (ones ++ others)
term_behind [] others h = h
term_behind (one ∷ ones) others h =
    second_holds (has_some one) (list_any has_some (ones ++ others)) (term_behind ones others h)

pub term_in_front : (ones others : List Clause) → HasTerm ones → HasTerm (ones ++ others)
term_in_front ([] ∷ ones) others h = term_in_front ones others h
term_in_front ((term ∷ terms) ∷ ones) others h = refl
term_in_front [] others h = absurd (cc)

-- clauses with a comparison, followed by some clauses
pub followed_term : (others ones : List Clause) → IsSome others → HasTerm ones →
    HasTerm (followed_by others ones)
followed_term [] ones h k = absurd (cc)
followed_term (other ∷ others) [] h k = absurd (cc)
followed_term (other ∷ others) ([] ∷ ones) h k =
    term_behind (map (λ more. [] ++ more) (other ∷ others)) (followed_by (other ∷ others) ones)
    (followed_term (other ∷ others) ones h k)
followed_term (other ∷ others) ((term ∷ terms) ∷ ones) h k = refl

module _ {T : Type 0} (say : Saying T) where
  -- ---- intervals with a bound

  from_some : (o : Option ExpressionRecord) (b : Boundary T) (upper : Bound T) →
      IsSome (single_or_bounds say o (lower_bound_at (point_of b)) upper)
  from_some (Some term) b upper = refl
  from_some None (boundary.At v) upper = refl
  from_some None (boundary.JustAbove v) upper = refl

  to_some : (b : Boundary T) → IsSome (interval_clause say (Unbounded, upper_bound_at (point_of b)))
  to_some (boundary.At v) = refl
  to_some (boundary.JustAbove v) = refl

  -- ---- what is left out

  left_some : (v : T) (later : Option (List T)) (same : Bool) (clause : Clause) →
      option_or (option_map (map say.differs) (if same then option_map (λ vs. v ∷ vs) later else None)) None
      ≡ Some clause → IsSome clause
  left_some v later false clause e = absurd (cc)
  left_some v None true clause e = absurd (cc)
  left_some v (Some vs) true clause e =
      let is : map say.differs (v ∷ vs) ≡ clause = cc in subst IsSome is refl

  star_some : (term : Option ExpressionRecord) (clause : Clause) →
      option_map (λ t. t ∷ []) term ≡ Some clause → IsSome clause
  star_some None clause e = absurd (cc)
  star_some (Some term) clause e = let is : term ∷ [] ≡ clause = cc in subst IsSome is refl

  out_some : (b : Boundary T) (turns : List (Point T)) (clause : Clause) →
      exclusion say (BelowAll ∷ point_of b ∷ turns) ≡ Some clause → IsSome clause
  out_some (boundary.JustAbove v) turns clause e = absurd (cc)
  out_some (boundary.At v) [] clause e = absurd (cc)
  out_some (boundary.At v) (BelowAll ∷ turns) clause e = absurd (cc)
  out_some (boundary.At v) (JustAbove w ∷ turns) clause e =
      left_some v (left_out say.cmp turns) (eq_by_cmp say.cmp v w) clause e
  out_some (boundary.At v) (At w ∷ []) clause e = star_some (say.no_star v w) clause e
  out_some (boundary.At v) (At w ∷ turn ∷ turns) clause e = absurd (cc)

  -- ---- sets

  all_but_term : (b : Boundary T) (turns : List (Point T)) (out : Option Clause) →
      exclusion say (BelowAll ∷ point_of b ∷ turns) ≡ out →
      HasTerm (one_or_intervals say (BelowAll ∷ point_of b ∷ turns) out)
  all_but_term b turns (Some clause) e = first_term clause [] (out_some b turns clause e)
  all_but_term b turns None e =
      first_term (interval_clause say (Unbounded, upper_bound_at (point_of b)))
      (map (interval_clause say) (intervals turns)) (to_some b)

  none_below : (b : Boundary T) (turns : List (Point T)) → exclusion say (point_of b ∷ turns) ≡ None
  none_below (boundary.At v) turns = refl
  none_below (boundary.JustAbove v) turns = refl

  from_term : (b : Boundary T) (turns : List (Point T)) →
      HasTerm (one_or_intervals say (point_of b ∷ turns) None)
  from_term b [] =
      first_term (interval_clause say (lower_bound_at (point_of b), Unbounded)) []
      (from_some (single say (lower_bound_at (point_of b)) Unbounded) b Unbounded)
  from_term b (turn ∷ turns) =
      first_term (interval_clause say (lower_bound_at (point_of b), upper_bound_at turn))
      (map (interval_clause say) (intervals turns))
      (from_some (single say (lower_bound_at (point_of b)) (upper_bound_at turn)) b (upper_bound_at turn))

  -- a set whose membership turns at some boundary
  pub set_term_some : (held : Bool) (b : Boundary T) (later : List (Boundary T)) →
      HasTerm (set_clauses say (turns_of held (b ∷ later)))
  set_term_some true b later = all_but_term b (map point_of later) _ refl
  set_term_some false b later =
      subst (λ out. HasTerm (one_or_intervals say (point_of b ∷ map point_of later) out))
      (sym (none_below b (map point_of later))) (from_term b (map point_of later))

-- where a test turns at the first boundary
pub first_turn : {T C : Type 0} (test : C → Bool) (first : C) (branch : Branch T C)
    (later : List (Branch T C)) → flips (test first) (test branch.child) ≡ true →
    points_where test first (branch ∷ later)
    ≡ turns_of (test first) (branch.boundary ∷ turning test (test branch.child) later)
first_turn test first branch later turns =
    ap (λ b. turns_of (test first) (cond b (branch.boundary ∷ turning test (test branch.child) later)
    (turning test (test first) later))) turns
