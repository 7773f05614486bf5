-- Edges side by side, and the one that holds a point.
use Rattle.std.proofs.Common.{◌≡◌, Bool, true, false, not, ◌&&◌, cond, List, [], ◌∷◌, map, refl, ap, sym}
use Rattle.std.proofs.Common.{subst, ◌∙◌}
use Rattle.std.specs.List.{AllByRecursion}
use Rattle.std.specs.declared.cmp.Ordering.{Ordering}
use Rattle.std.specs.declared.cmp.Ordering.TheVariants.{Less}
use Rattle.std.specs.declared.ops.Bound.{Bound}
use Rattle.std.specs.declared.ops.Bound.TheVariants.{Unbounded}
use Rattle.std.specs.Cmp.{IsTotalOrder}
use Rattle.version_ranges.specs.declared.boundary.Boundary.{Boundary}
use Rattle.version_ranges.specs.declared.boundary.Boundary.TheVariants as boundary
use Rattle.version_ranges.specs.Point.{Point, BelowAll, At, JustAbove, point_cmp}
use Rattle.version_ranges.specs.Boundaries.{point_of, boundary_cmp}
use Rattle.version_ranges.specs.Turns.{reaches, Rising}
use Rattle.version_ranges.specs.Bounds.{goes_on_to, lower_bound_at, upper_bound_at}
use Rattle.version_ranges.specs.Order.{start_point, end_points}
use Rattle.version_ranges.specs.OrderLaws.{points_total}
use Rattle.version_ranges.proofs.Membership.{before_less}
use Rattle.version_ranges.proofs.Reading.{LiesAtValue, starts_at, goes_to, is_greater}
use Rattle.pep508_diagram.specs.declared.branch.Branch.{Branch}
use Rattle.pep508_tree.specs.Tree.{Tree}
use Rattle.pep508_diagram.specs.Branches.{RisingBranches, branch_at, NeighboursDiffer}
use Rattle.pep508_view.specs.Edges.{EdgeOf, edges_from, edges}
use Rattle.pep508_view.specs.Reading.{BeginsBelowAll, AreAdjoining, LeadApart, starts, edge_holds, JustOne}
use Rattle.pep508_view.specs.Reading.{SpanAll}

-- ---- how edges lie

module _ {T : Type 0} where
  at_value : (b : Boundary T) → LiesAtValue (point_of b)
  at_value (boundary.At v) = tt
  at_value (boundary.JustAbove v) = tt

  begins_at : (start : Point T) → start_point (lower_bound_at start) ≡ start
  begins_at BelowAll = refl
  begins_at (At v) = refl
  begins_at (JustAbove v) = refl

  ends_at : (b : Boundary T) →
      end_points (upper_bound_at (point_of b)) ≡ start_point (lower_bound_at (point_of b)) ∷ []
  ends_at (boundary.At v) = refl
  ends_at (boundary.JustAbove v) = refl

  pub adjoin_from : (lower : Bound T) (first : Tree) (later : List (Branch T Tree)) →
      AreAdjoining (edges_from lower first later)
  adjoin_from lower first [] = refl
  adjoin_from lower first (b ∷ []) = (ends_at b.boundary, refl)
  adjoin_from lower first (b ∷ c ∷ later) =
      (ends_at b.boundary, adjoin_from (lower_bound_at (point_of b.boundary)) b.child (c ∷ later))

  pub lead_apart : (lower : Bound T) (first : Tree) (later : List (Branch T Tree)) →
      NeighboursDiffer first later → LeadApart (edges_from lower first later)
  lead_apart lower first [] h = tt
  lead_apart lower first (b ∷ []) h = (h.0, tt)
  lead_apart lower first (b ∷ c ∷ later) h =
      (h.0, lead_apart (lower_bound_at (point_of b.boundary)) b.child (c ∷ later) h.1)

  starts_from : (start : Point T) (first : Tree) (later : List (Branch T Tree)) →
      starts (edges_from (lower_bound_at start) first later)
      ≡ start ∷ map point_of (map (λ branch. branch.boundary) later)
  starts_from start first [] = ap (λ p. p ∷ []) (begins_at start)
  starts_from start first (b ∷ later) =
      (λ i. begins_at start i ∷ starts_from (point_of b.boundary) b.child later i)

module _ {T : Type 0} (cmp : T → T → Ordering) (o : IsTotalOrder cmp) where
  points : IsTotalOrder (point_cmp cmp)
  points = points_total cmp o

  below_all : (b : Boundary T) → point_cmp cmp BelowAll (point_of b) ≡ Less
  below_all (boundary.At v) = refl
  below_all (boundary.JustAbove v) = refl

  below_each : (boundaries : List (Boundary T)) →
      AllByRecursion (λ b. point_cmp cmp BelowAll (point_of b) ≡ Less) boundaries
  below_each [] = tt
  below_each (b ∷ boundaries) = (below_all b, below_each boundaries)

  less_points : (start : Point T) (boundaries : List (Boundary T)) →
      AllByRecursion (λ b. point_cmp cmp start (point_of b) ≡ Less) boundaries →
      AllByRecursion (λ p. point_cmp cmp start p ≡ Less) (map point_of boundaries)
  less_points start [] h = tt
  less_points start (b ∷ boundaries) h = (h.0, less_points start boundaries h.1)

  rising_points : (boundaries : List (Boundary T)) → Rising (boundary_cmp cmp) boundaries →
      Rising (point_cmp cmp) (map point_of boundaries)
  rising_points [] h = tt
  rising_points (b ∷ boundaries) h =
      (less_points (point_of b) boundaries h.0, rising_points boundaries h.1)

  rise_from : (first : Tree) (later : List (Branch T Tree)) → RisingBranches cmp later →
      Rising (point_cmp cmp) (starts (edges first later))
  rise_from first later h =
      let boundaries : List (Boundary T) = map (λ branch. branch.boundary) later in
      subst (Rising (point_cmp cmp)) (sym (starts_from BelowAll first later))
      (less_points BelowAll boundaries (below_each boundaries), rising_points boundaries h)

  begins : (first : Tree) (later : List (Branch T Tree)) → BeginsBelowAll (edges first later)
  begins first [] = refl
  begins first (b ∷ later) = refl

  pub span_all : (first : Tree) (later : List (Branch T Tree)) → RisingBranches cmp later →
      SpanAll cmp (edges first later)
  span_all first later h = record {
    begin = begins first later;
    adjoin = adjoin_from Unbounded first later;
    rise = rise_from first later h;
  }

  -- ---- the edge that holds a point

  abbrev reached : Point T → Point T → Bool
  reached start p = reaches (point_cmp cmp) start p

  abbrev IsBefore : Point T → List (Branch T Tree) → Type 0
  IsBefore start later =
      AllByRecursion (λ b. point_cmp cmp start (point_of b) ≡ Less) (map (λ branch. branch.boundary) later)

  -- what comes before a point comes before all behind that
  not_reached : (start next p : Point T) → point_cmp cmp start next ≡ Less → reached start p ≡ false →
      reached next p ≡ false
  not_reached start next p less h =
      before_less (point_cmp cmp) points next start p (is_greater cmp o (point_cmp cmp start p) h) less

  -- an edge that begins behind a point doesn't hold it
  starts_behind : (start : Point T) (upper : Bound T) (tree : Tree) (p : Point T) → reached start p ≡ false →
      edge_holds cmp (record { lower = lower_bound_at start; upper = upper; tree = tree }) p ≡ false
  starts_behind start upper tree p h = ap (λ s. s && goes_on_to cmp upper p) (starts_at cmp o start p ∙ h)

  none_before : (start : Point T) (first : Tree) (later : List (Branch T Tree)) (p : Point T) →
      RisingBranches cmp later → IsBefore start later → reached start p ≡ false →
      AllByRecursion (λ edge. edge_holds cmp edge p ≡ false) (edges_from (lower_bound_at start) first later)
  none_before start first [] p rising below h = (starts_behind start Unbounded first p h, tt)
  none_before start first (b ∷ later) p rising below h = (
    starts_behind start (upper_bound_at (point_of b.boundary)) first p h,
    none_before (point_of b.boundary) b.child later p rising.1 rising.0
        (not_reached start (point_of b.boundary) p below.0 h),
  )

  -- the edge from a place up to a boundary
  abbrev edge_to : Point T → Boundary T → Tree → EdgeOf T
  edge_to start b tree =
      record { lower = lower_bound_at start; upper = upper_bound_at (point_of b); tree = tree }

  -- an edge that has begun holds a point where it has not ended
  goes_up : (start : Point T) (b : Boundary T) (tree : Tree) (p : Point T) → reached start p ≡ true →
      edge_holds cmp (edge_to start b tree) p ≡ not (reached (point_of b) p)
  goes_up start b tree p h =
      ap (λ s. s && goes_on_to cmp (upper_bound_at (point_of b)) p) (starts_at cmp o start p ∙ h)
      ∙ goes_to cmp o (point_of b) p (at_value b)

  -- one that leads to a weaker condition
  pub weaker_lead : (edges : List (EdgeOf T)) (p : Point T) (P Q : Tree → Type 0) →
      ((tree : Tree) → P tree → Q tree) → JustOne cmp edges p P → JustOne cmp edges p Q
  weaker_lead edges p P Q weaker one = record {
    before = one.before;
    edge = one.edge;
    after = one.after;
    parts = one.parts;
    inside = one.inside;
    others = one.others;
    leads = weaker one.edge.tree one.leads;
  }

  -- one that holds the point before others that don't
  taken : (edge : EdgeOf T) (later : List (EdgeOf T)) (p : Point T) (P : Tree → Type 0) →
      edge_holds cmp edge p ≡ true → AllByRecursion (λ other. edge_holds cmp other p ≡ false) later →
      P edge.tree → JustOne cmp (edge ∷ later) p P
  taken edge later p P inside others leads = record {
    before = [];
    edge = edge;
    after = later;
    parts = refl;
    inside = inside;
    others = others;
    leads = leads;
  }

  -- one that doesn't before others of which one does
  passed : (edge : EdgeOf T) (later : List (EdgeOf T)) (p : Point T) (P Q : Tree → Type 0) →
      edge_holds cmp edge p ≡ false → JustOne cmp later p P → ((tree : Tree) → P tree → Q tree) →
      JustOne cmp (edge ∷ later) p Q
  passed edge later p P Q outside one weaker = record {
    before = edge ∷ one.before;
    edge = one.edge;
    after = one.after;
    parts = ap (λ es. edge ∷ es) one.parts;
    inside = one.inside;
    others = (outside, one.others);
    leads = weaker one.edge.tree one.leads;
  }

  branch_from : (start : Point T) (first : Tree) (b : Branch T Tree) (later : List (Branch T Tree))
      (p : Point T) → RisingBranches cmp (b ∷ later) → reached start p ≡ true →
      (reached (point_of b.boundary) p ≡ true →
      JustOne cmp (edges_from (lower_bound_at (point_of b.boundary)) b.child later) p
      (λ tree. tree ≡ branch_at cmp b.child later p)) →
      (r : Bool) → reached (point_of b.boundary) p ≡ r →
      JustOne cmp (edges_from (lower_bound_at start) first (b ∷ later)) p
      (λ tree. tree ≡ branch_at cmp first (b ∷ later) p)
  branch_from start first b later p rising h one true e =
      passed (edge_to start b.boundary first)
      (edges_from (lower_bound_at (point_of b.boundary)) b.child later) p
      (λ tree. tree ≡ branch_at cmp b.child later p) (λ tree. tree ≡ branch_at cmp first (b ∷ later) p)
      (goes_up start b.boundary first p h ∙ ap not e) (one e)
      (λ tree k. k ∙ sym (ap (λ r. cond r (branch_at cmp b.child later p) first) e))
  branch_from start first b later p rising h one false e =
      taken (edge_to start b.boundary first)
      (edges_from (lower_bound_at (point_of b.boundary)) b.child later) p
      (λ tree. tree ≡ branch_at cmp first (b ∷ later) p)
      (goes_up start b.boundary first p h ∙ ap not e)
      (none_before (point_of b.boundary) b.child later p rising.1 rising.0 e)
      (sym (ap (λ r. cond r (branch_at cmp b.child later p) first) e))

  pub one_from : (start : Point T) (first : Tree) (later : List (Branch T Tree)) (p : Point T) →
      RisingBranches cmp later → IsBefore start later → reached start p ≡ true →
      JustOne cmp (edges_from (lower_bound_at start) first later) p
      (λ tree. tree ≡ branch_at cmp first later p)
  one_from start first [] p rising below h =
      taken (record { lower = lower_bound_at start; upper = Unbounded; tree = first }) [] p
      (λ tree. tree ≡ branch_at cmp first [] p)
      (ap (λ s. s && true) (starts_at cmp o start p ∙ h)) tt refl
  one_from start first (b ∷ later) p rising below h =
      branch_from start first b later p rising h
      (λ e. one_from (point_of b.boundary) b.child later p rising.1 rising.0 e)
      (reached (point_of b.boundary) p) refl

  reached_by_all : (p : Point T) → reached BelowAll p ≡ true
  reached_by_all BelowAll = refl
  reached_by_all (At v) = refl
  reached_by_all (JustAbove v) = refl

  pub one_holds : (first : Tree) (later : List (Branch T Tree)) (p : Point T) → RisingBranches cmp later →
      JustOne cmp (edges first later) p (λ tree. tree ≡ branch_at cmp first later p)
  one_holds first later p rising =
      one_from BelowAll first later p rising (below_each (map (λ branch. branch.boundary) later))
      (reached_by_all p)
