-- How the edges of a node lie side by side, and which of them holds a point.
use Rattle.std.specs.Prelude.{◌≡◌, Bool, true, false, List, [], ◌∷◌, ◌++◌, map}
use Rattle.std.specs.List.{AllByRecursion}
use Rattle.std.specs.declared.cmp.Ordering.{Ordering}
use Rattle.std.specs.declared.ops.Bound.TheVariants.{Unbounded}
use Rattle.version_ranges.specs.Point.{Point, point_cmp}
use Rattle.version_ranges.specs.Turns.{Rising}
use Rattle.version_ranges.specs.Bounds.{is_within}
use Rattle.version_ranges.specs.Order.{start_point, end_points}
use Rattle.pep508_tree.specs.Tree.{Tree}
use Rattle.pep508_view.specs.Edges.{EdgeOf}

-- there is a first edge, which has no lower bound
abbrev pub BeginsBelowAll : {T : Type 0} → List (EdgeOf T) → Type 0
BeginsBelowAll [] = ⊥
BeginsBelowAll (edge ∷ later) = edge.lower ≡ Unbounded

-- each edge ends where the next one begins, and the last has no end
abbrev pub AreAdjoining : {T : Type 0} → List (EdgeOf T) → Type 0
AreAdjoining [] = Unit {0}
AreAdjoining (edge ∷ []) = edge.upper ≡ Unbounded
AreAdjoining (edge ∷ next ∷ later) =
    (end_points edge.upper ≡ start_point next.lower ∷ []) × AreAdjoining (next ∷ later)

-- neighbouring edges lead to different trees
abbrev pub LeadApart : {T : Type 0} → List (EdgeOf T) → Type 0
LeadApart [] = Unit {0}
LeadApart (edge ∷ []) = Unit {0}
LeadApart (edge ∷ next ∷ later) = (edge.tree ≡ next.tree → ⊥) × LeadApart (next ∷ later)

-- the points at which edges begin
abbrev pub starts : {T : Type 0} → List (EdgeOf T) → List (Point T)
starts edges = map (λ edge. start_point edge.lower) edges

module _ {T : Type 0} (cmp : T → T → Ordering) where
  -- the point lies between the edge's bounds
  abbrev pub edge_holds : EdgeOf T → Point T → Bool
  edge_holds edge p = is_within cmp (edge.lower, edge.upper) p

  -- just one of the edges holds the point, and its subtree meets the condition
  pub record JustOne (edges : List (EdgeOf T)) (p : Point T) (P : Tree → Type 0) : Type 0 where
    pub before : List (EdgeOf T)
    pub edge : EdgeOf T
    pub after : List (EdgeOf T)
    pub parts : edges ≡ before ++ edge ∷ after
    pub inside : edge_holds edge p ≡ true
    pub others : AllByRecursion (λ other. edge_holds other p ≡ false) (before ++ after)
    pub leads : P edge.tree

  -- edges cover all points from below all on, rising, each ending where the next one begins
  pub record SpanAll (edges : List (EdgeOf T)) : Type 0 where
    pub begin : BeginsBelowAll edges
    pub adjoin : AreAdjoining edges
    pub rise : Rising (point_cmp cmp) (starts edges)
