-- The edges of a node: the children between neighbouring endpoints, with the interval between these.
use Rattle.std.specs.Prelude.{Bool, true, false, List, [], ◌∷◌, map, Option, Some, None}
use Rattle.std.specs.Borrow.{Bor}
use Rattle.std.specs.Range.Bound.{bound_map}
use Rattle.std.specs.declared.ops.Bound.{Bound}
use Rattle.std.specs.declared.ops.Bound.TheVariants.{Unbounded}
use Rattle.version_ranges.specs.Boundaries.{point_of}
use Rattle.version_ranges.specs.Bounds.{lower_bound_at, upper_bound_at}
use Rattle.pep508_diagram.specs.declared.branch.Branch.{Branch}
use Rattle.pep508_view.specs.declared.edge.Edge.{Edge}
use Rattle.pep508_tree.specs.Tree.{Tree}
use Rattle.pep508_tree.specs.Nodes.{turned_branch}

-- a tree, and the bounds between which it is the child
pub record EdgeOf (T : Type 0) : Type 0 where
  pub lower : Bound T
  pub upper : Bound T
  pub tree : Tree

-- the edges from a lower bound on, the first of them to the first tree
abbrev pub edges_from : {T : Type 0} → Bound T → Tree → List (Branch T Tree) → List (EdgeOf T)
edges_from lower first [] = record { lower = lower; upper = Unbounded; tree = first } ∷ []
edges_from lower first (branch ∷ later) =
    record { lower = lower; upper = upper_bound_at (point_of branch.boundary); tree = first }
    ∷ edges_from (lower_bound_at (point_of branch.boundary)) branch.child later

-- the edges of a first tree and of others from rising endpoints on
abbrev pub edges : {T : Type 0} → Tree → List (Branch T Tree) → List (EdgeOf T)
edges first later = edges_from Unbounded first later

-- branches, with each child negated where the flag is set
abbrev pub turned_branches : {T : Type 0} → Bool → List (Branch T Tree) → List (Branch T Tree)
turned_branches true later = map turned_branch later
turned_branches false later = later

-- the edge that one with borrowed bounds shows
abbrev pub lent_edge : {T : Type 0} → Edge (Bor T) → EdgeOf T
lent_edge edge = record {
  lower = bound_map (λ v. v.now) edge.lower;
  upper = bound_map (λ v. v.now) edge.upper;
  tree = edge.tree;
}

-- the remaining edges of a node: from the next lower bound on, if there is one
abbrev pub edges_left : {T : Type 0} → Option (Bound (Bor T) × Tree) → List (Branch T Tree) → List (EdgeOf T)
edges_left None later = []
edges_left (Some next) later = edges_from (bound_map (λ v. v.now) next.0) next.1 later
