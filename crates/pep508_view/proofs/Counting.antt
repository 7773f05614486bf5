-- How many edges there are.
use Rattle.std.proofs.Common.{◌≡◌, ◌+◌, length, arith, Bool, true, false, List, [], ◌∷◌, refl}
use Rattle.std.proofs.lemmas.List.{length-map}
use Rattle.std.specs.declared.ops.Bound.{Bound}
use Rattle.version_ranges.specs.Boundaries.{point_of}
use Rattle.version_ranges.specs.Bounds.{lower_bound_at}
use Rattle.pep508_diagram.specs.declared.branch.Branch.{Branch}
use Rattle.pep508_tree.specs.Tree.{Tree}
use Rattle.pep508_tree.specs.Nodes.{turned_branch}
use Rattle.pep508_view.specs.Edges.{edges_from, turned_branches}

module _ {T : Type 0} where
  pub length-edges : (lower : Bound T) (first : Tree) (later : List (Branch T Tree)) →
      length (edges_from lower first later) ≡ length later + 1
  length-edges lower first [] = refl
  length-edges lower first (branch ∷ later) =
      omega (arith, length-edges (lower_bound_at (point_of branch.boundary)) branch.child later)

  length-turned : (negated : Bool) (later : List (Branch T Tree)) →
      length (turned_branches negated later) ≡ length later
  length-turned true later = length-map later turned_branch
  length-turned false later = refl

  pub count_edges : (lower : Bound T) (first : Tree) (negated : Bool) (later : List (Branch T Tree)) →
      length (edges_from lower first (turned_branches negated later)) ≡ length later + 1
  count_edges lower first negated later =
      omega (arith, length-edges lower first (turned_branches negated later), length-turned negated later)
