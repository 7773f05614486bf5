-- Two trees that are compared edge by edge.
use Rattle.std.specs.Prelude.{◌≡◌, ℕ, ◌+◌, ◌<◌, ◌^◌, List, drop, Some}
use Rattle.std.specs.List.{slice_get}
use Rattle.std.specs.Cmp.Lexicographic.{slice_cmp}
use Rattle.std.specs.declared.cmp.Ordering.TheVariants.{Equal}
use Rattle.pep508_evaluation.specs.Steps.{children_of}
use Rattle.pep508_tree.specs.Meaning.{NodeRecord, diagram_of, IsTree}
use Rattle.pep508_tree.specs.Roots.{root_of}
use Rattle.pep508_tree.specs.Tree.{Tree}
use Rattle.pep508_tree_ref.specs.declared.order_walk.Step.{Step}
use Rattle.pep508_tree_ref.specs.declared.order_walk.Step.TheVariants.{Decided, Down}
use Rattle.pep508_tree_ref.specs.Sides.{ends_of, end_cmp, root_sides, side_cmp}
use Rattle.pep508_tree_ref.specs.TreeOrder.{diagram_cmp}

module _ (nodes others : List NodeRecord) where
  -- the order of the edges is that of those from a place on
  abbrev pub TieBefore : Tree → Tree → ℕ → Type 0
  TieBefore tree other edge =
      slice_cmp side_cmp (root_sides nodes tree) (root_sides others other)
      ≡ slice_cmp side_cmp (drop edge (root_sides nodes tree)) (drop edge (root_sides others other))

  -- the edges at the place lead to these children, and have equal ends
  pub record LeadTo (tree other : Tree) (edge : ℕ) (child other_child : Tree) : Type 0 where
    pub child_is : Some child ≡ slice_get (children_of (root_of nodes tree)) edge
    pub other_is : Some other_child ≡ slice_get (children_of (root_of others other)) edge
    pub level : end_cmp (slice_get (ends_of (root_of nodes tree)) edge)
        (slice_get (ends_of (root_of others other)) edge) ≡ Equal
    pub made : IsTree nodes child
    pub other_made : IsTree others other_child
    pub falls : child.place < tree.place
    pub fits : edge + 1 < 2 ^ 64

  -- what a step says of the edges at the place
  abbrev pub Tells : Tree → Tree → ℕ → Step → Type 0
  Tells tree other edge (Decided order) =
      order ≡ diagram_cmp (diagram_of nodes tree) (diagram_of others other)
  Tells tree other edge (Down child other_child) = LeadTo tree other edge child other_child
