-- One pass over two rising lists of branches: which endpoint comes next, the child from it on, and the
-- branches after it.
use Rattle.std.specs.Prelude.{◌≡◌, ◌⊎◌, ◌+◌, ◌<◌, List, ◌∷◌, map, length}
use Rattle.std.specs.List.{AllByRecursion}
use Rattle.std.specs.declared.cmp.Ordering.{Ordering}
use Rattle.std.specs.declared.cmp.Ordering.TheVariants.{Less, Equal}
use Rattle.version_ranges.specs.declared.boundary.Boundary.{Boundary}
use Rattle.version_ranges.specs.Boundaries.{boundary_cmp}
use Rattle.version_ranges.specs.Point.{Point}
use Rattle.pep508_diagram.specs.declared.branch.Branch.{Branch}
use Rattle.pep508_diagram.specs.Branches.{RisingBranches, branch_at, AllBranches}
use Rattle.pep508_diagram.specs.Chains.{IsChild}

module _ {T C : Type 0} (cmp : T → T → Ordering) where
  -- at an endpoint a list goes on to its first branch, whose endpoint equals that one, or stays as it is
  abbrev pub GoesOn : Boundary T → C → List (Branch T C) → C → List (Branch T C) → Type 0
  GoesOn t first later child left =
      ((branch : Branch T C) × (later ≡ branch ∷ left) × (child ≡ branch.child)
      × (boundary_cmp cmp branch.boundary t ≡ Equal))
      ⊎ ((later ≡ left) × (child ≡ first))

  -- an endpoint comes before those of all branches
  abbrev pub ComesBefore : Boundary T → List (Branch T C) → Type 0
  ComesBefore t later = AllByRecursion (λ other. boundary_cmp cmp t other ≡ Less)
      (map (λ branch. branch.boundary) later)

  -- t is the first endpoint of two lists, as far as they rise; child and other_child begin at it, and left
  -- and other_left are the branches after it
  pub record IsNext (t : Boundary T) (first : C) (later : List (Branch T C)) (child : C)
      (left : List (Branch T C))
      (other_first : C) (other_later : List (Branch T C)) (other_child : C) (other_left : List (Branch T C))
      : Type 0 where
    pub goes_on : GoesOn t first later child left
    pub other_goes_on : GoesOn t other_first other_later other_child other_left
    pub before : RisingBranches cmp later → RisingBranches cmp other_later → ComesBefore t left
    pub other_before : RisingBranches cmp later → RisingBranches cmp other_later → ComesBefore t other_left
    pub taken : length left + length other_left < length later + length other_later

  -- pairs of children of two lists, in order, which are those of branches: at each point of these the pair
  -- is that of the first list's child and the second's
  pub record AreChildPairs (first : C) (later : List (Branch T C)) (other_first : C)
      (other_later : List (Branch T C)) (pairs : List (C × C)) : Type 0 where
    pub branches : List (Branch T (C × C))
    pub pairs_are : pairs ≡ (first, other_first) ∷ map (λ branch. branch.child) branches
    pub points : (p : Point T) → branch_at cmp (first, other_first) branches p
        ≡ (branch_at cmp first later p, branch_at cmp other_first other_later p)
    pub rises : RisingBranches cmp branches
    pub children : AllBranches (λ pair. IsChild pair.0 first later × IsChild pair.1 other_first other_later)
        (first, other_first) branches
