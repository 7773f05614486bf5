-- Diagrams between endpoints: where they begin, that neighbours differ, and when two such lists are
-- alike.
use Rattle.std.specs.Prelude.{◌≡◌, ℕ, List, [], ◌∷◌}
use Rattle.std.specs.declared.cmp.Ordering.{Ordering}
use Rattle.std.specs.declared.cmp.Ordering.TheVariants.{Less, Equal}
use Rattle.version_ranges.specs.Boundaries.{boundary_cmp}
use Rattle.pep508_diagram.specs.declared.branch.Branch.{Branch}
use Rattle.pep508_diagram.specs.Text.{text_cmp}
use Rattle.pep508_diagram.specs.Diagram.{Diagram, Leaf, Test, Asking, IsAlike}
use Rattle.pep508_diagram.specs.Question.{Question, place_of}

-- a diagram first tests a variable after the place of another
abbrev pub RootBehind : List ℕ → Diagram Question → Type 0
RootBehind place (Leaf b) = Unit {0}
RootBehind place (Test q low high) = text_cmp place (place_of q) ≡ Less

module _ {T C Q V : Type 0} (ask : Asking Q V) (at : C → Diagram Q) where
  -- no two neighbours have one diagram
  abbrev pub NeighboursApart : C → List (Branch T C) → Type 0
  NeighboursApart first [] = Unit {0}
  NeighboursApart first (branch ∷ later) =
      (IsAlike ask (at first) (at branch.child) → ⊥) × NeighboursApart branch.child later

  -- equally many branches, with equal endpoints and diagrams that are alike, each with each
  abbrev pub AreSameBranches : (T → T → Ordering) → C → List (Branch T C) → C → List (Branch T C) → Type 0
  AreSameBranches cmp first [] other_first [] = IsAlike ask (at first) (at other_first)
  AreSameBranches cmp first [] other_first (other ∷ other_later) = ⊥
  AreSameBranches cmp first (branch ∷ later) other_first [] = ⊥
  AreSameBranches cmp first (branch ∷ later) other_first (other ∷ other_later) =
      IsAlike ask (at first) (at other_first) × (boundary_cmp cmp branch.boundary other.boundary ≡ Equal)
      × AreSameBranches cmp branch.child later other.child other_later
