-- Branches whose children are given anew, in order.
use Rattle.std.specs.Prelude.{Bool, cond, List, [], ◌∷◌}
use Rattle.pep508_diagram.specs.declared.branch.Branch.{Branch}

module _ {C D : Type 0} (same : D → D → Bool) where
  -- branches at the same boundaries, with these children; one on both sides of a boundary stands once
  abbrev pub joined_by : {T : Type 0} → D → List (Branch T C) → List D → List (Branch T D)
  joined_by last [] children = []
  joined_by last (branch ∷ later) [] = []
  joined_by last (branch ∷ later) (child ∷ children) =
      cond (same child last) (joined_by last later children)
      (record { boundary = branch.boundary; child = child } ∷ joined_by child later children)
