-- Branches whose children are given anew.
use Rattle.std.proofs.Common.{◌≡◌, Bool, List, [], ◌∷◌, length, refl, arith}
use Rattle.pep508_diagram.specs.declared.branch.Branch.{Branch}
use Rattle.pep508_diagram.specs.Joining.{joined_by}

pub joined_none : {T C D : Type 0} (same : D → D → Bool) (last : D) (later : List (Branch T C)) (children : List D) →
    length children ≡ 0 → joined_by same last later children ≡ []
joined_none same last [] children e = refl
joined_none same last (b ∷ later) [] e = refl
joined_none same last (b ∷ later) (c ∷ children) e = absurd (omega arith)
