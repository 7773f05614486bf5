-- When views are equal: where they are views of one tree.
use Rattle.std.specs.Prelude.{Bool, nat_eq}
use Rattle.std.specs.Ordering.{on, eq_of_both}
use mathlib.Core.Bool.{beq}
use Rattle.pep508_tree.specs.Tree.{Tree}

-- the trees are named alike
abbrev pub tree_eq : Tree → Tree → Bool
tree_eq = eq_of_both (on (λ tree. tree.place) nat_eq) (on (λ tree. tree.negated) beq)
