-- The trees between the endpoints of a node.
use Rattle.std.specs.Prelude.{◌==◌, ◌&&◌, Bool, cond, List, [], ◌∷◌, ◌++◌}
use Rattle.std.specs.List.{list_any}
use mathlib.Core.Bool.{beq}
use Rattle.version_ranges.specs.Turns.{flips}
use Rattle.pep508_tree.specs.Tree.{Tree}

-- the trees have the same place and negation, and so are the same
abbrev pub same_tree : Tree → Tree → Bool
same_tree a b = (a.place == b.place) && beq a.negated b.negated

-- a tree is the given one; where the flag is set, it is another one
abbrev pub is_at : Tree → Bool → Tree → Bool
is_at tree outside child = flips outside (same_tree tree child)

-- trees with one more, unless it is one of them
abbrev pub with_tree : List Tree → Tree → List Tree
with_tree trees tree = cond (list_any (λ other. same_tree other tree) trees) trees (trees ++ tree ∷ [])
