-- Numbers of trees, from 0 on.
use Rattle.std.specs.Prelude.{◌≡◌, ℕ, ◌+◌, Bool, cond, List, [], ◌∷◌, Option, Some, None}
use Rattle.std.specs.declared.cmp.Ordering.{Ordering}
use Rattle.std.specs.Ordering.{is_eq, nat_cmp, bool_cmp, ordering_then}
use Rattle.std.specs.BTreeMap.{BTreeMap, get}
use Rattle.pep508_tree.specs.Tree.{Tree}

-- the order of names of trees, a place and whether it is negated
abbrev pub name_cmp : ℕ × Bool → ℕ × Bool → Ordering
name_cmp x y = ordering_then (nat_cmp x.0 y.0) (bool_cmp x.1 y.1)

-- the number of a tree of this name among some, which are numbered from n on; where none is it `found`
abbrev pub number_in : ℕ → Option ℕ → List Tree → ℕ × Bool → Option ℕ
number_in n found [] name = found
number_in n found (tree ∷ trees) name =
    number_in (n + 1) (cond (is_eq (name_cmp (tree.place, tree.negated) name)) (Some n) found) trees name

-- the map has the numbers of these trees, and no others
abbrev pub AreNumbers : List Tree → BTreeMap (ℕ × Bool) ℕ → Type 0
AreNumbers trees places = (name : ℕ × Bool) → get name_cmp places name ≡ number_in 0 None trees name
