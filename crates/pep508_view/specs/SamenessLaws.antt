-- Equality of views is an equivalence.
use Rattle.std.specs.Cmp.{IsEquivalence, on_equiv, and_equiv, nat_eq_equiv, bool_eq_equiv}
use Rattle.pep508_view.specs.Sameness.{tree_eq}

pub tree_eq_equiv : IsEquivalence tree_eq
tree_eq_equiv =
    and_equiv (on_equiv (λ tree. tree.place) nat_eq_equiv) (on_equiv (λ tree. tree.negated) bool_eq_equiv)
