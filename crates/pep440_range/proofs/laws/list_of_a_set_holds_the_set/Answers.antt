use Rattle.std.proofs.Common.{◌∷◌, ◌∙◌, ap, sym}
use Rattle.pep440_specifier_list.specs.ListBounds.{list_specifiers}
use Rattle.pep440_range.specs.Intervals.{is_in_one}
use Rattle.pep440_range.proofs.Intervals.{say_as}
use Rattle.pep440_range.proofs.Unions.{say_union}
use Rattle.pep440_range.proofs.InOrder.{say_in_order}
use Rattle.pep440_range.proofs.SetIntervals.{intervals_behind}
use Rattle.version_ranges.specs.Held.{holds_at}
use Rattle.pep440_version.specs.Order.{version_cmp}
use Rattle.pep440_range.proofs.laws.list_of_a_set_holds_the_set.Goals as goal

pub returns : goal.returns
returns c = λ set first later members normal shown release numbers said order.
    let behind = intervals_behind set first later normal shown in
    say_as members (is_in_one (first ∷ later)) (holds_at version_cmp set)
    (say_in_order (list_specifiers (first ∷ later)) members (is_in_one (first ∷ later)) order
    (say_union first later release numbers behind said))
    (λ p. ap (λ xs. is_in_one xs p) (sym shown) ∙ c.intervals_hold_the_set.ensures set p normal)
