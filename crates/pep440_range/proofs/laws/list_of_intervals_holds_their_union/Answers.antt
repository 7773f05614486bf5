use Rattle.std.proofs.Common.{◌∷◌}
use Rattle.pep440_specifier_list.specs.ListBounds.{list_specifiers}
use Rattle.pep440_range.specs.Intervals.{is_in_one}
use Rattle.pep440_range.proofs.Unions.{say_union}
use Rattle.pep440_range.proofs.InOrder.{say_in_order}
use Rattle.pep440_range.proofs.laws.list_of_intervals_holds_their_union.Goals as goal

pub returns : goal.returns
returns c = λ first later members release numbers behind said order.
    say_in_order (list_specifiers (first ∷ later)) members (is_in_one (first ∷ later)) order
    (say_union first later release numbers behind said)
