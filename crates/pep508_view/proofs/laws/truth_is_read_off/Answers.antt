use Rattle.std.proofs.Common.{refl, arith}
use Rattle.pep508_tree.specs.Tree.{always, never}
use Rattle.pep508_view.proofs.ReadOff.{read_off}
use Rattle.pep508_view.proofs.laws.truth_is_read_off.Goals as goal

pub returns : goal.returns
returns c =
    read_off c.args.interner.now.nodes c.args.tree
    ((c.constants_are_named.ensures.truth always (omega arith)).0 refl)
    ((c.constants_are_named.ensures.falsehood never (omega arith)).0 refl) c.kind.ensures.root
