use Rattle.std.proofs.Common.{◌∙◌, ap}
use Rattle.pep508_disjointness.specs.Left.{with_pairs}
use Rattle.pep508_disjointness.proofs.Looking.{replaced_by_pairs}
use Rattle.pep508_disjointness.proofs.disjointness.look_at.Goals as goal

pub returns-in_ok-add_pairs-in-None-clause-on : goal.returns-in_ok-add_pairs-in-None-clause-on
returns-in_ok-add_pairs-in-None-clause-on c may =
    replaced_by_pairs c.args.interner.now.nodes c.args.asked c.args.left.now.keys c.add_pairs.new.left.keys
    c.in_ok-pairs-in-None.pairs.items c.in_ok-pairs-in-None.ensures
    (c.in_ok-add_pairs-in-None.ensures ∙ ap (with_pairs c.args.left.now.keys) c.deref.ensures.value)
