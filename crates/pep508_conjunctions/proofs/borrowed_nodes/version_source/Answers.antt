use Rattle.pep508_conjunctions.proofs.Sources.{version_is_source}
use Rattle.pep508_conjunctions.proofs.borrowed_nodes.version_source.Goals as goal

pub returns-then-are_constant : goal.returns-then-are_constant
returns-then-are_constant c =
    version_is_source c.args.interner.now.nodes c.args.key c.in-Versions.own (c.is_same.ensures c.if-is_same.true)
    c.args.negated c.args.tree c.turned.result c.turned.ensures
    record { first = c.truth_in.result; later = c.in-Versions.children.later; negated = c.in-Versions.children.negated }
    c.in-Versions.children.first c.truth_in.ensures (c.are_constant.ensures c.if-are_constant.true)
    c.in-Versions.ensures.root
