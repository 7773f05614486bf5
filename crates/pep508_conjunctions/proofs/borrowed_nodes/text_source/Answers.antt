use Rattle.std.proofs.Common.{sym, ◌∙◌}
use Rattle.pep508_conjunctions.proofs.Sources.{text_is_source}
use Rattle.pep508_conjunctions.proofs.borrowed_nodes.text_source.Goals as goal

pub returns-then-are_constant : goal.returns-then-are_constant
returns-then-are_constant c =
    text_is_source c.args.interner.now.nodes c.args.key c.in-Texts.own
    (sym c.text_rank.ensures ∙ c.if-text_rank.true ∙ c.text_rank-in-Texts.ensures)
    c.args.negated c.args.tree c.turned.result c.turned.ensures
    record { first = c.truth_in.result; later = c.in-Texts.children.later; negated = c.in-Texts.children.negated }
    c.in-Texts.children.first c.truth_in.ensures (c.are_constant.ensures c.if-are_constant.true)
    c.in-Texts.ensures.root
