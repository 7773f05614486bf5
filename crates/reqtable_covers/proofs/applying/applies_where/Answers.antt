use Rattle.std.proofs.Common.{◌∙◌, sym}
use Rattle.reqtable_covers.proofs.Applied.{other_package, by_apart}
use Rattle.reqtable_covers.proofs.applying.applies_where.Goals as goal

pub returns-then-not-is_under : goal.returns-then-not-is_under
returns-then-not-is_under c =
    other_package c.args.interner.now.nodes c.args.name.now c.args.tree c.args.line.now
    (sym c.is_under.ensures ∙ c.if-not-is_under.true)

pub returns : goal.returns
returns c =
    by_apart c.args.interner.now.nodes c.args.name.now c.args.tree c.args.line.now c.in_ok-apart.apart
    (sym c.is_under.ensures ∙ c.if-not-is_under.false) c.in_ok-apart.ensures
