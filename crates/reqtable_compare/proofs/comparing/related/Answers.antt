use Rattle.std.proofs.Common.{◌∙◌, Err, map, sym, ap}
use Rattle.reqtable_compare.specs.declared.sides.SameError.TheVariants as errors
use Rattle.reqtable_compare.proofs.Bounded.{by_bounds}
use Rattle.reqtable_compare.proofs.Answering.{refused_is, none_refused, refusal_of, open_at}
use Rattle.reqtable_compare.proofs.comparing.related.Goals as goal

pub returns-in-Some-clause-related : goal.returns-in-Some-clause-related
returns-in-Some-clause-related c vars said others h h' =
    let refused = c.in-Some.refused in
    by_bounds c.args.limit c.args.in_all c.args.interner.now.nodes said others
    (Err (errors.Line refused.side refused.number refused.cause))
    (sym (refusal_of vars c.args.interner.now.nodes c.args.left.now c.args.right.now said others h h')
    ∙ refused_is c.lines.result.now c.args.left.now c.lines-2.result.now c.args.right.now c.in_ok-refused.field-0
    refused c.lines.ensures c.lines-2.ensures c.in-Some.is c.in_ok-refused.ensures)

pub compared_on-requires-clause-none : goal.compared_on-requires-clause-none
compared_on-requires-clause-none c =
    none_refused c.lines.result.now c.args.left.now c.lines-2.result.now c.args.right.now c.in_ok-refused.field-0
    c.lines.ensures c.lines-2.ensures c.in_default.not-Some c.in_ok-refused.ensures

pub compared_on-requires-clause-others : goal.compared_on-requires-clause-others
compared_on-requires-clause-others c =
    open_at c.args.limit c.lines-3.result.now c.args.left.now c.lines-4.result.now c.args.right.now
    (map (λ name. name.now) c.in_ok-names.names.items) (map (λ name. name.now) c.deref.result.now)
    c.lines-3.ensures c.lines-4.ensures (ap (λ ns. map (λ name. name.now) ns) (sym c.deref.ensures.value))
    c.in_ok-names.ensures
