use Rattle.std.proofs.Common.{sym, rules}
use Rattle.std.proofs.lemmas.Fn.{always_returns_same}
use Rattle.reqtable_requirements.proofs.Among.{name_cmp, searchable, found, not_found}
use Rattle.reqtable_requirements.proofs.requirements.is_among.Goals as goal

pub returns-in-Ok : goal.returns-in-Ok
returns-in-Ok c =
    let names = c.args.names.now in
    let q = c.args.name.now in
    let at = c.in-Ok.ensures.position (λ name. name_cmp name.now q)
    (always_returns_same _ _ _ (λ a r f k. search rules)) in
    sym (found names c.in-Ok.field-0 c.args.name q c.in-Ok.ensures.bound (at c.args.name))

pub returns-in-Err : goal.returns-in-Err
returns-in-Err c =
    let names = c.args.names.now in
    let q = c.args.name.now in
    let parted = c.in-Err.ensures.position (λ name. name_cmp name.now q)
    (always_returns_same _ _ _ (λ a r f k. search rules)) in
    sym (not_found names c.in-Err.field-0 q (parted (searchable names q c.requires)))
