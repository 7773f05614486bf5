use Rattle.std.proofs.Common.{Vec, Global, map, sym, ap, subst}
use Rattle.std.proofs.lemmas.Result.{err_from_is_err_and}
use Rattle.reqtable_conflicts.specs.declared.contradicting.Conflict.{Conflict}
use Rattle.reqtable_conflicts.specs.Contradictions.{conflict_record}
use Rattle.reqtable_conflicts.specs.Picking.{FoundFor}
use Rattle.reqtable_conflicts.proofs.Agreed.{doubtful_at}
use Rattle.reqtable_conflicts.proofs.Conflicting.{all_found, refused_too}
use Rattle.reqtable_packages.proofs.Passing.{Rise, texts}
use Rattle.reqtable_conflicts.proofs.contradicting.conflicts.Goals as goal

pub packages_table-requires-clause-rising : goal.packages_table-requires-clause-rising
packages_table-requires-clause-rising c =
    subst (λ names. Rise (texts names)) (sym c.deref.ensures.value) c.in_ok-names.ensures.rising

pub returns-in_err-table-clause-found : goal.returns-in_err-table-clause-found
returns-in_err-table-clause-found c vars said h =
    let old = c.args.interner.now.nodes in
    let names = texts c.deref.result.now in
    let p = err_from_is_err_and c.from_residual-in_err-table.result c.from_residual-in_err-table.ensures.1 in
    rw (p.1, p.2)
    (refused_too (λ (found : Vec Conflict Global). map conflict_record found.items) vars old
    c.packages_table.new.interner.nodes c.args.limit c.args.requirements.now said names _ h
    (doubtful_at c.args.limit c.lines.result.now c.args.requirements.now (texts c.in_ok-names.names.items) names
    c.lines.ensures (ap texts (sym c.deref.ensures.value)) c.in_ok-names.ensures)
    (c.in_err-table.ensures.built vars said h))

pub returns-clause-found : goal.returns-clause-found
returns-clause-found c vars said h =
    let old = c.args.interner.now.nodes in
    let names = texts c.deref.result.now in
    let found = map conflict_record c.in_ok-found.found.items in
    let are : FoundFor c.in_ok-table.table names found =
    subst (λ ns. FoundFor c.in_ok-table.table (texts ns) found) (sym c.deref.ensures.value)
    (subst (λ ns. FoundFor c.in_ok-table.table (texts ns) found) c.deref-2.ensures.value c.in_ok-found.ensures) in
    all_found vars old c.packages_table.new.interner.nodes c.args.limit c.args.requirements.now said
    c.in_ok-table.table names found h c.are_read.ensures.rising
    (doubtful_at c.args.limit c.lines.result.now c.args.requirements.now (texts c.in_ok-names.names.items) names
    c.lines.ensures (ap texts (sym c.deref.ensures.value)) c.in_ok-names.ensures)
    (c.in_ok-table.ensures.built vars said h) are
