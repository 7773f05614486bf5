use Rattle.std.proofs.Common.{◌≤◌, ◌+◌, length, sym, subst}
use Rattle.reqtable_answer.specs.Asks.{specifiers_of}
use Rattle.reqtable_table.specs.Kept.{kept_source}
use Rattle.reqtable_table.proofs.AskedLines.{counted_list}
use Rattle.reqtable_table.proofs.choosing_by_case.ask.Goals as goal

pub returns-clause-tests : goal.returns-clause-tests
returns-clause-tests c =
    let old = c.args.line.now.specifiers in
    let new = c.contains_counted.new.self in
    let counted =
    counted_list c.contains_counted.result old new c.args.version.now c.contains_counted.ensures.count
    c.contains_counted.ensures.refusal in
    subst (λ u. new.tests ≤ old.tests + length (specifiers_of (kept_source u old.members)))
    (sym c.if-line.false) counted.1
