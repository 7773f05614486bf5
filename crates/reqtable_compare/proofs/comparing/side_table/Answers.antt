use Rattle.std.proofs.Common.{Err, map, subst}
use Rattle.reqtable_packages.specs.Packages.{said_among}
use Rattle.reqtable_table.specs.Building.{BuildsBy}
use Rattle.reqtable_table.specs.declared.table.TableError.{TableError}
use Rattle.reqtable_compare.proofs.Bounded.{side_made, side_too_many, side_in_all}
use Rattle.reqtable_compare.proofs.comparing.side_table.Goals as goal

pub returns-in-Ok-clause-made : goal.returns-in-Ok-clause-made
returns-in-Ok-clause-made c vars said h =
    side_made c.args.side c.args.bounds.limit c.table_of.new.interner.nodes
    (said_among (map (λ name. name.now) c.args.names.now) said) c.args.bounds.in_all c.in-Ok.table
    (c.in-Ok.ensures.built vars said h)

pub returns-in-Err-TooManyCases-clause-made : goal.returns-in-Err-TooManyCases-clause-made
returns-in-Err-TooManyCases-clause-made c vars said h =
    let new = c.table_of.new.interner.nodes in
    let some = said_among (map (λ name. name.now) c.args.names.now) said in
    side_too_many c.args.side c.args.bounds.limit new some c.args.bounds.in_all c.in-Err-TooManyCases.package
    (subst (λ (e : TableError). BuildsBy c.args.bounds.limit c.args.bounds.in_all new some (Err e))
    c.in-Err-TooManyCases.field-0-is (c.in-Err-TooManyCases.ensures.built vars said h))

pub returns-in-Err-TooManyCasesInAll-clause-made : goal.returns-in-Err-TooManyCasesInAll-clause-made
returns-in-Err-TooManyCasesInAll-clause-made c vars said h =
    let new = c.table_of.new.interner.nodes in
    let some = said_among (map (λ name. name.now) c.args.names.now) said in
    side_in_all c.args.side c.args.bounds.limit new some c.args.bounds.in_all
    (subst (λ (e : TableError). BuildsBy c.args.bounds.limit c.args.bounds.in_all new some (Err e))
    c.in-Err-TooManyCasesInAll.field-0-is (c.in-Err-TooManyCasesInAll.ensures.built vars said h))
