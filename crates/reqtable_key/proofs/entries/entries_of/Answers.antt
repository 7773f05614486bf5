use Rattle.std.proofs.Common.{map, take, subst}
use Rattle.reqtable_compare.specs.Differences.{listed}
use Rattle.reqtable_key.specs.Entries.{AreOfPackages, entry_seen}
use Rattle.reqtable_key.proofs.Gathered.{map_next, one_package}
use Rattle.reqtable_key.proofs.entries.entries_of.Goals as goal

pub loop-name-preserved : goal.loop-name-preserved
loop-name-preserved c =
    let side = listed c.args.lines.now c.args.table.now in
    let names = c.args.names.now in
    let i = c.loop-name.name-index in
    let new = map entry_seen c.push_package.new.entries.items in
    subst (λ ns. AreOfPackages side ns new)
    (map_next (λ name. name.now) names i c.name-item.result c.loop-name-test.true c.name-item.is)
    (one_package side (map (λ name. name.now) (take i names)) c.name-item.result.now
    (map entry_seen c.loop-name.entries.items) new c.loop-name.invariant c.in_ok-push_package.ensures)
