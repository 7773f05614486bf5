use Rattle.std.proofs.Common.{map, refl}
use Rattle.reqtable_compare.specs.Differences.{place_seen, listed}
use Rattle.reqtable_compare.proofs.Answering.{place_found}
use Rattle.reqtable_compare.proofs.Trees.{place_meets, answers_are}
use Rattle.reqtable_compare.proofs.comparing.compared.Goals as goal

pub difference-requires-clause-one : goal.difference-requires-clause-one
difference-requires-clause-one c =
    let nodes = c.args.interner.now.nodes in
    let left = listed c.args.left.now c.args.left_table.now in
    let right = listed c.args.right.now c.args.right_table.now in
    let names = map (λ name. name.now) c.args.names.now in
    (place_meets c.args.relation nodes left right names (place_seen c.in-Some.place) c.requires.left c.requires.right
    (place_found c.args.relation nodes c.lines.result.now c.args.left.now c.lines-2.result.now c.args.right.now c.args.left_table.now
    c.args.right_table.now names names c.in_ok-place.place c.in-Some.place
    c.lines.ensures c.lines-2.ensures refl c.in-Some.is
    c.in_ok-place.ensures)).made

pub difference-requires-clause-other : goal.difference-requires-clause-other
difference-requires-clause-other c =
    let nodes = c.args.interner.now.nodes in
    let left = listed c.args.left.now c.args.left_table.now in
    let right = listed c.args.right.now c.args.right_table.now in
    let names = map (λ name. name.now) c.args.names.now in
    (place_meets c.args.relation nodes left right names (place_seen c.in-Some.place) c.requires.left c.requires.right
    (place_found c.args.relation nodes c.lines.result.now c.args.left.now c.lines-2.result.now c.args.right.now c.args.left_table.now
    c.args.right_table.now names names c.in_ok-place.place c.in-Some.place
    c.lines.ensures c.lines-2.ensures refl c.in-Some.is
    c.in_ok-place.ensures)).other_made

pub returns-in-Some-clause-compared : goal.returns-in-Some-clause-compared
returns-in-Some-clause-compared c =
    let nodes = c.args.interner.now.nodes in
    let left = listed c.args.left.now c.args.left_table.now in
    let right = listed c.args.right.now c.args.right_table.now in
    let names = map (λ name. name.now) c.args.names.now in
    answers_are c.args.relation nodes c.difference.new.interner.nodes left right names (place_seen c.in-Some.place) c.difference.result
    (place_found c.args.relation nodes c.lines.result.now c.args.left.now c.lines-2.result.now c.args.right.now c.args.left_table.now
    c.args.right_table.now names names c.in_ok-place.place c.in-Some.place
    c.lines.ensures c.lines-2.ensures refl c.in-Some.is
    c.in_ok-place.ensures)
    c.difference.ensures.answered
