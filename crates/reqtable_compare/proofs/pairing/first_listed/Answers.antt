use Rattle.std.proofs.Common.{subst, rules}
use Rattle.pep508_tree.specs.Meaning.{IsTree}
use Rattle.reqtable_compare.specs.Seen.{summary_record}
use Rattle.reqtable_compare.specs.Pairs.{Decides, ExtrasRise}
use Rattle.reqtable_compare.proofs.Listed.{every, first_has, second_has, next, stops}
use Rattle.reqtable_compare.proofs.pairing.first_listed.Goals as goal

pub passes-requires-clause-one : goal.passes-requires-clause-one
passes-requires-clause-one c =
    let nodes = c.args.interner.now.nodes in
    first_has summary_record c.args.relation nodes c.args.left.now c.args.right.now c.args.pairs.now c.requires.pairs
    c.loop-pair.pair-index c.loop-pair-test.true c.index-left-pair.result c.index-right-pair.result
    c.index-left-pair.is c.index-right-pair.is (λ s. IsTree nodes s.tree) c.requires.left

pub passes-requires-clause-rise : goal.passes-requires-clause-rise
passes-requires-clause-rise c =
    let nodes = c.args.interner.now.nodes in
    first_has summary_record c.args.relation nodes c.args.left.now c.args.right.now c.args.pairs.now c.requires.pairs
    c.loop-pair.pair-index c.loop-pair-test.true c.index-left-pair.result c.index-right-pair.result
    c.index-left-pair.is c.index-right-pair.is ExtrasRise c.requires.rise

pub passes-requires-clause-other : goal.passes-requires-clause-other
passes-requires-clause-other c =
    let nodes = c.args.interner.now.nodes in
    second_has summary_record c.args.relation nodes c.args.left.now c.args.right.now c.args.pairs.now c.requires.pairs
    c.loop-pair.pair-index c.loop-pair-test.true c.index-left-pair.result c.index-right-pair.result
    c.index-left-pair.is c.index-right-pair.is (λ s. IsTree nodes s.tree) c.requires.right

pub returns-then-not-branch : goal.returns-then-not-branch
returns-then-not-branch c =
    let nodes = c.args.interner.now.nodes in
    let one = c.index-left-pair.result in
    let other = c.index-right-pair.result in
    stops summary_record c.args.relation nodes c.args.left.now c.args.right.now c.args.pairs.now c.requires.pairs
    c.loop-pair.pair-index c.loop-pair-test.true one other c.index-left-pair.is c.index-right-pair.is
    c.loop-pair.invariant
    (subst (Decides c.args.relation nodes (summary_record one) (summary_record other)) c.if-not-branch.true c.in_ok-passes.ensures)

pub loop-pair-preserved : goal.loop-pair-preserved
loop-pair-preserved c =
    let nodes = c.args.interner.now.nodes in
    let one = c.index-left-pair.result in
    let other = c.index-right-pair.result in
    next summary_record c.args.relation nodes c.args.left.now c.args.right.now c.args.pairs.now c.requires.pairs
    c.loop-pair.pair-index c.loop-pair-test.true one other c.index-left-pair.is c.index-right-pair.is
    c.loop-pair.invariant
    (subst (Decides c.args.relation nodes (summary_record one) (summary_record other)) c.if-not-branch.false c.in_ok-passes.ensures)

pub returns : goal.returns
returns c =
    every summary_record c.args.relation c.args.interner.now.nodes c.args.left.now c.args.right.now c.args.pairs.now c.requires.pairs
    c.loop-pair.pair-index (search rules) c.loop-pair.invariant
