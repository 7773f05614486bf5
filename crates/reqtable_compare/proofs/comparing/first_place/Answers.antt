use Rattle.std.proofs.Common.{map, take, sym, ap, subst}
use Rattle.std.specs.List.{AllByRecursion}
use Rattle.reqtable_compare.specs.Seen.{summary_record}
use Rattle.reqtable_table.specs.Cases.{cases_under}
use Rattle.reqtable_table.specs.Kept.{kept_under}
use Rattle.reqtable_compare.specs.Pairs.{AreOfTrees, AreApart, ExtrasRise, FindsTrees, IsFirstPair}
use Rattle.reqtable_compare.proofs.Rising.{extras_rise}
use Rattle.reqtable_compare.proofs.Apart.{apart_under}
use Rattle.reqtable_compare.specs.Differences.{IsFirstPlace, listed}
use Rattle.reqtable_compare.proofs.Steps.{split_at}
use Rattle.reqtable_compare.proofs.Trees.{trees_under}
use Rattle.reqtable_compare.proofs.comparing.first_place.Goals as goal

pub first_trees-requires-clause-left : goal.first_trees-requires-clause-left
first_trees-requires-clause-left c =
    subst (λ l. AreOfTrees c.args.interner.now.nodes (map summary_record l)) (sym c.deref.ensures.value)
    (trees_under c.args.interner.now.nodes c.args.left.now c.name-item.result.now c.args.left_table.now
    (map summary_record c.in_ok-ours.ours.items) c.requires.left_cases c.in_ok-ours.ensures)

pub first_trees-requires-clause-right : goal.first_trees-requires-clause-right
first_trees-requires-clause-right c =
    subst (λ l. AreOfTrees c.args.interner.now.nodes (map summary_record l))
    (sym c.deref-in-loop-name.ensures.value)
    (trees_under c.args.interner.now.nodes c.args.right.now c.name-item.result.now c.args.right_table.now
    (map summary_record c.in_ok-theirs.theirs.items) c.requires.right_cases c.in_ok-theirs.ensures)

pub first_trees-requires-clause-rise : goal.first_trees-requires-clause-rise
first_trees-requires-clause-rise c =
    subst (λ l. AllByRecursion ExtrasRise (map summary_record l)) (sym c.deref.ensures.value)
    (extras_rise c.args.left.now (kept_under c.name-item.result.now c.args.left_table.now)
    (cases_under c.name-item.result.now c.args.left_table.now) (map summary_record c.in_ok-ours.ours.items)
    c.in_ok-ours.ensures)

pub first_trees-requires-clause-apart : goal.first_trees-requires-clause-apart
first_trees-requires-clause-apart c =
    subst (λ l. AreApart c.args.interner.now.nodes (map summary_record l))
    (sym c.deref-in-loop-name.ensures.value)
    (apart_under c.args.interner.now.nodes c.args.right.now c.name-item.result.now c.args.right_table.now
    (map summary_record c.in_ok-theirs.theirs.items) c.requires.right_cases c.in_ok-theirs.ensures)

pub returns-in-Some : goal.returns-in-Some
returns-in-Some c =
    let parts = split_at (λ name. name.now) c.args.names.now c.loop-name.name-index c.name-item.result
    c.loop-name-test.true c.name-item.is in
    let left = listed c.args.left.now c.args.left_table.now in
    let right = listed c.args.right.now c.args.right_table.now in
    let names = map (λ name. name.now) c.args.names.now in
    subst (λ name. IsFirstPlace c.args.relation c.args.interner.now.nodes left right names
    (name, (c.in-Some.meeting.one, c.in-Some.meeting.other))) (sym c.in_ok-package.ensures) record {
      front = map (λ name. name.now) (take c.loop-name.name-index c.args.names.now);
      back = parts.0;
      split = parts.1;
      before = c.loop-name.invariant;
      differ = record {
        ours = map summary_record c.in_ok-ours.ours.items;
        theirs = map summary_record c.in_ok-theirs.theirs.items;
        our_sums = c.in_ok-ours.ensures;
        their_sums = c.in_ok-theirs.ensures;
        pair = subst (λ l. IsFirstPair c.args.relation c.args.interner.now.nodes l (map summary_record c.in_ok-theirs.theirs.items)
            c.in-Some.meeting.one c.in-Some.meeting.other) (ap (map summary_record) c.deref.ensures.value)
            (subst (λ l. IsFirstPair c.args.relation c.args.interner.now.nodes (map summary_record c.deref.result.now) l
            c.in-Some.meeting.one c.in-Some.meeting.other) (ap (map summary_record) c.deref-in-loop-name.ensures.value)
            (subst (FindsTrees c.args.relation c.args.interner.now.nodes (map summary_record c.deref.result.now)
            (map summary_record c.deref-in-loop-name.result.now)) c.in-Some.is c.in_ok-meeting.ensures));
      };
    }
