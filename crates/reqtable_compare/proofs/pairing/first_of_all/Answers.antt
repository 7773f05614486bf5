use Rattle.std.proofs.Common.{map, take, refl, subst, sym, IfSome}
use Rattle.pep508_tree.specs.Meaning.{IsTree}
use Rattle.reqtable_compare.specs.Seen.{summary_record}
use Rattle.reqtable_compare.specs.Pairs.{FindsStanding, PassesAll, FitsAll, ExtrasRise}
use Rattle.reqtable_compare.proofs.LikeCases.{fits_pass}
use Rattle.reqtable_compare.proofs.Steps.{all_at, all_next, split_at}
use Rattle.reqtable_compare.proofs.pairing.first_of_all.Goals.{in-Fits, in-Passes}
use Rattle.reqtable_compare.proofs.pairing.first_of_all.Goals as goal

pub standing_of-requires-clause-one : goal.standing_of-requires-clause-one
standing_of-requires-clause-one c =
    all_at summary_record (λ s. IsTree c.args.interner.now.nodes s.tree) c.args.left.now c.loop-one.one-index
    c.one-item.result c.loop-one-test.true c.one-item.is c.requires.left

pub standing_of-requires-clause-rise : goal.standing_of-requires-clause-rise
standing_of-requires-clause-rise c =
    all_at summary_record ExtrasRise c.args.left.now c.loop-one.one-index c.one-item.result c.loop-one-test.true
    c.one-item.is c.requires.rise

pub returns-in-Fails : goal.returns-in-Fails
returns-in-Fails c =
    let parts = split_at summary_record c.args.left.now c.loop-one.one-index c.one-item.result
    c.loop-one-test.true c.one-item.is in
    record {
      front = map summary_record (take c.loop-one.one-index c.args.left.now);
      first = summary_record c.one-item.result;
      back = parts.0;
      split = parts.1;
      before = c.loop-one.invariant.0;
      is = refl;
      beside = subst (FindsStanding c.args.relation c.args.interner.now.nodes (summary_record c.one-item.result)
          (map summary_record c.args.right.now)) c.in-Fails.is c.in_ok-standing_of.ensures;
    }

pub loop-one-preserved : goal.loop-one-preserved
loop-one-preserved c =
    let relation = c.args.relation in
    let nodes = c.args.interner.now.nodes in
    let one = summary_record c.one-item.result in
    let right = map summary_record c.args.right.now in
    let passed = all_next summary_record (PassesAll relation nodes right) c.args.left.now c.loop-one.one-index
    c.one-item.result c.loop-one-test.true c.one-item.is c.loop-one.invariant.0 in
    elim c.match-branch-2.branch [
      | in-Fits w ↦
          let fits : FitsAll relation right one =
          subst (FindsStanding relation nodes one right) w.in-Fits.is c.in_ok-standing_of.ensures in (
            passed (fits_pass relation nodes right one fits),
            subst (λ fitting. IfSome fitting (λ other. FitsAll relation right (summary_record other.now)))
                (sym w.fitting-is) fits,
          )
      | in-Passes w ↦
          let passes : PassesAll relation nodes right one =
          subst (FindsStanding relation nodes one right) w.in-Passes.is c.in_ok-standing_of.ensures in (
            passed passes,
            subst (λ fitting. IfSome fitting (λ other. FitsAll relation right (summary_record other.now)))
                (sym w.fitting-is) c.loop-one.invariant.1,
          )
    ]
