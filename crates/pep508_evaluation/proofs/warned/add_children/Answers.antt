use Rattle.std.proofs.Common.{◌-◌, arith}
use Rattle.pep508_tree.specs.Roots.{root_of}
use Rattle.pep508_evaluation.specs.Steps.{children_of}
use Rattle.pep508_evaluation.proofs.Telling.{one_before}
use Rattle.pep508_evaluation.proofs.warned.add_children.Goals as goal

pub loop-left-preserved : goal.loop-left-preserved
loop-left-preserved c =
    let n = c.loop-left.left in record {
      within = omega (arith, c.loop-left.invariant.within);
      added = one_before (children_of (root_of c.args.interner.now.nodes c.args.tree)) c.args.waiting.now.items
          c.loop-left.waiting.items c.push.new.self.items n (n - 1) c.in-Some.child
          (omega (arith, c.loop-left-test.true)) c.in-Some.ensures.child c.loop-left.invariant.added
          c.in_ok-push-in-Some.ensures.items;
    }
