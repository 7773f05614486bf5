use Rattle.std.proofs.Common.{◌++◌, ◌∷◌, [], sym, subst}
use Rattle.std.specs.List.{AllByRecursion}
use Rattle.pep508_leaf_diagram.specs.Walks.{IsWaiting}
use Rattle.pep508_leaf_diagram.proofs.merge.walked.Goals as goal

pub loop-init : goal.loop-init
loop-init c =
    let inner = c.args.interner.now.nodes in
    let a = c.args.a.now in
    let b = c.args.b.now in
    record {
      walk = c.in_ok-has.ensures inner a b (c.new-walk.ensures inner a b);
      waiting = subst (AllByRecursion (IsWaiting inner a b)) (sym c.in_ok-push.ensures.items)
          (subst (λ list. AllByRecursion (IsWaiting inner a b) (list ++ c.in-Some.all ∷ [])) (sym c.new-waiting.ensures.items)
          (rw c.in-Some.is at c.in_ok-all.ensures, tt));
    }

pub returns-then-branch : goal.returns-then-branch
returns-then-branch c =
    let inner = c.args.interner.now.nodes in
    c.in_ok-has.ensures inner c.args.a.now c.args.b.now (c.new-walk.ensures inner c.args.a.now c.args.b.now)
