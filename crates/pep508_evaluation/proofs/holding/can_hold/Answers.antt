use Rattle.std.proofs.Common.{◌≡◌, ◌<◌, List, [], ◌∷◌, ◌++◌, sym, subst, ap, ◌∙◌, true≢false}
use Rattle.std.specs.List.{AllByRecursion}
use Rattle.std.specs.BTreeSet.{insert_key}
use Rattle.pep508_tree.specs.Tree.{Tree}
use Rattle.pep508_tree.specs.Nodes.{tree_cmp}
use Rattle.pep508_evaluation.proofs.Reaching.{AreReached, below_by_index, code, top}
use Rattle.pep508_evaluation.proofs.Reaching.{last_made, last_holds, reached_past, past_falls, reached_on, left_falls}
use Rattle.pep508_evaluation.proofs.holding.can_hold.Goals as goal

removed : (whole left : List Tree) (latest next : Tree) → next ≡ latest → whole ≡ left ++ latest ∷ [] →
    whole ≡ left ++ next ∷ []
removed whole left latest next is e = subst (λ t. whole ≡ left ++ t ∷ []) (sym is) e

lower : (left : List Tree) (latest next : Tree) → next ≡ latest →
    AllByRecursion (λ t. code t < code latest) left → AllByRecursion (λ t. code t < code next) left
lower left latest next is all = subst (λ e. AllByRecursion (λ t. code t < code e) left) (sym is) all

put : (old new : List Tree) (key tree : Tree) → key ≡ tree → new ≡ insert_key tree_cmp old key →
    new ≡ insert_key tree_cmp old tree
put old new key tree is e = e ∙ ap (insert_key tree_cmp old) is

pub loop-latest-smaller-in_ok-insert-in-Some-extra_child : goal.loop-latest-smaller-in_ok-insert-in-Some-extra_child
loop-latest-smaller-in_ok-insert-in-Some-extra_child c =
    let left = c.pop_last.new.self.keys in
    let is = put left c.insert-in-Some-extra_child.new.self.keys c.new-in-Some-extra_child.result
    c.in-Some-extra_child.child c.new-in-Some-extra_child.ensures c.in_ok-insert-in-Some-extra_child.ensures.keys in
    subst (λ keys. top keys < top c.loop-latest.reached.keys) (sym is)
    (past_falls c.args.interner.now.nodes c.args.extras.now c.args.tree c.loop-latest.reached.keys left
    c.tree-next.result
    (removed c.loop-latest.reached.keys left c.in-Some.latest c.tree-next.result c.tree-next.ensures
    c.in-Some.ensures.removal)
    c.loop-latest.invariant
    (lower left c.in-Some.latest c.tree-next.result c.tree-next.ensures
    (below_by_index c.in-Some.latest left c.in-Some.ensures.all_below))
    c.in-Some-extra_child.child c.in-Some-extra_child.ensures)

pub loop-latest-preserved-in_ok-insert-in-Some-extra_child : goal.loop-latest-preserved-in_ok-insert-in-Some-extra_child
loop-latest-preserved-in_ok-insert-in-Some-extra_child c =
    let left = c.pop_last.new.self.keys in
    let is = put left c.insert-in-Some-extra_child.new.self.keys c.new-in-Some-extra_child.result
    c.in-Some-extra_child.child c.new-in-Some-extra_child.ensures c.in_ok-insert-in-Some-extra_child.ensures.keys in
    subst (AreReached c.args.interner.now.nodes c.args.extras.now c.args.tree) (sym is)
    (reached_past c.args.interner.now.nodes c.args.extras.now c.args.tree c.loop-latest.reached.keys left
    c.tree-next.result
    (removed c.loop-latest.reached.keys left c.in-Some.latest c.tree-next.result c.tree-next.ensures
    c.in-Some.ensures.removal)
    c.loop-latest.invariant c.in-Some-extra_child.child c.in-Some-extra_child.ensures)

pub returns-then-is_true : goal.returns-then-is_true
returns-then-is_true c =
    let left = c.pop_last.new.self.keys in
    last_holds c.args.interner.now.nodes c.args.extras.now c.args.tree c.loop-latest.reached.keys left c.tree-next.result
    (removed c.loop-latest.reached.keys left c.in-Some.latest c.tree-next.result c.tree-next.ensures
    c.in-Some.ensures.removal)
    c.loop-latest.invariant (c.is_true.ensures.0 c.if-is_true.true)

pub reach_children-requires : goal.reach_children-requires
reach_children-requires c =
    let left = c.pop_last.new.self.keys in
    last_made c.args.interner.now.nodes c.args.extras.now c.args.tree c.loop-latest.reached.keys left c.tree-next.result
    (removed c.loop-latest.reached.keys left c.in-Some.latest c.tree-next.result c.tree-next.ensures
    c.in-Some.ensures.removal)
    c.loop-latest.invariant

pub loop-latest-smaller : goal.loop-latest-smaller
loop-latest-smaller c =
    let left = c.pop_last.new.self.keys in
    subst (λ keys. top keys < top c.loop-latest.reached.keys) (sym c.in_ok-reach_children-in-None.ensures)
    (left_falls c.args.interner.now.nodes c.args.extras.now c.args.tree c.loop-latest.reached.keys left
    c.tree-next.result
    (removed c.loop-latest.reached.keys left c.in-Some.latest c.tree-next.result c.tree-next.ensures
    c.in-Some.ensures.removal)
    c.loop-latest.invariant c.are_sound.ensures c.in-None.ensures
    (lower left c.in-Some.latest c.tree-next.result c.tree-next.ensures
    (below_by_index c.in-Some.latest left c.in-Some.ensures.all_below)))

pub loop-latest-preserved : goal.loop-latest-preserved
loop-latest-preserved c =
    let left = c.pop_last.new.self.keys in
    subst (AreReached c.args.interner.now.nodes c.args.extras.now c.args.tree)
    (sym c.in_ok-reach_children-in-None.ensures)
    (reached_on c.args.interner.now.nodes c.args.extras.now c.args.tree c.loop-latest.reached.keys left
    c.tree-next.result
    (removed c.loop-latest.reached.keys left c.in-Some.latest c.tree-next.result c.tree-next.ensures
    c.in-Some.ensures.removal)
    c.loop-latest.invariant c.are_sound.ensures c.in-None.ensures
    (λ is. true≢false (sym (c.is_true.ensures.1 is) ∙ c.if-is_true.false)))
