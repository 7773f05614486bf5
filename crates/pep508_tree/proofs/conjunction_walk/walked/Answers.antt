use Rattle.std.proofs.Common.{◌≡◌, ◌+◌, ◌<◌, ◌∷◌, ◌++◌, [], List, length, take, None, refl, ap, sym, subst}
use Rattle.std.proofs.Common.{◌∙◌, arith}
use Rattle.std.specs.BTreeMap.{get}
use Rattle.pep508_tree.specs.declared.conjunction_walk.Pending.{Pending}
use Rattle.pep508_tree.specs.Tree.{Tree}
use Rattle.pep508_tree.specs.Meaning.{IsTree}
use Rattle.pep508_tree.specs.PairOrder.{pair_cmp, places}
use Rattle.pep508_tree.specs.Conjunctions.{ArePairs, Meet}
use Rattle.pep508_tree.specs.Pending.{IsPending}
use Rattle.pep508_tree.proofs.Walking.{top_pending, pending_all, walk_down, work_down, walk_up, work_up}
use Rattle.pep508_tree.proofs.Walking.{walk_ended}
use Rattle.pep508_tree.proofs.conjunction_walk.walked.Goals as goal

pub next_unknown-requires-clause-made : goal.next_unknown-requires-clause-made
next_unknown-requires-clause-made c =
    let nodes = c.loop-top.table in
    let top = c.in-Some.top in
    let pending = top_pending c.args.table.now nodes c.loop-top.known c.args.asked c.loop-top.waiting.items
    c.pop.new.self.items c.loop-top.last top c.in-Some.ensures.items c.loop-top.invariant in
    pending_all (λ p. IsTree nodes p.0 × IsTree nodes p.1) nodes top c.deref.result.now pending
    c.deref.ensures.value pending.splits.made

pub next_unknown-requires-clause-falls : goal.next_unknown-requires-clause-falls
next_unknown-requires-clause-falls c =
    let nodes = c.loop-top.table in
    let top = c.in-Some.top in
    let pending = top_pending c.args.table.now nodes c.loop-top.known c.args.asked c.loop-top.waiting.items
    c.pop.new.self.items c.loop-top.last top c.in-Some.ensures.items c.loop-top.invariant in
    pending_all (λ p. p.0.place + p.1.place < top.asked.first.place + top.asked.second.place) nodes top
    c.deref.result.now pending c.deref.ensures.value pending.splits.falls

pub next_unknown-requires-clause-met : goal.next_unknown-requires-clause-met
next_unknown-requires-clause-met c =
    let nodes = c.loop-top.table in
    let top = c.in-Some.top in
    let pending = top_pending c.args.table.now nodes c.loop-top.known c.args.asked c.loop-top.waiting.items
    c.pop.new.self.items c.loop-top.last top c.in-Some.ensures.items c.loop-top.invariant in
    subst (λ (pairs : List (Tree × Tree)). Meet (ArePairs nodes nodes top.asked.first top.asked.second)
    (take (length top.trees.items) pairs) top.trees.items) (sym c.deref.ensures.value) pending.met

pub loop-top-smaller-in_ok-push-in-Some-unknown-2 : goal.loop-top-smaller-in_ok-push-in-Some-unknown-2
loop-top-smaller-in_ok-push-in-Some-unknown-2 c =
    let top = c.in-Some.top in
    let again : Pending = record {
      asked = top.asked;
      pairs = top.pairs;
      children = top.children;
      trees = c.next_unknown.new.trees;
    } in
    let below = c.in_ok-below-in-Some-unknown.below in
    let next = rw c.in-Some-unknown.is at c.in_ok-unknown.ensures.next in
    work_down c.args.table.now c.loop-top.table c.loop-top.known c.args.asked c.loop-top.waiting.items
    c.pop.new.self.items c.loop-top.last top c.in-Some.ensures.items c.loop-top.invariant again below
    c.push-in-Some-unknown-2.new.self.items
    (c.in_ok-push-in-Some-unknown-2.ensures.items
    ∙ ap (λ list. list ++ below ∷ []) c.in_ok-push-in-Some-unknown.ensures.items)
    refl (omega (arith, ap places c.in_ok-below-in-Some-unknown.ensures.asked, next.1))

pub loop-top-preserved-in_ok-push-in-Some-unknown-2 : goal.loop-top-preserved-in_ok-push-in-Some-unknown-2
loop-top-preserved-in_ok-push-in-Some-unknown-2 c =
    let nodes = c.loop-top.table in
    let known = c.loop-top.known in
    let top = c.in-Some.top in
    let trees = c.next_unknown.new.trees in
    let pending = top_pending c.args.table.now nodes known c.args.asked c.loop-top.waiting.items
    c.pop.new.self.items c.loop-top.last top c.in-Some.ensures.items c.loop-top.invariant in
    let again : Pending = record {
      asked = top.asked;
      pairs = top.pairs;
      children = top.children;
      trees = trees;
    } in
    let again_pending : IsPending nodes again = record {
      first = pending.first;
      second = pending.second;
      splits = pending.splits;
      children_are = pending.children_are;
      met = subst (λ (pairs : List (Tree × Tree)). Meet
          (ArePairs nodes nodes top.asked.first top.asked.second)
          (take (length trees.items) pairs) trees.items) c.deref.ensures.value c.in_ok-unknown.ensures.met;
    } in
    let below = c.in_ok-below-in-Some-unknown.below in
    let same = c.in_ok-below-in-Some-unknown.ensures.asked in
    let next = rw c.in-Some-unknown.is at c.in_ok-unknown.ensures.next in
    walk_down c.args.table.now nodes known c.args.asked c.loop-top.waiting.items c.pop.new.self.items
    c.loop-top.last top c.in-Some.ensures.items c.loop-top.invariant again below
    c.push-in-Some-unknown-2.new.self.items
    (c.in_ok-push-in-Some-unknown-2.ensures.items
    ∙ ap (λ list. list ++ below ∷ []) c.in_ok-push-in-Some-unknown.ensures.items)
    refl (omega (arith, ap places same, next.1)) again_pending
    c.in_ok-below-in-Some-unknown.ensures.begun
    (subst (λ p. get pair_cmp known p ≡ None) (sym same) next.0.unknown)

pub finished-requires-clause-done : goal.finished-requires-clause-done
finished-requires-clause-done c =
    let nodes = c.loop-top.table in
    let top = c.in-Some.top in
    let trees = c.next_unknown.new.trees in
    let pending = top_pending c.args.table.now nodes c.loop-top.known c.args.asked c.loop-top.waiting.items
    c.pop.new.self.items c.loop-top.last top c.in-Some.ensures.items c.loop-top.invariant in
    record {
      first = pending.first;
      second = pending.second;
      splits = pending.splits;
      children_are = pending.children_are;
      met = subst (λ (pairs : List (Tree × Tree)). Meet
          (ArePairs nodes nodes top.asked.first top.asked.second)
          (take (length trees.items) pairs) trees.items) c.deref.ensures.value c.in_ok-unknown.ensures.met;
    }

pub loop-top-smaller : goal.loop-top-smaller
loop-top-smaller c =
    work_up c.args.table.now c.loop-top.table c.loop-top.known c.args.asked c.loop-top.waiting.items
    c.pop.new.self.items c.loop-top.last c.in-Some.top c.in-Some.ensures.items c.loop-top.invariant
    c.finished.new.table c.finished.new.known c.in_ok-last-in-None.last
    c.in_ok-last-in-None.ensures.remembers

pub loop-top-preserved : goal.loop-top-preserved
loop-top-preserved c =
    walk_up c.args.table.now c.loop-top.table c.loop-top.known c.args.asked c.loop-top.waiting.items
    c.pop.new.self.items c.loop-top.last c.in-Some.top c.in-Some.ensures.items c.loop-top.invariant
    c.finished.new.table c.finished.new.known c.in_ok-last-in-None.last
    c.in_ok-last-in-None.ensures.remembers c.in_ok-last-in-None.ensures.keeps
    c.in_ok-last-in-None.ensures.known c.in_ok-last-in-None.ensures.made

pub returns-clause-made : goal.returns-clause-made
returns-clause-made c =
    walk_ended c.args.table.now c.loop-top.table c.loop-top.known c.args.asked c.loop-top.waiting.items
    c.loop-top.last c.loop-top.invariant (omega (arith, c.loop-top.waiting.ok, c.in_default.ensures.cases.0))
    c.requires.asked.trees.first c.requires.asked.trees.second
