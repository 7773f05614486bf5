use Rattle.std.proofs.Common.{sym, subst, arith}
use Rattle.std.specs.List.{AllByRecursion}
use Rattle.pep508_leaf_diagram.specs.Forms.{record_of}
use Rattle.pep508_leaf_diagram.specs.Pairing.{MadeIn}
use Rattle.pep508_leaf_diagram.specs.Walks.{IsWaiting}
use Rattle.pep508_leaf_diagram.proofs.Walking.{all_before, all_behind, pair_of}
use Rattle.pep508_leaf_diagram.proofs.merge.step.Goals as goal

pub returns-then-seen-len-clause-walk : goal.returns-then-seen-len-clause-walk
returns-then-seen-len-clause-walk c =
    let inner = c.args.interner.now.nodes in
    let parts = all_before (IsWaiting inner c.args.a.now c.args.b.now) c.args.waiting.now.items c.pop.new.self.items
    c.in-Some.top c.in-Some.ensures.items c.requires.waiting in
    c.in_ok-added.ensures inner c.args.a.now c.args.b.now
    (c.in_ok-seen.ensures inner c.args.a.now c.args.b.now c.requires.walk) parts.1.split

pub begun-requires-clause-first : goal.begun-requires-clause-first
begun-requires-clause-first c =
    let inner = c.args.interner.now.nodes in
    let a = c.args.a.now in
    let b = c.args.b.now in
    let parts = all_before (IsWaiting inner a b) c.args.waiting.now.items c.pop.new.self.items
    c.in-Some.top c.in-Some.ensures.items c.requires.waiting in
    (pair_of (λ pair. MadeIn inner a pair.0 × MadeIn inner b pair.1) (record_of c.in-Some.top.form)
    c.in-Some.top.pairs.items c.in_ok-seen.seen c.index.result.now parts.1.split.made parts.1.pairs_are
    (omega (arith, c.if-seen-len.false, c.len.ensures)) c.index.ensures).0

pub begun-requires-clause-second : goal.begun-requires-clause-second
begun-requires-clause-second c =
    let inner = c.args.interner.now.nodes in
    let a = c.args.a.now in
    let b = c.args.b.now in
    let parts = all_before (IsWaiting inner a b) c.args.waiting.now.items c.pop.new.self.items
    c.in-Some.top c.in-Some.ensures.items c.requires.waiting in
    (pair_of (λ pair. MadeIn inner a pair.0 × MadeIn inner b pair.1) (record_of c.in-Some.top.form)
    c.in-Some.top.pairs.items c.in_ok-seen.seen c.index.result.now parts.1.split.made parts.1.pairs_are
    (omega (arith, c.if-seen-len.false, c.len.ensures)) c.index.ensures).1

pub returns-clause-waiting : goal.returns-clause-waiting
returns-clause-waiting c =
    let inner = c.args.interner.now.nodes in
    let a = c.args.a.now in
    let b = c.args.b.now in
    let parts = all_before (IsWaiting inner a b) c.args.waiting.now.items c.pop.new.self.items
    c.in-Some.top c.in-Some.ensures.items c.requires.waiting in
    let below = rw c.in-Some-2.is at c.in_ok-below.ensures in
    subst (AllByRecursion (IsWaiting inner a b)) (sym c.in_ok-push-2.ensures.items)
    (all_behind (IsWaiting inner a b) c.push.new.self.items c.in-Some-2.below
    (subst (AllByRecursion (IsWaiting inner a b)) (sym c.in_ok-push.ensures.items)
    (all_behind (IsWaiting inner a b) c.pop.new.self.items c.up_to.result parts.0
    (c.up_to.ensures inner a b parts.1))) below)

pub returns-clause-walk : goal.returns-clause-walk
returns-clause-walk c =
    c.in_ok-seen.ensures c.args.interner.now.nodes c.args.a.now c.args.b.now c.requires.walk
