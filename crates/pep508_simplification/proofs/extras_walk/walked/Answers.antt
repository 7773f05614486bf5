use Rattle.std.proofs.Common.{◌≡◌, ◌∙◌, None, Some, ap, sym, subst, arith}
use Rattle.std.specs.BTreeMap.{get, Updates}
use Rattle.std.specs.Ordering.{nat_cmp}
use Rattle.pep508_tree.specs.Tree.{Tree}
use Rattle.pep508_simplification.specs.Named.{IsNamed, plain}
use Rattle.pep508_simplification.proofs.Walking.{top_pending, walk_down, work_down, walk_up, work_up}
use Rattle.pep508_simplification.proofs.Walking.{walk_ended}
use Rattle.pep508_simplification.proofs.extras_walk.walked.Given as given
use Rattle.pep508_simplification.proofs.extras_walk.walked.Goals as goal

pub look_on-requires-clause-pending : goal.look_on-requires-clause-pending
look_on-requires-clause-pending g c =
    let R = given.F-post g c.args.predicate.now in
    top_pending R c.args.interner.now.nodes c.loop-top.interner.nodes c.loop-top.known c.args.tree
    c.loop-top.waiting.items c.pop.new.self.items c.loop-top.last c.in-Some.top c.in-Some.ensures.items
    c.loop-top.invariant.0

pub loop-top-smaller-in_ok-put_behind-in-Some-2 : goal.loop-top-smaller-in_ok-put_behind-in-Some-2
loop-top-smaller-in_ok-put_behind-in-Some-2 g c =
    let R = given.F-post g c.args.predicate.now in
    let below = c.in_ok-below-in-Some-2.below in
    let next = rw c.in-Some-2.is at c.in_ok-next.ensures.next in
    work_down R c.args.interner.now.nodes c.loop-top.interner.nodes c.loop-top.known c.args.tree
    c.loop-top.waiting.items c.pop.new.self.items c.loop-top.last c.in-Some.top c.in-Some.ensures.items
    c.loop-top.invariant.0 c.look_on.new.pending below c.put_behind.new.waiting.items
    c.in_ok-put_behind-in-Some-2.ensures c.in_ok-next.ensures.tree
    (omega (arith, ap (λ (t : Tree). t.place) c.in_ok-below-in-Some-2.ensures.tree, next.falls))

pub loop-top-preserved-in_ok-put_behind-in-Some-2 : goal.loop-top-preserved-in_ok-put_behind-in-Some-2
loop-top-preserved-in_ok-put_behind-in-Some-2 g c =
    let R = given.F-post g c.args.predicate.now in
    let known = c.loop-top.known in
    let below = c.in_ok-below-in-Some-2.below in
    let same = c.in_ok-below-in-Some-2.ensures.tree in
    let next = rw c.in-Some-2.is at c.in_ok-next.ensures.next in (
      walk_down R c.args.interner.now.nodes c.loop-top.interner.nodes known c.args.tree
          c.loop-top.waiting.items c.pop.new.self.items c.loop-top.last c.in-Some.top c.in-Some.ensures.items
          c.loop-top.invariant.0 c.look_on.new.pending below c.put_behind.new.waiting.items
          c.in_ok-put_behind-in-Some-2.ensures c.in_ok-next.ensures.tree
          (omega (arith, ap (λ (t : Tree). t.place) same, next.falls)) c.in_ok-next.ensures.pending
          c.in_ok-below-in-Some-2.ensures.begun
          (subst (λ (t : Tree). get nat_cmp known t.place ≡ None) (sym same) next.absent),
      c.loop-top.invariant.1,
    )

pub loop-top-smaller : goal.loop-top-smaller
loop-top-smaller g c =
    let R = given.F-post g c.args.predicate.now in
    let known = c.loop-top.known in
    let later = c.finished.new.known in
    let simple = c.in_ok-last-in-None.last in
    work_up R c.args.interner.now.nodes c.loop-top.interner.nodes known c.args.tree
    c.loop-top.waiting.items c.pop.new.self.items c.loop-top.last c.in-Some.top c.in-Some.ensures.items
    c.loop-top.invariant.0 c.finished.new.interner.nodes later simple
    (subst (λ (t : Tree). Updates nat_cmp known later t.place (Some simple)) c.in_ok-next.ensures.tree
    c.in_ok-last-in-None.ensures.remembers)

pub loop-top-preserved : goal.loop-top-preserved
loop-top-preserved g c =
    let R = given.F-post g c.args.predicate.now in
    let old = c.args.interner.now.nodes in
    let now = c.loop-top.interner.nodes in
    let new = c.finished.new.interner.nodes in
    let known = c.loop-top.known in
    let later = c.finished.new.known in
    let top = c.in-Some.top in
    let simple = c.in_ok-last-in-None.last in
    let found = c.in_ok-last-in-None.ensures in
    let pending = top_pending R old now known c.args.tree c.loop-top.waiting.items c.pop.new.self.items
    c.loop-top.last top c.in-Some.ensures.items c.loop-top.invariant.0 in
    let same : plain c.look_on.new.pending.tree.place ≡ top.tree =
    ap (λ (t : Tree). plain t.place) c.in_ok-next.ensures.tree ∙ sym pending.plain_is in (
      walk_up R old now known c.args.tree c.loop-top.waiting.items c.pop.new.self.items c.loop-top.last top
          c.in-Some.ensures.items c.loop-top.invariant.0 new later simple
          (subst (λ (t : Tree). Updates nat_cmp known later t.place (Some simple)) c.in_ok-next.ensures.tree
          found.remembers) found.keeps found.known
          (subst (λ (t : Tree). IsNamed R new new t simple) same found.found.named),
      found.counts ∙ c.loop-top.invariant.1,
    )

pub returns-clause-named : goal.returns-clause-named
returns-clause-named g c =
    let R = given.F-post g c.args.predicate.now in
    walk_ended R c.args.interner.now.nodes c.loop-top.interner.nodes c.loop-top.known c.args.tree
    c.loop-top.waiting.items c.loop-top.last c.loop-top.invariant.0
    (omega (arith, c.loop-top.waiting.ok, c.in_default.ensures.cases.0)) c.requires.made
