use Rattle.std.proofs.Common.{rules, refl, ◌∙◌, ap, subst, sym, ◌&&◌}
use Rattle.pep508_tree.specs.Meaning.{IsTree, holds}
use Rattle.pep508_tree.proofs.Conjoining.{extends_on, tree_kept}
use Rattle.pep508_conjunctions.specs.Sources.{all_hold}
use Rattle.pep508_conjunctions.proofs.Orders.{none_behind, one_more, front_made_of}
use Rattle.pep508_conjunctions.proofs.all.from_behind.Goals as goal

pub loop-last-init : goal.loop-last-init
loop-last-init c =
    let nodes = c.args.interner.now.nodes in
    record {
      made = search rules;
      left_made = c.requires;
      truth = λ v. none_behind nodes (all_hold nodes c.args.negated c.args.trees.now v) v;
      keeps = search rules;
      counts = refl;
    }

pub uncounted_conjunction-requires-clause-a : goal.uncounted_conjunction-requires-clause-a
uncounted_conjunction-requires-clause-a c =
    let so = c.loop-last.invariant in
    let last = c.in-Some in
    let made = front_made_of c.args.interner.now.nodes last.front.now c.loop-last.left.now last.last.now
    last.ensures.cases.0 so.left_made in
    subst (IsTree c.loop-last.interner.nodes) (sym c.turned.ensures)
    (tree_kept c.args.interner.now.nodes c.loop-last.interner.nodes so.keeps last.last.now made.1)

pub loop-last-preserved : goal.loop-last-preserved
loop-last-preserved c =
    let nodes = c.args.interner.now.nodes in
    let so = c.loop-last.invariant in
    let last = c.in-Some in
    let split = last.ensures.cases.0 in
    let made = front_made_of nodes last.front.now c.loop-last.left.now last.last.now split so.left_made in
    let done = c.in_ok-whole in
    record {
      made = done.ensures.made;
      left_made = made.0;
      truth = λ v.
          one_more nodes c.loop-last.interner.nodes c.uncounted_conjunction.new.interner.nodes so.keeps c.args.negated
          last.front.now c.loop-last.left.now last.last.now split made.1 c.loop-last.whole done.whole v
          (done.ensures.truth v
          ∙ ap (λ t. holds c.loop-last.interner.nodes t v && holds c.loop-last.interner.nodes c.loop-last.whole v)
          c.turned.ensures)
          (all_hold nodes c.args.negated c.args.trees.now v) (so.truth v);
      keeps = extends_on nodes c.loop-last.interner.nodes c.uncounted_conjunction.new.interner.nodes so.keeps
          done.ensures.keeps;
      counts = done.ensures.counts ∙ so.counts;
    }
