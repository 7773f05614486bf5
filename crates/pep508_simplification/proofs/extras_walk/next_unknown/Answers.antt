use Rattle.std.proofs.Common.{◌∙◌, ap, sym, subst}
use Rattle.pep508_tree.specs.Nodes.{turned}
use Rattle.pep508_simplification.specs.Named.{IsNamed, plain}
use Rattle.pep508_simplification.proofs.Naming.{named_signed}
use Rattle.pep508_simplification.proofs.Walking.{met_more}
use Rattle.pep508_simplification.proofs.extras_walk.next_unknown.Given as given
use Rattle.pep508_simplification.proofs.extras_walk.next_unknown.Goals as goal

pub loop-index-preserved : goal.loop-index-preserved
loop-index-preserved g c =
    let R = given.F-post g c.args.predicate.now in
    let nodes = c.args.interner.now.nodes in
    let child = c.index-children-index.result in
    let simple = c.in-Some.simple in
    let more = met_more R nodes c.args.children.now c.loop-index.trees.items c.push.new.self.items
    c.loop-index.index child c.turned-signed.result c.loop-index.invariant.counts c.loop-index.invariant.met
    c.loop-index-test.true c.index-children-index.is
    (subst (IsNamed R nodes nodes child)
    (sym (c.turned-signed.ensures ∙ ap (λ b. turned b simple) c.is_negated-negated.ensures))
    (named_signed R nodes nodes child simple
    (subst (λ p. IsNamed R nodes nodes (plain p) simple) c.place-place.ensures c.in-Some.ensures.named)))
    c.in_ok-push.ensures.items in
    record { counts = more.0; met = more.1 }
