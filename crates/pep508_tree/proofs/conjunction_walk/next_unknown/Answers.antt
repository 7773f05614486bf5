use Rattle.std.proofs.Common.{◌≡◌, ◌∙◌, ap, subst}
use Rattle.pep508_tree.specs.Nodes.{turned}
use Rattle.pep508_tree.specs.Conjunctions.{Conjunction}
use Rattle.pep508_tree.proofs.Walking.{met_more}
use Rattle.pep508_tree.proofs.conjunction_walk.next_unknown.Goals as goal

pub loop-index-preserved : goal.loop-index-preserved
loop-index-preserved c =
    let nodes = c.args.table.now in
    let pair = c.index-children-index.result in
    let tree = c.in-Ok.tree in
    let first : c.turned-first.result ≡ turned c.args.a.negated pair.0 =
    c.turned-first.ensures ∙ ap (λ s. turned s pair.0) c.is_negated.ensures in
    let second : c.turned-second.result ≡ turned c.args.b.negated pair.1 =
    c.turned-second.ensures ∙ ap (λ s. turned s pair.1) c.is_negated-in-loop-index.ensures in
    let more = met_more nodes c.args.a c.args.b c.args.children.now c.loop-index.trees.items
    c.push.new.self.items c.loop-index.index pair tree c.loop-index.invariant.counts
    c.loop-index.invariant.met c.loop-index-test.true c.index-children-index.is
    (subst (λ x. Conjunction nodes nodes x (turned c.args.b.negated pair.1) tree) first
    (subst (λ y. Conjunction nodes nodes c.turned-first.result y tree) second c.in-Ok.ensures.found))
    c.in_ok-push.ensures.items in
    record { counts = more.0; met = more.1 }
