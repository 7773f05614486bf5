use Rattle.std.proofs.Common.{◌∙◌, Less, Equal, Greater, ap, ap₂, arith}
use Rattle.std.specs.Cmp.{nat_cmp_is}
use Rattle.std.specs.Ordering.{nat_cmp, ordering_then}
use Rattle.pep508_tree.specs.Nodes.{node_cmp}
use Rattle.pep508_tree.specs.Tags.{node_tag, tagged_cmp}
use Rattle.pep508_tree.proofs.table.TaggedOrd.cmp.Goals as goal

pub returns-then-self-other : goal.returns-then-self-other
unfolding tagged_cmp
returns-then-self-other c =
    let a = c.self.invariant ∙ ap node_tag c.self.view_is in
    let b = c.other.invariant ∙ ap node_tag c.other.view_is in
    ap (λ o. ordering_then o (node_cmp c.args.self.now c.args.other.now))
    (nat_cmp_is c.self.inside.tag c.other.inside.tag Less c.if-self-other.true ∙ ap₂ nat_cmp a b)

pub returns-then-other-self : goal.returns-then-other-self
unfolding tagged_cmp
returns-then-other-self c =
    let a = c.self.invariant ∙ ap node_tag c.self.view_is in
    let b = c.other.invariant ∙ ap node_tag c.other.view_is in
    ap (λ o. ordering_then o (node_cmp c.args.self.now c.args.other.now))
    (nat_cmp_is c.self.inside.tag c.other.inside.tag Greater c.if-other-self.true ∙ ap₂ nat_cmp a b)

pub returns : goal.returns
unfolding tagged_cmp
returns c =
    let a = c.self.invariant ∙ ap node_tag c.self.view_is in
    let b = c.other.invariant ∙ ap node_tag c.other.view_is in
    c.cmp.ensures ∙ ap₂ node_cmp c.self.view_is c.other.view_is
    ∙ ap (λ o. ordering_then o (node_cmp c.args.self.now c.args.other.now))
    (nat_cmp_is c.self.inside.tag c.other.inside.tag Equal (omega (arith, c.if-self-other.false, c.if-other-self.false))
    ∙ ap₂ nat_cmp a b)
