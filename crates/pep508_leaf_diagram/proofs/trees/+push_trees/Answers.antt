use Rattle.std.proofs.Common.{◌∙◌, ◌+◌, ◌-◌, ◌/◌, ◌==◌, ◌<◌, [], refl, ap, arith}
use Rattle.std.proofs.lemmas.Result.{IfOk-weaker}
use Rattle.pep508_leaf_diagram.specs.declared.narrow.Leaves.{Leaves}
use Rattle.pep508_leaf_diagram.specs.Leaves.{leaf_at}
use Rattle.pep508_leaf_diagram.proofs.LeafTrees.{narrow_same, pushed_both}
use Rattle.pep508_leaf_diagram.proofs.trees.+push_trees.Goals as goal

pub push_halves-returns-clause-pushed : goal.push_halves-returns-clause-pushed
push_halves-returns-clause-pushed t c =
    let h = leaf_at [] c.args.nodes.now c.args.root.now in
    pushed_both c.push_trees.new.interner.nodes c.push_trees-2.new.interner.nodes h h h c.args.from
    (c.args.from + (c.args.to - c.args.from) / 2) c.args.to
    c.args.trees.now.items c.push_trees.new.trees.items c.push_trees-2.new.trees.items
    c.in_ok-push_trees-2.ensures.keeps c.in_ok-push_trees.ensures.pushed c.in_ok-push_trees-2.ensures.pushed
    (λ n low high v. refl) (λ n low high v. refl)

pub push_trees-returns-clause-pushed : goal.push_trees-returns-clause-pushed
push_trees-returns-clause-pushed t c =
    let from = c.args.from in
    let to = c.args.to in
    let middle = from + (to - from) / 2 in
    let h = leaf_at [] c.args.nodes.now c.args.root.now in
    let lower : Leaves = record { from = from; to = middle; other = middle } in
    let upper : Leaves = record { from = middle; to = to; other = from } in
    let front = c.in_ok-front.ensures in
    let back = c.in_ok-back.ensures in
    let first = c.in_ok-front.front.root in
    let second = c.in_ok-back.back.root in
    let some : from < middle = omega (arith, c.requires.order, c.if-from-to.false, c.if-from-to-2.false) in
    IfOk-weaker c.push_halves-2.result _ _ (λ done last.
    pushed_both c.push_halves.new.interner.nodes c.push_halves-2.new.interner.nodes
    (leaf_at [] c.deref.result.now first) (leaf_at [] c.deref-2.result.now second) h from middle to
    c.args.trees.now.items c.push_halves.new.trees.items c.push_halves-2.new.trees.items
    c.push_halves-2.ensures.keeps c.in_ok-push_halves.ensures.pushed last
    (λ n low high v.
    ap (λ x. x == n) (ap (λ ns. leaf_at [] ns first v) c.deref.ensures.value ∙ front.leaf v)
    ∙ narrow_same lower (h v) n low high (λ e. omega (arith, e, high)))
    (λ n low high v.
    ap (λ x. x == n) (ap (λ ns. leaf_at [] ns second v) c.deref-2.ensures.value ∙ back.leaf v)
    ∙ narrow_same upper (h v) n low high (λ e. omega (arith, e, low, some))))
    c.push_halves-2.ensures.pushed
