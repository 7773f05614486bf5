use Rattle.std.proofs.Common.{◌∙◌, ap, sym, subst}
use Rattle.std.proofs.lemmas.Result.{IfOk-weaker}
use Rattle.std.specs.List.{AllByRecursion}
use Rattle.pep440_specifier.specs.Bounds.{lent_bound}
use Rattle.pep508_tree.specs.Meaning.{IsTree}
use Rattle.pep508_tree.specs.Nodes.{Above}
use Rattle.pep508_tree.proofs.Conjoining.{meet_by}
use Rattle.pep508_simplification.specs.Parts.{record_of, children_of}
use Rattle.pep508_simplification.specs.Simplified.{between}
use Rattle.pep508_simplification.specs.Narrowed.{asks_implementation, implementation_place, IsSimpler}
use Rattle.pep508_simplification.proofs.Simplifying.{above_implementation, made_list, above_list}
use Rattle.pep508_simplification.proofs.Simplifying.{rejoined_made, rejoined_above, rejoined_simplified}
use Rattle.pep508_simplification.proofs.narrowed.simplified.Goals as goal

pub narrowed-requires-clause-above : goal.narrowed-requires-clause-above
narrowed-requires-clause-above c =
    above_implementation c.args.interner.now.nodes c.are_sound.ensures c.args.tree c.requires
    (sym c.if-not-asks_implementation.ensures)

pub all_narrowed-requires-clause-made : goal.all_narrowed-requires-clause-made
all_narrowed-requires-clause-made c =
    let old = c.args.interner.now.nodes in
    subst (AllByRecursion (IsTree old)) (sym (c.deref.ensures.value ∙ c.in_ok-children.ensures))
    (made_list old c.args.tree (record_of c.in_ok-root.root) c.in_ok-root.ensures.known)

pub all_narrowed-requires-clause-above : goal.all_narrowed-requires-clause-above
all_narrowed-requires-clause-above c =
    let old = c.args.interner.now.nodes in
    subst (AllByRecursion (Above old implementation_place))
    (sym (c.deref.ensures.value ∙ c.in_ok-children.ensures))
    (above_list old c.args.tree (record_of c.in_ok-root.root) c.in_ok-root.ensures.known
    (ap asks_implementation c.in_ok-root.ensures.copy ∙ sym c.if-not-asks_implementation.ensures))

pub rejoined-requires-clause-made : goal.rejoined-requires-clause-made
rejoined-requires-clause-made c =
    let old = c.args.interner.now.nodes in
    let range = between (lent_bound c.args.lower) (lent_bound c.args.upper) in
    let now = c.all_narrowed.new.interner.nodes in
    let o = record_of c.in_ok-root.root in
    rejoined_made old c.args.tree range now c.deref-2.result.now o c.in_ok-root.ensures.known
    (ap asks_implementation c.in_ok-root.ensures.copy ∙ sym c.if-not-asks_implementation.ensures)
    (meet_by (IsSimpler range old now) c.deref.result.now (children_of o) c.in_ok-trees.trees.items
    c.deref-2.result.now (c.deref.ensures.value ∙ c.in_ok-children.ensures) c.deref-2.ensures.value
    c.in_ok-trees.ensures.simpler)

pub rejoined-requires-clause-above : goal.rejoined-requires-clause-above
rejoined-requires-clause-above c =
    let old = c.args.interner.now.nodes in
    let range = between (lent_bound c.args.lower) (lent_bound c.args.upper) in
    let now = c.all_narrowed.new.interner.nodes in
    let o = record_of c.in_ok-root.root in
    rejoined_above old c.args.tree range now c.deref-2.result.now o c.in_ok-root.ensures.known
    (ap asks_implementation c.in_ok-root.ensures.copy ∙ sym c.if-not-asks_implementation.ensures)
    (meet_by (IsSimpler range old now) c.deref.result.now (children_of o) c.in_ok-trees.trees.items
    c.deref-2.result.now (c.deref.ensures.value ∙ c.in_ok-children.ensures) c.deref-2.ensures.value
    c.in_ok-trees.ensures.simpler)

pub returns-clause-truth : goal.returns-clause-truth
returns-clause-truth c =
    let old = c.args.interner.now.nodes in
    let range = between (lent_bound c.args.lower) (lent_bound c.args.upper) in
    let now = c.all_narrowed.new.interner.nodes in
    let o = record_of c.in_ok-root.root in
    IfOk-weaker c.rejoined.result _ _
    (λ s is.
    rejoined_simplified old c.args.tree range now c.deref-2.result.now o c.in_ok-root.ensures.known
    (ap asks_implementation c.in_ok-root.ensures.copy ∙ sym c.if-not-asks_implementation.ensures)
    (meet_by (IsSimpler range old now) c.deref.result.now (children_of o) c.in_ok-trees.trees.items
    c.deref-2.result.now (c.deref.ensures.value ∙ c.in_ok-children.ensures) c.deref-2.ensures.value
    c.in_ok-trees.ensures.simpler) c.rejoined.new.interner.nodes s is)
    c.rejoined.ensures.made
