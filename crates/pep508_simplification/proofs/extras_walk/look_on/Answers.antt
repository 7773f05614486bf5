use Rattle.std.proofs.Common.{◌<◌, ◌∙◌, sym, subst}
use Rattle.std.specs.List.{AllByRecursion}
use Rattle.pep508_tree.specs.Tree.{Tree}
use Rattle.pep508_tree.specs.Meaning.{IsTree}
use Rattle.pep508_simplification.specs.Parts.{record_of}
use Rattle.pep508_simplification.proofs.Naming.{asked_made, asked_falls}
use Rattle.pep508_simplification.proofs.extras_walk.look_on.Given as given
use Rattle.pep508_simplification.proofs.extras_walk.look_on.Goals as goal

pub next_unknown-requires-clause-made : goal.next_unknown-requires-clause-made
next_unknown-requires-clause-made g c =
    let R = given.F-post g c.args.predicate.now in
    let nodes = c.args.interner.now.nodes in
    let pending = c.args.pending.now in
    subst (AllByRecursion (IsTree nodes)) (sym (c.deref.ensures.value ∙ c.requires.pending.children_are))
    (asked_made R nodes pending.tree (record_of pending.root) c.requires.pending.asked)

pub next_unknown-requires-clause-falls : goal.next_unknown-requires-clause-falls
next_unknown-requires-clause-falls g c =
    let R = given.F-post g c.args.predicate.now in
    let nodes = c.args.interner.now.nodes in
    let pending = c.args.pending.now in
    subst (AllByRecursion (λ (child : Tree). child.place < pending.tree.place))
    (sym (c.deref.ensures.value ∙ c.requires.pending.children_are))
    (asked_falls R nodes pending.tree (record_of pending.root) c.requires.pending.asked)
