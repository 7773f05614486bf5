use Rattle.std.proofs.Common.{◌∙◌, ap, sym, subst}
use Rattle.pep508_tree.specs.Meaning.{IsTree}
use Rattle.pep508_tree.specs.Forms.{record_of}
use Rattle.pep508_tree.specs.Nodes.{AllChildren, Above, IsRising, IsJoined, Made, node_place}
use Rattle.pep508_tree.specs.Joining.{node_joined}
use Rattle.pep508_tree.proofs.Conjoining.{tree_kept, rises_joined, is_joined}
use Rattle.pep508_tree.proofs.Knowing.{known_kept}
use Rattle.pep508_tree.proofs.Walking.{node_made, node_above, tree_made, known_same, known_more}
use Rattle.pep508_tree.proofs.conjunction_walk.finished.Goals as goal

pub store-requires-clause-made : goal.store-requires-clause-made
store-requires-clause-made c =
    let same = c.in_ok-form.ensures ∙ ap (node_joined (record_of c.args.done.pairs)) c.deref.ensures.value in
    subst (AllChildren (IsTree c.args.table.now)) (sym same)
    (node_made c.args.table.now c.args.done c.requires.done c.requires.all)

pub store-requires-clause-above : goal.store-requires-clause-above
store-requires-clause-above c =
    let same = c.in_ok-form.ensures ∙ ap (node_joined (record_of c.args.done.pairs)) c.deref.ensures.value in
    subst (λ node. AllChildren (Above c.args.table.now (node_place node)) node) (sym same)
    (node_above c.args.table.now c.args.done c.requires.done c.requires.all)

pub store-requires-clause-rises : goal.store-requires-clause-rises
store-requires-clause-rises c =
    let same = c.in_ok-form.ensures ∙ ap (node_joined (record_of c.args.done.pairs)) c.deref.ensures.value in
    subst IsRising (sym same)
    (rises_joined (record_of c.args.done.pairs) c.args.done.trees.items c.requires.done.splits.rises)

pub store-requires-clause-joined : goal.store-requires-clause-joined
store-requires-clause-joined c =
    let same = c.in_ok-form.ensures ∙ ap (node_joined (record_of c.args.done.pairs)) c.deref.ensures.value in
    subst IsJoined (sym same) (is_joined (record_of c.args.done.pairs) c.args.done.trees.items)

pub returns-in_err-tree-clause-known : goal.returns-in_err-tree-clause-known
returns-in_err-tree-clause-known c =
    known_kept c.args.table.now c.store.new.self c.args.known.now c.in_err-tree.ensures.keeps
    c.requires.known

pub returns-in_err-insert-clause-known : goal.returns-in_err-insert-clause-known
returns-in_err-insert-clause-known c =
    known_same c.store.new.self c.args.known.now c.insert.new.self c.in_err-insert.ensures.err
    (known_kept c.args.table.now c.store.new.self c.args.known.now c.in_ok-tree.ensures.keeps
    c.requires.known)

pub returns-clause-made : goal.returns-clause-made
returns-clause-made c =
    let same = c.in_ok-form.ensures ∙ ap (node_joined (record_of c.args.done.pairs)) c.deref.ensures.value in
    tree_made c.args.table.now c.args.done c.requires.done c.requires.all c.store.new.self c.in_ok-tree.tree
    c.in_ok-tree.ensures.keeps
    (subst (λ node. Made c.args.table.now c.store.new.self node c.in_ok-tree.tree) same
    c.in_ok-tree.ensures.made)

pub returns-clause-known : goal.returns-clause-known
returns-clause-known c =
    let old = c.args.table.now in
    let new = c.store.new.self in
    let asked = c.args.done.asked in
    let keeps = c.in_ok-tree.ensures.keeps in
    let same = c.in_ok-form.ensures ∙ ap (node_joined (record_of c.args.done.pairs)) c.deref.ensures.value in
    known_more new c.args.known.now c.insert.new.self asked c.in_ok-tree.tree c.in_ok-insert.ensures.updates
    (known_kept old new c.args.known.now keeps c.requires.known)
    (record {
      first = tree_kept old new keeps asked.first c.requires.done.first;
      second = tree_kept old new keeps asked.second c.requires.done.second;
      conjunction = tree_made old c.args.done c.requires.done c.requires.all new c.in_ok-tree.tree keeps
          (subst (λ node. Made old new node c.in_ok-tree.tree) same c.in_ok-tree.ensures.made);
    })
