use Rattle.std.proofs.Common.{◌∙◌, length, ap, sym, subst}
use Rattle.pep508_leaf_diagram.specs.Forms.{record_of, others}
use Rattle.pep508_leaf_diagram.specs.Joining.{node_joined}
use Rattle.pep508_leaf_diagram.specs.Leaves.{IsFit, IsPut}
use Rattle.pep508_leaf_diagram.specs.Walks.{IsBoth, AreBoth}
use Rattle.pep508_leaf_diagram.proofs.Walking.{done_kept, node_fits, node_both}
use Rattle.pep508_leaf_diagram.proofs.merge_walk.Walk.add_node.Goals as goal

pub returns : goal.returns
returns c = λ inner a b walk split.
    let nodes = c.args.self.now.nodes.items in
    let leaves = c.args.self.now.leaves.items in
    let pairs = record_of c.args.form in
    let child = c.in-Some.child in
    let cs = c.in-Some-2.others.items in
    let one = subst (λ (p : _). IsBoth inner a b nodes leaves p.0 p.1 child) c.first-pair.ensures
    (c.in-Some.ensures inner a b walk) in
    let found = rw c.in-Some-2.is at c.in_ok-others.ensures in
    let all : AreBoth inner a b nodes leaves (others pairs) cs = subst (λ ps. AreBoth inner a b nodes leaves ps cs)
    (c.deref.ensures.value ∙ c.in_ok-pairs.ensures) (found inner a b walk) in
    let made = c.in_ok-joined.ensures ∙ ap (node_joined _ pairs child) c.deref-2.ensures.value in
    let put = c.in_ok-put.ensures inner (length leaves) walk.graph
    (subst (IsFit inner (length leaves) nodes (length nodes)) (sym made)
    (node_fits inner a b nodes leaves _ c.equal_children.ensures c.args.first.now c.args.second.now pairs child cs split
    one all)) in
    c.in_ok-remember.ensures inner a b
    (record {
      graph = put.graph;
      each = done_kept inner a b nodes c.placed.new.nodes.items put.keeps.0 leaves c.args.self.now.done.items put.keeps.1
          walk.each;
    })
    (node_both inner a b nodes leaves _ c.equal_children.ensures c.args.first.now c.args.second.now pairs child cs split
    one all c.placed.new.nodes.items c.in_ok-put.put
    (subst (λ n. IsPut inner (length leaves) nodes c.placed.new.nodes.items n c.in_ok-put.put) made put))
