use Rattle.std.proofs.Common.{◌≡◌, ◌++◌, ◌∷◌, [], length, sym, subst, rules}
use Rattle.pep508_leaf_diagram.specs.declared.child.Child.TheVariants.{Leaf}
use Rattle.pep508_leaf_diagram.specs.Leaves.{IsGraph}
use Rattle.pep508_leaf_diagram.specs.Walks.{IsBoth}
use Rattle.pep508_leaf_diagram.proofs.Walking.{AllDone, graph_more, done_more, new_leaf}
use Rattle.pep508_leaf_diagram.proofs.merge_walk.Walk.add_leaf.Goals as goal

pub returns : goal.returns
returns c = λ inner a b walk.
    let nodes = c.args.self.now.nodes.items in
    let leaves = c.args.self.now.leaves.items in
    let more = sym c.in_ok-push.ensures.items in
    let count : length leaves ≡ c.len-number.result = search rules in
    c.in_ok-remember.ensures inner a b
    (record {
      graph = subst (λ ls. IsGraph inner (length ls) nodes) more (graph_more inner a b nodes leaves _ walk.graph);
      each = subst (λ ls. AllDone inner a b nodes ls c.args.self.now.done.items) more
          (done_more inner a b nodes leaves _ c.args.self.now.done.items walk.graph walk.each);
    })
    (subst (λ ls. IsBoth inner a b nodes ls (Leaf c.args.first) (Leaf c.args.second) (Leaf c.len-number.result)) more
    (subst (λ n. IsBoth inner a b nodes (leaves ++ (c.args.first, c.args.second) ∷ []) (Leaf c.args.first)
    (Leaf c.args.second) (Leaf n)) count (new_leaf inner a b nodes leaves c.args.first c.args.second)))
