use Rattle.std.proofs.Common.{◌≡◌, length, subst, rules}
use Rattle.pep508_leaf_diagram.specs.Leaves.{IsGraph, Stands}
use Rattle.pep508_leaf_diagram.proofs.merge.merge_diagrams.Goals as goal

pub returns : goal.returns
returns c =
    let inner = c.args.interner.now.nodes in
    let walk = rw c.in-Some.is at c.in_ok-walk.ensures in
    let both = c.in-Some-get.ensures inner c.args.a.now c.args.b.now walk in
    let nodes = c.in-Some.walk.nodes.items in
    let count : length c.in-Some.walk.leaves.items ≡ c.len-leaves.result = search rules in
    record {
      graph = subst (λ n. IsGraph inner n nodes) count walk.graph;
      root = subst (λ n. Stands n (length nodes) c.in-Some-get.root) count both.stands;
      count = count;
      leaf = both.leaf;
    }
