-- The place of each node.
use Rattle.std.specs.Prelude.{◌≡◌, ℕ, ◌<◌, List, length, map, MatchOption}
use Rattle.std.specs.BTreeMap.{BTreeMap, get}
use Rattle.std.specs.declared.rc.Rc.{Rc}
use Rattle.std.specs.declared.cmp.Ordering.TheVariants.{Equal}
use Rattle.pep508_tree.specs.Meaning.{NodeRecord}
use Rattle.pep508_tree.specs.Nodes.{node_at, node_cmp}
use Rattle.pep508_tree.specs.Tags.{tagged_cmp}

-- the nodes of owners
abbrev pub nodes_of : {A : Type 0} → List (Rc NodeRecord A) → List NodeRecord
nodes_of owners = map (λ owner. owner.value) owners

-- the map has the place of each node, and of no other
abbrev pub StandAt : List NodeRecord → BTreeMap NodeRecord ℕ → Type 0
StandAt nodes places = (node : NodeRecord) →
    MatchOption (get tagged_cmp places node)
    ((k : ℕ) → k < length nodes → node_cmp (node_at nodes k) node ≡ Equal → ⊥)
    (λ k. (k < length nodes) × (node_cmp (node_at nodes k) node ≡ Equal))
