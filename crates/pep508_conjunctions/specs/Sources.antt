-- Trees that test one key and nothing else, and where many trees hold.
use Rattle.std.specs.Prelude.{◌≡◌, Bool, List, map}
use Rattle.std.specs.declared.cmp.Ordering.{Ordering}
use Rattle.version_ranges.specs.Point.{Point}
use Rattle.version_ranges.specs.Turns.{flips}
use Rattle.pep508_diagram.specs.Branches.{RisingBranches, NeighboursDiffer}
use Rattle.pep508_diagram.specs.Question.{Valuation}
use Rattle.pep508_conjunctions.specs.declared.borrowed_nodes.Source.{Source}
use Rattle.pep508_tree.specs.Tree.{Tree}
use Rattle.pep508_tree.specs.Meaning.{NodeRecord, holds}
use Rattle.pep508_conjunctions.specs.declared.meet.Truths.{Truths}
use Rattle.pep508_conjunctions.specs.Meets.{all_true, truth_at, source_truth, IsLeaf}

-- all of the trees hold, or all their negations where the flag is set
abbrev pub all_hold : List NodeRecord → Bool → List Tree → Valuation → Bool
all_hold nodes negated trees v = all_true (map (λ tree. flips negated (holds nodes tree v)) trees)

-- the tree, negated where the flag is set, holds where constant children are true
pub record IsSource {T : Type 0} (cmp : T → T → Ordering) (at : Valuation → Point T) (nodes : List NodeRecord)
    (negated : Bool) (tree : Tree) (source : Source T) : Type 0 where
  pub leaf : IsLeaf cmp source
  pub truth_is : (v : Valuation) → flips negated (holds nodes tree v) ≡ source_truth cmp source (at v)

-- the truths are those of all the trees
pub record AreMeet {T : Type 0} (cmp : T → T → Ordering) (at : Valuation → Point T) (nodes : List NodeRecord)
    (negated : Bool) (trees : List Tree) (truths : Truths T) : Type 0 where
  pub rises : RisingBranches cmp truths.later.items
  pub differ : NeighboursDiffer truths.first truths.later.items
  pub truth_is : (v : Valuation) → truth_at cmp truths (at v) ≡ all_hold nodes negated trees v
