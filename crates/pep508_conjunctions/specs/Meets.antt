-- Sets that are true and false between endpoints, and where several of them are true.
use Rattle.std.specs.Prelude.{◌≡◌, Bool, true, not, cond, ◌&&◌, List, [], ◌∷◌, map}
use Rattle.std.specs.Bool.{beq}
use Rattle.std.specs.declared.cmp.Ordering.{Ordering}
use Rattle.version_ranges.specs.Point.{Point}
use Rattle.version_ranges.specs.Turns.{flips}
use Rattle.pep508_diagram.specs.declared.branch.Branch.{Branch}
use Rattle.pep508_diagram.specs.Branches.{RisingBranches, NeighboursDiffer, branch_at}
use Rattle.pep508_conjunctions.specs.declared.borrowed_nodes.Source.{Source}
use Rattle.pep508_tree.specs.Tree.{Tree}
use Rattle.pep508_conjunctions.specs.declared.meet.Truths.{Truths}

abbrev pub all_true : List Bool → Bool
all_true [] = true
all_true (b ∷ bs) = b && all_true bs

-- the truth at a point
abbrev pub truth_at : {T : Type 0} → (T → T → Ordering) → Truths T → Point T → Bool
truth_at cmp truths p = branch_at cmp truths.first truths.later.items p

-- truths between the same endpoints
pub record AreSame {T : Type 0} (copy truths : Truths T) : Type 0 where
  pub first : copy.first ≡ truths.first
  pub later : copy.later.items ≡ truths.later.items

-- both of a pair are true
abbrev pub both_true : Bool × Bool → Bool
both_true pair = pair.0 && pair.1

-- branches that are true where both of a pair are; equal neighbours are joined
abbrev pub met : {T : Type 0} → Bool → List (Branch T (Bool × Bool)) → List (Branch T Bool)
met last [] = []
met last (branch ∷ later) =
    cond (beq (both_true branch.child) last) (met last later)
    (record { boundary = branch.boundary; child = both_true branch.child }
    ∷ met (both_true branch.child) later)

-- ---- constant children

-- the truth of a constant tree, negated where the flag is set
abbrev pub truth_in : Bool → Tree → Bool
truth_in negated child = flips negated (not child.negated)

abbrev pub truth_branch : {T : Type 0} → Bool → Branch T Tree → Branch T Bool
truth_branch negated branch = record { boundary = branch.boundary; child = truth_in negated branch.child }

-- the truth from each endpoint of a source on
abbrev pub source_later : {T : Type 0} → Source T → List (Branch T Bool)
source_later source = map (truth_branch source.negated) source.later.now

abbrev pub source_truth : {T : Type 0} → (T → T → Ordering) → Source T → Point T → Bool
source_truth cmp source p = branch_at cmp source.first (source_later source) p

-- the truths of a source's children
pub record AreLent {T : Type 0} (truths : Truths T) (source : Source T) : Type 0 where
  pub first : truths.first ≡ source.first
  pub later : truths.later.items ≡ source_later source

-- the endpoints rise, and from each of them on the truth is the other one
pub record IsLeaf {T : Type 0} (cmp : T → T → Ordering) (source : Source T) : Type 0 where
  pub rises : RisingBranches cmp source.later.now
  pub differ : NeighboursDiffer source.first (source_later source)
