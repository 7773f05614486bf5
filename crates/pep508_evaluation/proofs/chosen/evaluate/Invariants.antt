use Rattle.std.proofs.Common.{◌≡◌}
use Rattle.pep508_tree.specs.Meaning.{IsTree, holds}
use Rattle.pep508_evaluation.specs.Valuations.{valuation_of}
use Rattle.pep508_evaluation.proofs.chosen.evaluate.Given as goal

abbrev pub invariant-loop-truth : goal.invariant-loop-truth
invariant-loop-truth l =
    IsTree l.interner.nodes l.tree
    × (holds l.interner.nodes l.initial.tree (valuation_of l.environment l.extras)
    ≡ holds l.interner.nodes l.tree (valuation_of l.environment l.extras))

abbrev pub decreases-loop-truth : goal.decreases-loop-truth
decreases-loop-truth l = l.tree.place
