use Rattle.std.proofs.Common.{◌≡◌}
use Rattle.pep440_specifier.specs.Bounds.{lent_bound}
use Rattle.pep508_simplification.specs.Simplified.{between}
use Rattle.pep508_simplification.proofs.Simplifying.{AreSimpler}
use Rattle.pep508_simplification.proofs.narrowed.all_narrowed.Given as goal

abbrev pub invariant-loop-tree : goal.invariant-loop-tree
invariant-loop-tree l =
    AreSimpler (between (lent_bound l.lower) (lent_bound l.upper)) l.fn.interner.nodes l.interner.nodes l.trees
    l.tree-index l.simple.items l.known
    × (l.interner.conjunctions ≡ l.fn.interner.conjunctions)
