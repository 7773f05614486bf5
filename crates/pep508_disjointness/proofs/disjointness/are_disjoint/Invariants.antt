use Rattle.std.proofs.Common.{length}
use Rattle.pep508_disjointness.proofs.Ranks.{top}
use Rattle.pep508_disjointness.proofs.Looking.{AreLeft}
use Rattle.pep508_disjointness.proofs.disjointness.are_disjoint.Given as goal

abbrev pub decreases-loop-asked : goal.decreases-loop-asked
decreases-loop-asked l = top (length l.interner.nodes) l.left.keys

abbrev pub invariant-loop-asked : goal.invariant-loop-asked
invariant-loop-asked l = AreLeft l.interner.nodes l.fn.a l.fn.b l.left.keys
