use Rattle.std.proofs.Common.{length}
use Rattle.pep508_error.specs.Cursors.{behind, IsBehind}
use Rattle.pep508_comparison_parser.proofs.refusal_place.last_of.Given as goal

abbrev pub invariant-loop-later : goal.invariant-loop-later
invariant-loop-later l = IsBehind l.start l.last × IsBehind l.start l.next

abbrev pub decreases-loop-later : goal.decreases-loop-later
decreases-loop-later l = length (behind l.next)
