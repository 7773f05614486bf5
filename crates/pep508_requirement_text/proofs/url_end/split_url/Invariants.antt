use Rattle.std.proofs.Common.{length}
use Rattle.pep508_requirement_text.specs.UrlTurns.{GoesOnAt}
use Rattle.pep508_requirement_text.proofs.url_end.split_url.Given as goal

abbrev pub invariant-loop-behind : goal.invariant-loop-behind
invariant-loop-behind l = GoesOnAt l.brackets 0 l.text l.depth l.rest

abbrev pub decreases-loop-behind : goal.decreases-loop-behind
decreases-loop-behind l = length l.rest
