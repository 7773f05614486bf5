use Rattle.std.proofs.Common.{◌≡◌, map, take}
use Rattle.pep508_evaluation.specs.Valuations.{valuation_of}
use Rattle.reqs_c_markers.specs.Markers.{mark_in}
use Rattle.reqs_c_lists.proofs.holding.marks.Given as goal

abbrev pub invariant-loop-line : goal.invariant-loop-line
invariant-loop-line l =
    l.marks.items
    ≡ map (mark_in (valuation_of l.environment l.extras)) (map (λ line. line.now) (take l.line-index l.line-items))
