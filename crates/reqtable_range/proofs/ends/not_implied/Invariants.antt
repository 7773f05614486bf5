use Rattle.std.proofs.Common.{[], ◌∷◌, ◌++◌, take}
use Rattle.reqtable_range.specs.Sorting.{StandFor}
use Rattle.reqtable_range.specs.Together.{lent}
use Rattle.reqtable_range.proofs.ends.not_implied.Given as goal

abbrev pub invariant-loop-end : goal.invariant-loop-end
invariant-loop-end l = StandFor (lent (take l.end-index l.ends) ++ l.member ∷ []) (lent l.left.items ++ l.member ∷ [])
