use Rattle.std.proofs.Common.{[], ◌∷◌, ◌++◌, subst}
use Rattle.reqtable_range.specs.Sorting.{StandFor}
use Rattle.reqtable_range.specs.Together.{lent}
use Rattle.reqtable_range.proofs.Fewer.{implied_stand}
use Rattle.reqtable_range.proofs.ends.add_end.Goals as goal

pub returns-then-is_implied : goal.returns-then-is_implied
returns-then-is_implied c =
    let m = c.args.member.now in
    subst (λ xs. StandFor (lent xs ++ m ∷ []) (lent xs)) c.deref.ensures.value
    (implied_stand (lent c.deref.result.now) m (c.is_implied.ensures c.if-is_implied.true))
